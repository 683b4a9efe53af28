-- `delete_backup_file`: by the file's name.
use mathlib.Core.Path.{sym, ◌∙◌}
use Rattle.steps.specs.Steps.{step_of}
use Rattle.recovery.proofs.Follow.{lawful, stays, follows_as}
use Rattle.recovery.proofs.Picks.{drops-backup, no-backup}
use Rattle.recovery.proofs.delete_backup_file.Goals as goal

pub advance-requires : goal.advance-requires
unfolding step_of
advance-requires c = ((c.requires.0, record { names = c.requires.1 }), tt)

pub returns-then-is_backup : goal.returns-then-is_backup
unfolding step_of
returns-then-is_backup c = follows_as lawful c.advance.ensures (drops-backup _ _ _ (sym c.is_backup.ensures ∙ c.if-is_backup.true))

pub returns-else-is_backup : goal.returns-else-is_backup
returns-else-is_backup c = stays lawful c.requires.0 (no-backup _ _ _ (sym c.is_backup.ensures ∙ c.if-is_backup.false))
