-- `delete_backups_in`: by the directory's name.
use mathlib.Core.Path.{sym, ◌∙◌}
use Rattle.steps.specs.Steps.{step_of}
use Rattle.recovery.proofs.Follow.{lawful, follows_as, rests}
use Rattle.recovery.proofs.Picks.{drops-dir, drops-files}
use Rattle.recovery.proofs.delete_backups_in.Goals as goal

pub returns-then-run : goal.returns-then-run
returns-then-run c = rests c.if-run.true c.requires.0

pub advance-requires : goal.advance-requires
unfolding step_of
advance-requires c = ((c.requires.0, record { names = c.requires.1 }), tt)

pub returns-then-is_backup : goal.returns-then-is_backup
unfolding step_of
returns-then-is_backup c = follows_as lawful c.advance.ensures (drops-dir _ _ (sym c.is_backup.ensures ∙ c.if-is_backup.true))

pub returns : goal.returns
returns c = follows_as lawful c.delete_backup_files_in_dir.ensures (drops-files _ _ (sym c.is_backup.ensures ∙ c.if-is_backup.false))
