-- `undo_copy`: the directory stands, and its backup does not.
use mathlib.Core.Path.{sym, ◌∙◌}
use Rattle.steps.specs.Steps.{step_of}
use Rattle.recovery.proofs.Follow.{lawful, stays, follows_as}
use Rattle.recovery.proofs.Picks.{copy_gone, copy_kept, copy_none}
use Rattle.recovery.proofs.undo_copy.Goals as goal

pub returns-then-has_backup_dir : goal.returns-then-has_backup_dir
returns-then-has_backup_dir c = stays lawful c.requires.0 (copy_kept _ _ (sym c.dir_exists.ensures ∙ c.if-dir_exists.true) (sym c.has_backup_dir.ensures ∙ c.if-has_backup_dir.true))

pub advance-requires : goal.advance-requires
unfolding step_of
advance-requires c = ((c.requires.0, record { names = c.requires.1 }), tt)

pub returns-else-has_backup_dir : goal.returns-else-has_backup_dir
unfolding step_of
returns-else-has_backup_dir c = follows_as lawful c.advance.ensures (copy_gone _ _ (sym c.dir_exists.ensures ∙ c.if-dir_exists.true) (sym c.has_backup_dir.ensures ∙ c.if-has_backup_dir.false))

pub returns-else-dir_exists : goal.returns-else-dir_exists
returns-else-dir_exists c = stays lawful c.requires.0 (copy_none _ _ (sym c.dir_exists.ensures ∙ c.if-dir_exists.false))
