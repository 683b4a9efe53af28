-- `undo_write`: the file stands, and its backup does not.
use mathlib.Core.Path.{sym, ◌∙◌}
use Rattle.steps.specs.Steps.{step_of}
use Rattle.recovery.proofs.Follow.{lawful, stays, follows_as}
use Rattle.recovery.proofs.Picks.{write-gone, write_kept, write-none}
use Rattle.recovery.proofs.undo_write.Goals as goal

pub returns-then-has_backup : goal.returns-then-has_backup
returns-then-has_backup c = stays lawful c.requires.0 (write_kept _ _ _ (sym c.exists.ensures ∙ c.if-exists.true) (sym c.has_backup.ensures ∙ c.if-has_backup.true))

pub advance-requires : goal.advance-requires
unfolding step_of
advance-requires c = ((c.requires.0, record { names = c.requires.1 }), tt)

pub returns-else-has_backup : goal.returns-else-has_backup
unfolding step_of
returns-else-has_backup c = follows_as lawful c.advance.ensures (write-gone _ _ _ (sym c.exists.ensures ∙ c.if-exists.true) (sym c.has_backup.ensures ∙ c.if-has_backup.false))

pub returns-else-exists : goal.returns-else-exists
returns-else-exists c = stays lawful c.requires.0 (write-none _ _ _ (sym c.exists.ensures ∙ c.if-exists.false))
