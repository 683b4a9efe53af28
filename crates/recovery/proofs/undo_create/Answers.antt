-- `undo_create`: the directory stands, and is empty.
use mathlib.Core.Path.{sym, ◌∙◌}
use Rattle.steps.specs.Steps.{step_of}
use Rattle.recovery.proofs.Follow.{lawful, stays, follows_as}
use Rattle.recovery.proofs.Picks.{create_gone, create_kept, create_none}
use Rattle.recovery.proofs.undo_create.Goals as goal

pub advance-requires : goal.advance-requires
unfolding step_of
advance-requires c = ((c.requires.0, record { names = c.requires.1 }), tt)

pub returns-then-is_dir_empty : goal.returns-then-is_dir_empty
unfolding step_of
returns-then-is_dir_empty c = follows_as lawful c.advance.ensures (create_gone _ _ (sym c.dir_exists.ensures ∙ c.if-dir_exists.true) (sym c.is_dir_empty.ensures ∙ c.if-is_dir_empty.true))

pub returns-else-is_dir_empty : goal.returns-else-is_dir_empty
returns-else-is_dir_empty c = stays lawful c.requires.0 (create_kept _ _ (sym c.dir_exists.ensures ∙ c.if-dir_exists.true) (sym c.is_dir_empty.ensures ∙ c.if-is_dir_empty.false))

pub returns-else-dir_exists : goal.returns-else-dir_exists
returns-else-dir_exists c = stays lawful c.requires.0 (create_none _ _ (sym c.dir_exists.ensures ∙ c.if-dir_exists.false))
