-- `clear_dir` removes a directory that stands.
use mathlib.Core.Path.{sym, ◌∙◌}
use Rattle.steps.specs.Steps.{step_of}
use Rattle.recovery.proofs.Follow.{lawful, stays, follows_as}
use Rattle.recovery.proofs.Picks.{dir_cleared, no-directory}
use Rattle.recovery.proofs.clear_dir.Goals as goal

pub advance-requires : goal.advance-requires
unfolding step_of
advance-requires c = ((c.requires.0, record { names = c.requires.1 }), tt)

pub returns-then-dir_exists : goal.returns-then-dir_exists
unfolding step_of
returns-then-dir_exists c = follows_as lawful c.advance.ensures (dir_cleared _ _ (sym c.dir_exists.ensures ∙ c.if-dir_exists.true))

pub returns-else-dir_exists : goal.returns-else-dir_exists
returns-else-dir_exists c = stays lawful c.requires.0 (no-directory _ _ (sym c.dir_exists.ensures ∙ c.if-dir_exists.false))
