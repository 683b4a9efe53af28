-- `make_missing` makes a directory that is missing.
use mathlib.Core.Path.{sym, ◌∙◌}
use Rattle.steps.specs.Steps.{step_of}
use Rattle.recovery.proofs.Follow.{stays, follows_as}
use Rattle.operations.proofs.Careful.{lawful}
use Rattle.operations.proofs.Picks.{dir-made, dir-stands}
use Rattle.operations.proofs.make_missing.Goals as goal

pub returns-then-not-dir_exists : goal.returns-then-not-dir_exists
unfolding step_of
returns-then-not-dir_exists c = follows_as lawful c.attempt.ensures (dir-made _ _ (sym c.dir_exists.ensures ∙ c.if-not-dir_exists.true))

pub returns-else-not-dir_exists : goal.returns-else-not-dir_exists
returns-else-not-dir_exists c = stays lawful c.requires.0 (dir-stands _ _ (sym c.dir_exists.ensures ∙ c.if-not-dir_exists.false))
