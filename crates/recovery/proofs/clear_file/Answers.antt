-- `clear_file` removes a file that stands.
use mathlib.Core.Path.{sym, ◌∙◌}
use Rattle.steps.specs.Steps.{step_of}
use Rattle.recovery.proofs.Follow.{lawful, stays, follows_as}
use Rattle.recovery.proofs.Picks.{file_cleared, no-file}
use Rattle.recovery.proofs.clear_file.Goals as goal

pub advance-requires : goal.advance-requires
unfolding step_of
advance-requires c = ((c.requires.0, record { names = c.requires.1 }), tt)

pub returns-then-exists : goal.returns-then-exists
unfolding step_of
returns-then-exists c = follows_as lawful c.advance.ensures (file_cleared _ _ _ (sym c.exists.ensures ∙ c.if-exists.true))

pub returns-else-exists : goal.returns-else-exists
returns-else-exists c = stays lawful c.requires.0 (no-file _ _ _ (sym c.exists.ensures ∙ c.if-exists.false))
