-- `remove_log` removes a log that stands.
use mathlib.Core.Path.{sym, ◌∙◌}
use Rattle.steps.specs.Steps.{step_of}
use Rattle.recovery.proofs.Follow.{lawful, stays, follows_as}
use Rattle.recovery.proofs.Picks.{log-gone, no-log}
use Rattle.recovery.proofs.remove_log.Goals as goal

pub advance-requires : goal.advance-requires
unfolding step_of
advance-requires c = ((c.requires, record { names = tt }), tt)

pub returns-then-is_some : goal.returns-then-is_some
unfolding step_of
returns-then-is_some c = follows_as lawful c.advance.ensures (log-gone _ _ (sym c.is_some.ensures ∙ c.if-is_some.true))

pub returns-else-is_some : goal.returns-else-is_some
returns-else-is_some c = stays lawful c.requires (no-log _ _ (sym c.is_some.ensures ∙ c.if-is_some.false))
