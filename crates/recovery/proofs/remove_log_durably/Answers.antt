-- `remove_log_durably`: two steps in a row.
use mathlib.Core.List.{[], ◌∷◌}
use Rattle.model.specs.Step.{sync_journal}
use Rattle.steps.specs.Steps.{step_of}
use Rattle.recovery.proofs.Follow.{step_then}
use Rattle.recovery.proofs.remove_log_durably.Goals as goal

pub advance-requires : goal.advance-requires
unfolding step_of
advance-requires c = ((c.requires, record { names = tt }), tt)

pub advance-requires-2 : goal.advance-requires-2
unfolding step_of
advance-requires-2 c = ((c.advance.ensures.sound, record { names = tt }), tt)

pub returns : goal.returns
unfolding step_of
returns c = step_then c.advance.ensures (sync_journal ∷ []) c.advance-2.ensures
