use Rattle.steps.specs.Steps.{step_of}
use Rattle.bench.proofs.syncs.Goals as goal

pub advance-requires : goal.advance-requires
unfolding step_of
advance-requires c = ((c.loop.invariant, record { names = tt }), tt)
