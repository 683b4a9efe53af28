use Rattle.steps.specs.Steps.{step_of}
use Rattle.bench.proofs.renames.Goals as goal

pub advance-requires : goal.advance-requires
unfolding step_of
advance-requires c = ((c.loop.invariant, record { names = c.requires.1 }), tt)

pub advance-requires-in-loop : goal.advance-requires-in-loop
unfolding step_of
advance-requires-in-loop c =
    let n = c.requires.1 in
    ((c.advance.ensures.sound, record { names = (n.0, (n.1.1, n.1.0)) }), tt)
