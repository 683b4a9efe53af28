-- The steps are few enough for one part more.
use Rattle.std.proofs.Common.{◌<◌}
use Rattle.trace.specs.Tracking.{steps_of}
use Rattle.step_trace.proofs.read_on.Given as goal

abbrev pub invariant-loop : goal.invariant-loop
invariant-loop g l = steps_of l.trace < 0xFFFF_FFFF
