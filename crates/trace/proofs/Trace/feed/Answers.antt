use native.Mathlib.Omega.{arith}
use Rattle.trace.proofs.Feeding.{fed-more, fed-all}
use Rattle.trace.proofs.Trace.feed.Goals as goal

pub loop-x-preserved : goal.loop-x-preserved
loop-x-preserved c = fed-more c.loop-x.invariant c.loop-x-test.true c.meet-trace.ensures

pub returns : goal.returns
returns c = fed-all c.loop-x.invariant (omega arith)
