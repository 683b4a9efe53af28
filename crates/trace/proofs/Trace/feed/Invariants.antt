-- `trace::Trace::feed`: byte by byte.
use Rattle.trace.proofs.Feeding.{Fed}
use Rattle.trace.proofs.Trace.feed.Given as goal

abbrev pub invariant-loop-x : goal.invariant-loop-x
invariant-loop-x l = Fed l.image l.part l.fn.self l.x-index l.trace
