-- `compare_spans` walks what is left of the part that both spans have, by four and byte by byte, and `compare_from` the rest. The invariant: what is left decides.
use Prim.Native.Nat.{◌-◌, ◌≤◌}
use lib.ListN.{drop}
use Rattle.basics.specs.Order.{cmp_name}
use Rattle.spans.specs.Spans.{name_of}
use Rattle.spans.proofs.Walk.{Walk}
use Rattle.spans.proofs.compare_spans.Given as goal

abbrev pub invariant-loop-i : goal.invariant-loop-i
invariant-loop-i l = Walk l.src l.a l.b (cmp_name (drop l.at (name_of l.src l.a)) (drop l.at (name_of l.src l.b))) l.i × (l.i ≤ l.m)

abbrev pub decreases-loop-i : goal.decreases-loop-i
decreases-loop-i l = l.m - l.i
