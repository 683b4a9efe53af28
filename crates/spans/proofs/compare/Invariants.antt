-- `compare` walks the part that both spans have, by eights, and `compare_spans` the rest. The invariant: what is left decides.
use Prim.Native.Nat.{◌-◌, ◌≤◌}
use Rattle.basics.specs.Order.{cmp_name}
use Rattle.spans.specs.Spans.{name_of}
use Rattle.spans.proofs.Walk.{Walk}
use Rattle.spans.proofs.compare.Given as goal

abbrev pub invariant-loop-i : goal.invariant-loop-i
invariant-loop-i l = Walk l.src l.a l.b (cmp_name (name_of l.src l.a) (name_of l.src l.b)) l.i × (l.i ≤ l.m)

abbrev pub decreases-loop-i : goal.decreases-loop-i
decreases-loop-i l = l.m - l.i
