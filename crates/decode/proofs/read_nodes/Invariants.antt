-- `decode::read_nodes` meets its contract. The invariant: what was read, and that the rest belongs to it (`Progress`). The measure is what is
-- left of the bytes.
use Prim.Native.Nat.{◌-◌}
use lib.ListN.{length}
use Rattle.decode.proofs.Progress.{Progress}
use Rattle.decode.proofs.read_nodes.Given as goal

abbrev pub invariant-loop-x : goal.invariant-loop-x
invariant-loop-x l = Progress l.staged l.src l.at l.table l.last

abbrev pub decreases-loop-x : goal.decreases-loop-x
decreases-loop-x l = length l.src - l.last.next
