-- `lines_size` meets its contract. The invariant: the nodes before the index are counted.
use Rattle.listing.proofs.Counting.{Counting}
use Rattle.listing.proofs.lines_size.Given as goal

abbrev pub invariant-loop-x : goal.invariant-loop-x
invariant-loop-x l = Counting l.t l.size l.x-index
