-- `put_lines` meets its contract. The invariant: what is left to write, over what stands, gives what the whole gives.
use Rattle.listing.proofs.Placing.{Placing}
use Rattle.listing.proofs.put_lines.Given as goal

abbrev pub invariant-loop-x : goal.invariant-loop-x
invariant-loop-x l = Placing l.src l.t l.at l.initial.out l.out l.p l.x-index
