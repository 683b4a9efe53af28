-- `encode::put_nodes` meets its contract. The invariant: what is left to write, over what stands, gives what the whole gives.
use Rattle.encode.proofs.Placing.{Placing}
use Rattle.encode.proofs.put_nodes.Given as goal

abbrev pub invariant-loop-x : goal.invariant-loop-x
invariant-loop-x l = Placing l.staged l.src l.t l.at l.initial.out l.out l.p l.x-index
