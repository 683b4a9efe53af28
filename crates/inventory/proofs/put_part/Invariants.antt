-- `put_part` meets its contract. The invariant: the bytes before the index are put.
use Rattle.inventory.proofs.Names.{Quoting}
use Rattle.inventory.proofs.put_part.Given as goal

abbrev pub invariant-loop-b : goal.invariant-loop-b
invariant-loop-b l = Quoting l.s l.initial.at l.initial.out l.b-index l.p l.out
