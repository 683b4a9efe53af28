-- `put_text` meets its contract. The invariant: the nodes from the index on and the closing braces are left to put.
use Rattle.inventory.proofs.Walks.{Walking}
use Rattle.inventory.proofs.put_text.Given as goal

abbrev pub invariant-loop-x : goal.invariant-loop-x
invariant-loop-x l = Walking l.src l.t l.initial.out l.x-index l.before l.p l.out
