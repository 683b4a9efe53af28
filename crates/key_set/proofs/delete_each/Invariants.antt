-- `delete_each` meets its contract: the operations from the index on are left.
use Rattle.key_set.proofs.Deletes.{Deleting}
use Rattle.key_set.proofs.delete_each.Given as goal

abbrev pub invariant-loop-op : goal.invariant-loop-op
invariant-loop-op l = Deleting l.src l.ops l.initial.store l.store l.op-index
