-- `apply_operations`: so many operations are done.
use Rattle.operations.proofs.Each.{Ahead}
use Rattle.operations.proofs.apply_operations.Given as goal

abbrev pub invariant-loop-op : goal.invariant-loop-op
invariant-loop-op l = Ahead l.src l.ops l.initial.run l.run l.op-index
