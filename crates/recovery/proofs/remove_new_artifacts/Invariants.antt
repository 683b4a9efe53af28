-- `remove_new_artifacts`: the operations that the iterator has left are still to be undone.
use Rattle.model.specs.Plan.{undo_steps}
use Rattle.recovery.proofs.Entries.{Back}
use Rattle.recovery.proofs.remove_new_artifacts.Given as goal

abbrev pub invariant-loop-op : goal.invariant-loop-op
invariant-loop-op l = Back undo_steps l.src l.ops l.initial.run l.run l.op-iterator.iter.rest.now
