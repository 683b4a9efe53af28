use Rattle.std.proofs.lemmas.List.{nil_from_length}
use Rattle.model.specs.Plan.{undo_steps}
use Rattle.recovery.proofs.Entries.{back-next, back_end}
use Rattle.recovery.proofs.remove_new_artifacts.Goals as goal

pub loop-op-preserved : goal.loop-op-preserved
loop-op-preserved c = back-next undo_steps c.loop-op.invariant _ _ c.in-Some.ensures.steps c.undo_operation.ensures

pub returns : goal.returns
returns c = back_end undo_steps c.loop-op.invariant (nil_from_length _ c.in-None.ensures.steps.0)
