use native.Mathlib.Omega.{arith}
use Rattle.operations.proofs.Each.{op-ahead, ahead-next, ahead-end}
use Rattle.operations.proofs.apply_operations.Goals as goal

pub apply_operation-requires : goal.apply_operation-requires
apply_operation-requires c = (c.loop-op.invariant.sound, op-ahead c.loop-op.invariant _ (omega arith))

pub loop-op-preserved : goal.loop-op-preserved
loop-op-preserved c = ahead-next c.loop-op.invariant _ (omega arith) c.apply_operation.ensures

pub returns : goal.returns
returns c = ahead-end c.loop-op.invariant (omega arith)
