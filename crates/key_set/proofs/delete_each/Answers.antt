use native.Mathlib.Omega.{arith}
use Rattle.key_set.proofs.Deletes.{deleting, all-deleted, may_delete, one-missing, one-deleted}
use Rattle.key_set.proofs.delete_each.Goals as goal

pub loop-op-init : goal.loop-op-init
loop-op-init c = deleting c.requires.1.0 c.requires.1.1 c.requires.0

pub delete_one-requires : goal.delete_one-requires
delete_one-requires c = may_delete c.loop-op.invariant _ (omega arith)

pub returns-then-not-delete_one : goal.returns-then-not-delete_one
returns-then-not-delete_one c = one-missing c.loop-op.invariant _ (omega arith) c.delete_one.ensures c.if-not-delete_one.true

pub loop-op-preserved : goal.loop-op-preserved
loop-op-preserved c = one-deleted c.loop-op.invariant _ (omega arith) c.delete_one.ensures c.if-not-delete_one.false

pub returns : goal.returns
returns c = all-deleted c.loop-op.invariant (omega arith)
