-- `apply_inner`: the start, the operations, and one of two ends.
use Rattle.steps.proofs.Running.{not-refused, refused-by}
use Rattle.commit.proofs.Applying.{read-valid, finished, rolled_back}
use Rattle.commit.proofs.apply_inner.Goals as goal

pub apply_operations-requires : goal.apply_operations-requires
apply_operations-requires c = (c.mark_and_sync.ensures.sound, (c.requires.1.0, read-valid _ c.args.store c.args.ops.now c.requires.1.1))

pub returns-then-is_none : goal.returns-then-is_none
returns-then-is_none c = finished _ c.args.store c.args.ops.now c.requires.1.1 c.args.end c.new-run.ensures c.mark_and_sync.ensures c.apply_operations.ensures (not-refused _ (rw c.if-is_none.true at c.is_none.ensures)) c.finish.ensures

pub returns-else-is_none : goal.returns-else-is_none
returns-else-is_none c = rolled_back _ c.args.store c.args.ops.now c.requires.1.1 c.args.end c.new-run.ensures c.mark_and_sync.ensures c.apply_operations.ensures (refused-by _ (rw c.if-is_none.false at c.is_none.ensures)) c.roll_back.ensures
