use native.Mathlib.Omega.{arith}
use mathlib.Core.Path.{refl}
use Rattle.model.specs.Plan.{restore_directory}
use Rattle.recovery.proofs.Follow.{lawful, rests}
use Rattle.recovery.proofs.Over.{done, dirs-end}
use Rattle.recovery.proofs.rollback_partial_commit.Goals as goal

pub returns-then-run : goal.returns-then-run
returns-then-run c = rests c.if-run.true c.requires

pub loop-dir-preserved : goal.loop-dir-preserved
loop-dir-preserved c = done lawful c.loop-dir.invariant refl (omega arith) c.restore_directory.ensures

pub returns : goal.returns
returns c = dirs-end restore_directory c.loop-dir.invariant (omega arith)
