use native.Mathlib.Omega.{arith}
use mathlib.Core.Path.{refl}
use Rattle.model.specs.Plan.{remove_backups_in}
use Rattle.recovery.proofs.Follow.{lawful, rests}
use Rattle.recovery.proofs.Over.{done, dirs-end}
use Rattle.recovery.proofs.delete_all_backup_files.Goals as goal

pub returns-then-run : goal.returns-then-run
returns-then-run c = rests c.if-run.true c.requires

pub loop-dir-preserved : goal.loop-dir-preserved
loop-dir-preserved c = done lawful c.loop-dir.invariant refl (omega arith) c.delete_backups_in.ensures

pub returns : goal.returns
returns c = dirs-end remove_backups_in c.loop-dir.invariant (omega arith)
