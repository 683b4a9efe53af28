use native.Mathlib.Omega.{arith}
use mathlib.Core.Path.{refl}
use Rattle.model.specs.Plan.{restore_file}
use Rattle.recovery.proofs.Follow.{lawful}
use Rattle.recovery.proofs.Over.{done, files-end}
use Rattle.recovery.proofs.restore_bak_files_in_dir.Goals as goal

pub loop-file-preserved : goal.loop-file-preserved
loop-file-preserved c = done lawful c.loop-file.invariant refl (omega arith) c.restore_file.ensures

pub returns : goal.returns
returns c = files-end restore_file _ c.loop-file.invariant (omega arith)
