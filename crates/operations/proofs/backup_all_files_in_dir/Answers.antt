use native.Mathlib.Omega.{arith}
use mathlib.Core.Path.{refl}
use Rattle.recovery.proofs.Over.{done}
use Rattle.operations.proofs.Careful.{lawful}
use Rattle.operations.specs.Parts.{back_up_all}
use Rattle.operations.proofs.Each.{each-name, each-end}
use Rattle.operations.proofs.backup_all_files_in_dir.Goals as goal

pub back_up-requires : goal.back_up-requires
back_up-requires c =
    let k = each-name _ _ c.loop-file.invariant refl (omega arith) in
    (c.loop-file.invariant.sound, (c.requires.1, k))

pub loop-file-preserved : goal.loop-file-preserved
loop-file-preserved c = done lawful c.loop-file.invariant refl (omega arith) c.back_up.ensures

pub returns : goal.returns
unfolding back_up_all
returns c = each-end _ _ c.loop-file.invariant (omega arith)
