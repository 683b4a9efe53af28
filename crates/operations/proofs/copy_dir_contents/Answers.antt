use native.Mathlib.Omega.{arith}
use mathlib.Core.Path.{refl}
use Rattle.steps.specs.Steps.{step_of}
use Rattle.recovery.proofs.Over.{done}
use Rattle.operations.proofs.Careful.{lawful}
use Rattle.operations.specs.Parts.{copy_all}
use Rattle.operations.proofs.Each.{each-name, each-end}
use Rattle.operations.proofs.copy_dir_contents.Goals as goal

pub attempt-requires : goal.attempt-requires
unfolding step_of
attempt-requires c =
    let k = each-name _ _ c.loop-file.invariant refl (omega arith) in
    (c.loop-file.invariant.sound, record { names = (c.requires.1.0, (c.requires.1.1, k)) })

pub loop-file-preserved : goal.loop-file-preserved
unfolding step_of
loop-file-preserved c = done lawful c.loop-file.invariant refl (omega arith) c.attempt.ensures

pub returns : goal.returns
unfolding copy_all
returns c = each-end _ _ c.loop-file.invariant (omega arith)
