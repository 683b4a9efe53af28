use native.Mathlib.Omega.{arith}
use mathlib.Core.Path.{refl}
use Rattle.steps.specs.Steps.{step_of}
use Rattle.recovery.proofs.Follow.{lawful, rests}
use Rattle.recovery.proofs.Over.{name, done, staging-end}
use Rattle.recovery.proofs.cleanup_staging_dir.Goals as goal

pub returns-then-run : goal.returns-then-run
returns-then-run c = rests c.if-run.true c.requires

pub advance-requires : goal.advance-requires
unfolding step_of
advance-requires c =
    let k = name lawful c.loop-file.invariant refl (omega arith) in
    ((c.loop-file.invariant.sound, record { names = k }), tt)

pub loop-file-preserved : goal.loop-file-preserved
unfolding step_of
loop-file-preserved c = done lawful c.loop-file.invariant refl (omega arith) c.advance.ensures

pub returns : goal.returns
returns c = staging-end c.loop-file.invariant (omega arith)
