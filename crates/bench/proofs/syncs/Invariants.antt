-- Every run of it is sound.
use Rattle.steps.specs.CodeRuns.{SoundRun}
use Rattle.bench.proofs.syncs.Given as goal

abbrev pub invariant-loop : goal.invariant-loop
invariant-loop l = SoundRun l.image l.run
