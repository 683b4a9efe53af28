-- `back_up_dir`: a backup name of over 64 bytes is no step that could be made.
use Rattle.steps.specs.Steps.{step_of}
use Rattle.operations.proofs.Careful.{refused, long-dir}
use Rattle.operations.proofs.back_up_dir.Goals as goal

pub returns-in-Some : goal.returns-in-Some
unfolding step_of
returns-in-Some c = rw (rw c.in-Some.is at c.backup-b.ensures).same at c.attempt.ensures

pub returns-in-None : goal.returns-in-None
returns-in-None c = refused c.requires.0 (c.refuse.ensures _) _ (long-dir _ _ _ (rw c.in-None.is at c.backup-b.ensures))
