-- `write`: making the collection changes nothing at the key.
use Rattle.steps.specs.Steps.{step_of}
use Rattle.steps.proofs.FileNames.{filled}
use Rattle.recovery.proofs.Follow.{follows_as, follows_then}
use Rattle.operations.proofs.Careful.{lawful}
use Rattle.operations.proofs.ByKind.{by-write}
use Rattle.operations.proofs.write.Goals as goal

pub returns : goal.returns
unfolding step_of
returns c = λ mark. follows_as lawful (follows_then lawful (follows_then lawful c.make_missing.ensures c.back_up_standing.ensures) c.attempt.ensures) (by-write _ _ _ _ mark (filled c.requires.1.1.0))
