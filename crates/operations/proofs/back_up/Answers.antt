-- `back_up`: a backup name of over 64 bytes is no step that could be made.
use mathlib.Core.Path.{sym, ◌∙◌}
use Rattle.basic_laws.specs.ValidNames.{backup-named}
use Rattle.steps.specs.Steps.{step_of}
use Rattle.steps.proofs.FileNames.{file-name}
use Rattle.operations.proofs.Careful.{refused, long-file}
use Rattle.operations.proofs.back_up.Goals as goal

pub attempt-requires : goal.attempt-requires
unfolding step_of
attempt-requires c = let q = (rw c.in-Some.is at c.backup-b.ensures) in (c.requires.0, record { names = (c.requires.1.0, (c.requires.1.1, file-name q.sound (λ e. backup-named _ (sym q.same ∙ e)))) })

pub returns-in-Some : goal.returns-in-Some
unfolding step_of
returns-in-Some c = rw (rw c.in-Some.is at c.backup-b.ensures).same at c.attempt.ensures

pub returns-in-None : goal.returns-in-None
returns-in-None c = refused c.requires.0 (c.refuse.ensures _) _ (long-file _ _ _ _ (rw c.in-None.is at c.backup-b.ensures))
