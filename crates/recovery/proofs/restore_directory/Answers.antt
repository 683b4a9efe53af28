-- `restore_directory`: by the directory's name.
use Rattle.steps.specs.Steps.{step_of}
use Rattle.recovery.proofs.Follow.{lawful, follows_as, follows_then, rests}
use Rattle.recovery.proofs.Picks.{restores-dir, restores-files}
use Rattle.recovery.proofs.restore_directory.Goals as goal

pub returns-then-run : goal.returns-then-run
returns-then-run c = rests c.if-run.true c.requires.0

pub advance-requires : goal.advance-requires
unfolding step_of
advance-requires c = let o = rw c.in-Some.is at c.original-restored.ensures in ((c.clear_dir.ensures.sound, record { names = (c.requires.1, o.0) }), tt)

pub returns-in-Some : goal.returns-in-Some
unfolding step_of
returns-in-Some c = follows_as lawful (follows_then lawful c.clear_dir.ensures c.advance.ensures) (restores-dir _ _ _ (rw c.in-Some.is at c.original-restored.ensures).1)

pub returns-in-None : goal.returns-in-None
returns-in-None c = follows_as lawful c.restore_bak_files_in_dir.ensures (restores-files _ _ (rw c.in-None.is at c.original-restored.ensures))
