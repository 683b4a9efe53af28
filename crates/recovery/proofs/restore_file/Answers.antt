-- `restore_file`: by the file's name.
use mathlib.Core.Path.{sym, ◌∙◌}
use Rattle.steps.specs.Steps.{step_of}
use Rattle.recovery.proofs.Follow.{lawful, stays, follows_as, follows_then}
use Rattle.recovery.proofs.Nodes.{backup-named}
use Rattle.recovery.proofs.Picks.{restores, drops_tmp, leaves}
use Rattle.recovery.proofs.restore_file.Goals as goal

pub advance-requires : goal.advance-requires
unfolding step_of
advance-requires c = let o = rw c.in-Some.is at c.original-restored.ensures in ((c.clear_file.ensures.sound, record { names = (c.requires.1.0, backup-named _ _ c.requires.1.1 o.0 o.1) }), tt)

pub advance-requires-then-is_tmp : goal.advance-requires-then-is_tmp
unfolding step_of
advance-requires-then-is_tmp c = ((c.requires.0, record { names = c.requires.1 }), tt)

pub returns-then-is_tmp : goal.returns-then-is_tmp
unfolding step_of
returns-then-is_tmp c = follows_as lawful c.advance-then-is_tmp.ensures (drops_tmp _ _ _ (rw c.in-None.is at c.original-restored.ensures) (sym c.is_tmp.ensures ∙ c.if-is_tmp.true))

pub returns-in-Some : goal.returns-in-Some
unfolding step_of
returns-in-Some c = follows_as lawful (follows_then lawful c.clear_file.ensures c.advance.ensures) (restores _ _ _ _ (rw c.in-Some.is at c.original-restored.ensures).1)

pub returns-else-is_tmp : goal.returns-else-is_tmp
returns-else-is_tmp c = stays lawful c.requires.0 (leaves _ _ _ (rw c.in-None.is at c.original-restored.ensures) (sym c.is_tmp.ensures ∙ c.if-is_tmp.false))
