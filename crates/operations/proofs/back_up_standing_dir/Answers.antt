-- `back_up_standing_dir` backs up a directory that stands.
use mathlib.Core.Path.{sym, ◌∙◌}
use Rattle.recovery.proofs.Follow.{stays, follows_as}
use Rattle.operations.proofs.Careful.{lawful}
use Rattle.operations.proofs.Picks.{dir-kept, no-dir}
use Rattle.operations.proofs.back_up_standing_dir.Goals as goal

pub returns-then-dir_exists : goal.returns-then-dir_exists
returns-then-dir_exists c = follows_as lawful c.back_up_dir.ensures (dir-kept _ _ (sym c.dir_exists.ensures ∙ c.if-dir_exists.true))

pub returns-else-dir_exists : goal.returns-else-dir_exists
returns-else-dir_exists c = stays lawful c.requires.0 (no-dir _ _ (sym c.dir_exists.ensures ∙ c.if-dir_exists.false))
