-- `back_up_standing` backs up a file that stands.
use mathlib.Core.Path.{sym, ◌∙◌}
use Rattle.recovery.proofs.Follow.{stays, follows_as}
use Rattle.operations.proofs.Careful.{lawful}
use Rattle.operations.proofs.Picks.{file-kept, no-file}
use Rattle.operations.proofs.back_up_standing.Goals as goal

pub returns-then-exists : goal.returns-then-exists
returns-then-exists c = follows_as lawful c.back_up.ensures (file-kept _ _ _ (sym c.exists.ensures ∙ c.if-exists.true))

pub returns-else-exists : goal.returns-else-exists
returns-else-exists c = stays lawful c.requires.0 (no-file _ _ _ (sym c.exists.ensures ∙ c.if-exists.false))
