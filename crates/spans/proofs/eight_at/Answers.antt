-- `eight_at` reads eight bytes, the first the most significant.
use mathlib.Core.Path.{◌∙◌}
use Rattle.spans.proofs.Eights.{eight-there}
use Rattle.spans.proofs.eight_at.Goals as goal

pub returns : goal.returns
returns c = c.from_be_bytes.ensures ∙ eight-there _ _ c.requires
