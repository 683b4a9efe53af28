-- `four_at` reads four bytes, the first the most significant.
use mathlib.Core.Path.{◌∙◌}
use Rattle.spans.proofs.Eights.{four-there}
use Rattle.spans.proofs.four_at.Goals as goal

pub returns : goal.returns
returns c = c.from_be_bytes.ensures ∙ four-there _ _ c.requires
