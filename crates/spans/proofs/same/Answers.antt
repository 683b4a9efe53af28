-- `same` asks for their order, unless the names stand at one place.
use mathlib.Core.Path.{sym, ◌∙◌}
use Rattle.spans.proofs.Parts.{same_place}
use Rattle.spans.proofs.same.Goals as goal

pub returns-then-eq : goal.returns-then-eq
returns-then-eq c = c.if-eq.true ∙ sym (same_place _ c.args.a c.args.b (sym c.eq.ensures ∙ c.if-eq.true))
