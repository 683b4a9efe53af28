-- `names::put_name` meets its contract: both parts, or neither.
use mathlib.Core.Path.{refl, ap, ◌∙◌}
use native.Mathlib.Omega.{arith}
use Rattle.std.proofs.Common.{rules, tests}
use Rattle.std.proofs.lemmas.List.{take_all}
use Rattle.basics.specs.Base.{Bytes}
use Rattle.field.specs.Writing.{written}
use Rattle.spans.proofs.Written.{both-written, both-none}
use Rattle.names.proofs.put_name.Goals as goal

pub returns-then-part-baks : goal.returns-then-part-baks
returns-then-part-baks c =
    both-written _ _ c.slices.result.0.now _ _ _ c.slices.ensures.whole (c.put_bytes.ensures ∙ ap (λ (l : Bytes). written c.args.at l c.args.out.now) (search (rules, tests, take_all))) c.put_bytes-then-part-baks.ensures refl (omega arith)

pub returns-else-part-baks : goal.returns-else-part-baks
returns-else-part-baks c = both-none _ c.slices.result.0.now c.slices.result.1.now _ _ c.slices.ensures.whole (omega arith)
