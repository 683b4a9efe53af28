-- `transaction::is_marked` meets its contract: a part of one byte is its first.
use mathlib.Core.Path.{◌∙◌}
use native.Mathlib.Omega.{arith}
use borrow.Author.Tests.{ne_eqb}
use Rattle.spans.specs.Spans.{name_of}
use Rattle.spans.proofs.Parts.{length-name}
use Rattle.transaction.proofs.Same.{not-one}
use Rattle.transaction.proofs.is_marked.Goals as goal

pub returns-in_default-3 : goal.returns-in_default-3
returns-in_default-3 c = not-one (name_of c.args.src.now c.args.r) 1 (λ e. omega (arith, e, length-name c.requires, c.in_default.len_at_least))

pub returns-else-r-eq0 : goal.returns-else-r-eq0
returns-else-r-eq0 c = ne_eqb _ 0 c.if-r-eq0.false ∙ not-one (name_of c.args.src.now c.args.r) 1 (λ e. omega (arith, e, length-name c.requires))
