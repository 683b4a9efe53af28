-- `is_tmp`: what has ".bak" behind it is no staging name; else the span's extension tells.
use mathlib.Core.Path.{ap, ◌∙◌}
use native.Mathlib.Omega.{arith}
use borrow.Author.Tests.{ne_eqb}
use Rattle.basics.specs.Name.{is_tmp}
use Rattle.spans.proofs.Backups.{behind-no_tmp, only_span}
use Rattle.spans.proofs.is_tmp.Goals as goal

pub returns-then-r-eq0 : goal.returns-then-r-eq0
returns-then-r-eq0 c = c.is_tmp.ensures ∙ ap is_tmp (only_span c.requires _ _ c.slices.ensures.whole c.slices.ensures.lengths.0 (omega arith))

pub returns-else-r-eq0 : goal.returns-else-r-eq0
returns-else-r-eq0 c = ne_eqb _ 0 c.if-r-eq0.false ∙ behind-no_tmp c.requires (omega arith)
