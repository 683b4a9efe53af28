-- `original` takes ".bak" away again, from the number behind the span or from the span.
use native.Mathlib.Omega.{arith}
use mathlib.Core.Path.{sym, ◌∙◌}
use Rattle.spans.proofs.Backups.{no-original, one_less, enough, shorter}
use Rattle.spans.proofs.original.Goals as goal

pub returns-then-not-is_backup : goal.returns-then-not-is_backup
returns-then-not-is_backup c = no-original _ (sym c.is_backup.ensures ∙ c.if-not-is_backup.true)

pub overflow_sub-result-else-r-gt0 : goal.overflow_sub-result-else-r-gt0
overflow_sub-result-else-r-gt0 c = enough c.requires (sym c.is_backup.ensures ∙ c.if-not-is_backup.false) (omega arith)

pub returns-then-r-gt0 : goal.returns-then-r-gt0
returns-then-r-gt0 c = one_less c.requires (sym c.is_backup.ensures ∙ c.if-not-is_backup.false) (omega arith)

pub returns-else-r-gt0 : goal.returns-else-r-gt0
returns-else-r-gt0 c = shorter c.requires (sym c.is_backup.ensures ∙ c.if-not-is_backup.false) (omega arith)
