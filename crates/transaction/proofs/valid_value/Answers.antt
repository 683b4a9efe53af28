-- `transaction::valid_value` meets its contract: a mark of any other length.
use mathlib.Core.Path.{sym, ◌∙◌}
use native.Mathlib.Omega.{arith}
use Rattle.transaction.proofs.Checks.{long-mark}
use Rattle.transaction.proofs.valid_value.Goals as goal

pub returns-in_default-3 : goal.returns-in_default-3
returns-in_default-3 c = long-mark _ _ c.if-tag-eq1.false (sym c.is_mark.ensures ∙ c.if-is_mark.true) (λ e. omega (arith, e, c.in_default.len_at_least))
