-- What is no kind has an empty row: the table ends with the seventh.
use mathlib.Core.Path.{◌≡◌, refl, sym}
use mathlib.Core.List.{[]}
use Prim.Native.Nat.{ℕ, zero, suc, ◌<◌}
use native.Mathlib.Omega.{arith}
use lib.ListN.{get_or-eq_default}
use Rattle.model.specs.Operation.{field_table, field_tags}

pub no_row : (k : ℕ) → k < 1 → [] ≡ field_tags k
unfolding field_tags
no_row zero h = refl
no_row (suc k) h = absurd (omega arith)

pub past-rows : (k : ℕ) → 7 < k → [] ≡ field_tags k
unfolding field_tags field_table
past-rows zero h = absurd (omega arith)
past-rows (suc i) h = sym (get_or-eq_default field_table [] {n = i} (omega arith))
