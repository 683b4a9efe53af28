-- What a contract sees of a `FixedVec`.
use Rattle.std.specs.Prelude.{ℕ, List, [], length}

-- The elements, in order; and what lies in the room behind them, which no element is. It is named since a value that is copied is known whole.
pub record FixedVec (T : Type 0) : Type 0 where
  pub items : List T
  pub spare : List T

-- `v.len()`
abbrev pub fixed_vec_len : {T : Type 0} → FixedVec T → ℕ
fixed_vec_len v = length v.items

-- Some elements, and nothing behind them.
abbrev pub of_items : {T : Type 0} → List T → FixedVec T
of_items xs = record { items = xs; spare = [] }
