-- What the parts of an image leave in the lent output, each behind the one before.
use Rattle.std.specs.Prelude.{◌≡◌, ℕ, ◌+◌, length}
use Rattle.basics.specs.Base.{Bytes}
use Rattle.field.specs.Writing.{written}

-- 01, Sixteen numbers: "An answer says how many bytes were written; the lent output keeps its bytes behind them." Some bytes written at a place,
-- and the place behind them.
pub record Puts (bytes : Bytes) (at : ℕ) (before after : Bytes) (end : ℕ) : Type 0 where
  pub same : after ≡ written at bytes before
  pub place : end ≡ at + length bytes
