-- A text put part by part at a place of the lent output: written where it has room, and its end told in any case. So one walk tells how long a text
-- is, into an output that has no room, and writes it.
use Rattle.std.specs.Prelude.{◌≡◌, ℕ, ◌+◌, ◌≤◌, length}
use Rattle.basics.specs.Base.{Bytes}
use Rattle.field.specs.Writing.{written}

pub record Puts (text : Bytes) (at : ℕ) (out after : Bytes) (end : ℕ) : Type 0 where
  pub next : end ≡ at + length text
  pub size : length after ≡ length out
  pub same : at + length text ≤ length out → after ≡ written at text out

-- No place in an output is further on; no sum wraps.
abbrev pub furthest : ℕ
furthest = 1_000_000
