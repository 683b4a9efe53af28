-- The bytes into which the spans of a recording entry point: the image, and behind it the names that were given.
use Rattle.std.specs.Prelude.{◌≡◌, ℕ, ◌+◌, ◌≤◌, length, take}
use Rattle.basics.specs.Limits.{name_limit}
use Rattle.basics.specs.Order.{Name}
use Rattle.basics.specs.Base.{Bytes}
use Rattle.spans.specs.Spans.{Given}
use Rattle.lend.specs.declared.Named.{Named}

-- A name lent at a place: where it is valid it stands there; what stood before the place is as it was.
pub record Lends (at : ℕ) (n : Name) (before after : Bytes) (r : Named) : Type 0 where
  pub size : length after ≡ length before
  pub front : take at after ≡ take at before
  pub names : Given (take r.end after) r.name n
  pub starts : at ≤ r.end
  pub ends : r.end ≤ at + name_limit
