-- What two names have in common, and their order. 01, Listings and file steps: "in ascending byte order, a shorter name before a longer
-- one that begins with it".
use Rattle.std.specs.Prelude.{◌≡◌, ℕ, ◌≤◌, ◌<◌, length, take, get_or}
use Rattle.std.specs.declared.cmp.Ordering.{Ordering}
use Rattle.std.specs.declared.cmp.Ordering.TheVariants.{Less, Equal, Greater}
use Rattle.basics.specs.Order.{Cmp, lt, eq, gt, Name}

-- What the library's comparison finds, in the documents' words.
abbrev pub order_of : Ordering → Cmp
order_of Less = lt
order_of Equal = eq
order_of Greater = gt

-- The first r bytes of two names agree, and there one of them ends or they differ.
pub record Common (a b : Name) (r : ℕ) : Type 0 where
  pub in_left : r ≤ length a
  pub in_right : r ≤ length b
  pub same : take r a ≡ take r b
  pub differ : r < length a → r < length b → get_or a r 0 ≡ get_or b r 0 → ⊥
