-- The order of two keys: the first difference decides.
use mathlib.Core.Path.{◌≡◌, refl}
use Rattle.std.specs.declared.cmp.Ordering.{Ordering}
use Rattle.std.specs.Ordering.{MatchOrdering}
use Rattle.std.specs.declared.cmp.Ordering.TheVariants.{Less, Equal, Greater}
use Rattle.basics.specs.Order.{Name, cmp_name, cmp_key}
use Rattle.paths.specs.Compare.{order_of}

pub first_decides : {P : Type 0} (d e f g : Name) (o r : Ordering) → order_of o ≡ cmp_name d e → (P → order_of r ≡ cmp_name f g) → MatchOrdering o (r ≡ Less) P (r ≡ Greater) → order_of r ≡ cmp_key (d, f) (e, g)
unfolding cmp_key
first_decides d e f g Less r h k m = rw (m, ← h) refl
first_decides d e f g Equal r h k m = rw (← h) (k m)
first_decides d e f g Greater r h k m = rw (m, ← h) refl
