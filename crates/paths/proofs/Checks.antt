-- Names that `is_refused` lets through.
use mathlib.Core.Path.{◌≡◌, refl}
use mathlib.Core.List.{[], ◌∷◌}
use mathlib.Core.Bool.{Bool, true, false}
use native.Mathlib.Omega.{arith}
use lib.Dec.{ltb}
use lib.ListN.{length, get_or}
use borrow.Author.Tests.{ltb-true, ltb-false}
use Rattle.basics.specs.Order.{Name}
use Rattle.basics.specs.Base.{is_in}
use Rattle.basics.specs.Name.{refused_names}
use Rattle.basic_laws.specs.OrderLaws.{cmp_less, cmp_greater}

-- No refused name is empty, and each begins with a dot.
pub empty-allowed : (s : Name) → length s ≡ 0 → false ≡ is_in s refused_names
unfolding refused_names
empty-allowed [] h = refl
empty-allowed (x ∷ s) h = absurd (omega arith)

pub no-dot-allowed : (s : Name) → (get_or s 0 0 ≡ 0x2E → ⊥) → false ≡ is_in s refused_names
unfolding refused_names
no-dot-allowed [] h = refl
no-dot-allowed (x ∷ s) h = go (ltb x 0x2E) refl
  where
    go : (t : Bool) → ltb x 0x2E ≡ t → false ≡ is_in (x ∷ s) refused_names
    go true e = rw (cmp_less x 0x2E (ltb-true x 0x2E e))
    go false e = rw (cmp_greater x 0x2E (omega (arith, ltb-false x 0x2E e)))
