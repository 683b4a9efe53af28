-- `same_key`: two keys in lower case, compared from behind.
use Rattle.std.specs.Char.{eq_ignore_ascii_case}
use Rattle.std.specs.List.{list_all, zip}
use mathlib.Core.Path.{◌≡◌, refl, sym, ap, ap₂, ◌∙◌}
use mathlib.Core.List.{[], ◌∷◌, map, reverse, reverse_aux, reverse-reverse}
use mathlib.Core.Bool.{Bool, true, false}
use Prim.Native.Nat.{ℕ}
use native.Mathlib.Omega.{arith}
use lib.ListN.{length, length-reverse}
use lib.Dec.{eqb, eqb_refl}
use Rattle.basics.specs.Base.{Bytes, same_bytes}
use Rattle.basics.specs.Name.{lower_byte, lower}
use Rattle.basic_laws.specs.Tests.{same-eq, same_refl, and_both, and_made, eqb-eq, of_T}
use Rattle.paths.proofs.Lower.{lowered, length-lower}

abbrev pub alike : ℕ × ℕ → Bool
alike p = eq_ignore_ascii_case p.0 p.1

-- A test that decides whether two names are the same.
decided : (t : Bool) (a b : Bytes) → (t ≡ true → a ≡ b) → (a ≡ b → t ≡ true) → t ≡ same_bytes a b
decided true a b f g = rw (f refl) (sym (same_refl b))
decided false a b f g = go (same_bytes a b) refl
  where
    go : (t : Bool) → same_bytes a b ≡ t → false ≡ t
    go false e = refl
    go true e = g (same-eq a b e)

module _ (a b : Bytes) where
  pub other_length : (length a ≡ length b → ⊥) → eqb (length a) (length b) ≡ same_bytes (lower a) (lower b)
  other_length h = decided (eqb (length a) (length b)) (lower a) (lower b)
      (λ t. absurd (h (eqb-eq (length a) (length b) t)))
      (λ e. absurd (h (sym (length-lower a) ∙ ap length e ∙ length-lower b)))

-- Place by place.
same_lower : (a b : Bytes) → length a ≡ length b → list_all alike (zip a b) ≡ true → lower a ≡ lower b
unfolding lower
same_lower [] [] e h = refl
same_lower [] (y ∷ b) e h = absurd (omega arith)
same_lower (x ∷ a) [] e h = absurd (omega arith)
same_lower (x ∷ a) (y ∷ b) e h =
    let t = and_both (alike (x, y)) (list_all alike (zip a b)) h in
    ap₂ ◌∷◌ (sym (lowered x) ∙ eqb-eq _ _ t.0 ∙ lowered y) (same_lower a b (omega arith) t.1)

all-alike : (a b : Bytes) → lower a ≡ lower b → list_all alike (zip a b) ≡ true
unfolding lower
all-alike [] b e = refl
all-alike (x ∷ a) [] e = refl
all-alike (x ∷ a) (y ∷ b) e =
    let p : lower_byte x ≡ lower_byte y = cc in
    let q : map lower_byte a ≡ map lower_byte b = cc in
    and_made (alike (x, y)) (list_all alike (zip a b)) (rw (lowered x, lowered y, p) (of_T (eqb (lower_byte y) (lower_byte y)) (eqb_refl (lower_byte y)))) (all-alike a b q)

-- The same from behind.
lower_aux : (a r : Bytes) → map lower_byte (reverse_aux a r) ≡ reverse_aux (map lower_byte a) (map lower_byte r)
lower_aux [] r = refl
lower_aux (x ∷ a) r = lower_aux a (x ∷ r)

lower-reverse : (a : Bytes) → lower (reverse a) ≡ reverse (lower a)
unfolding lower
lower-reverse a = lower_aux a []

pub from-behind : (a b : Bytes) → length a ≡ length b → list_all alike (zip (reverse a) (reverse b)) ≡ same_bytes (lower a) (lower b)
from-behind a b e = decided (list_all alike (zip (reverse a) (reverse b))) (lower a) (lower b)
    (λ h. sym (reverse-reverse (lower a)) ∙ ap reverse (sym (lower-reverse a) ∙ same_lower (reverse a) (reverse b) (length-reverse a ∙ e ∙ sym (length-reverse b)) h ∙ lower-reverse b) ∙ reverse-reverse (lower b))
    (λ h. all-alike (reverse a) (reverse b) (lower-reverse a ∙ ap reverse h ∙ sym (lower-reverse b)))
