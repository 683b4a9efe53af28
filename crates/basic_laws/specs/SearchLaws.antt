-- A search through a list: the first element that passes a test, and whether any does.
use Rattle.std.specs.Prelude.{◌≡◌, refl, List, [], ◌∷◌, Bool, true, false, ◌||◌, if◌then◌else◌}
use Rattle.std.proofs.Common.{subst}
use Rattle.std.proofs.Math.Option.{some}
use Rattle.basics.specs.Base.{is_some, any_of, first_of}
use Rattle.basic_laws.specs.MapLaws.{none≢some, some_inj}
use Rattle.basic_laws.specs.Tests.{All}

module _ {A : Type 0} (p : A → Bool) where
  pub first_any : (l : List A) → is_some (first_of p l) ≡ any_of p l
  first_any [] = refl
  first_any (a ∷ l) = go (p a) (first_any l)
    where
      go : (b : Bool) → is_some (first_of p l) ≡ any_of p l → is_some (if b then some a else first_of p l) ≡ (b || any_of p l)
      go true e = refl
      go false e = e

  -- What holds of every element holds of the one that is found.
  pub first-has : (P : A → Type 0) (l : List A) → All P l → (a : A) → first_of p l ≡ some a → P a
  first-has P [] h a e = none≢some e
  first-has P (b ∷ l) h a e = go (p b) (first-has P l h.1 a) e
    where
      go : (t : Bool) → (first_of p l ≡ some a → P a) → (if t then some b else first_of p l) ≡ some a → P a
      go true k e = subst P (some_inj e) h.0
      go false k e = k e

swap : (p q x y : Bool) → ((p || q) || (x || y)) ≡ ((q || x) || (p || y))
swap true true x y = refl
swap true false true y = refl
swap true false false y = refl
swap false true x y = refl
swap false false true y = refl
swap false false false y = refl

-- One search by two tests is two searches, in whichever order.
pub any-either : {A : Type 0} (p q : A → Bool) (l : List A) → any_of (λ a. p a || q a) l ≡ (any_of q l || any_of p l)
any-either p q [] = refl
any-either p q (a ∷ l) = rw (any-either p q l) (swap (p a) (q a) (any_of q l) (any_of p l))
