-- Laws of `map` and `All` with `take`, `drop`, `set` and `get_or`.
use mathlib.Core.Path.{◌≡◌, refl, ap}
use mathlib.Core.List.{List, [], ◌∷◌, map}
use Prim.Native.Nat.{ℕ, zero, suc, ◌-◌, ◌<◌, ◌≤◌}
use native.Mathlib.Omega.{arith}
use Rattle.std.proofs.Common.{length-drop}
use native.Mathlib.Nat.{le_of_suc-le-suc, not-suc-le-zero}
use lib.ListN.{length, take, drop, get_or, set, length-set}
use lib.Seq.{take_at}
use Rattle.std.specs.List.{refill}
use Rattle.basic_laws.specs.Tests.{All}

module _ {A : Type 0} {B : Type 0} (f : A → B) where
  pub map-take : (n : ℕ) (l : List A) → map f (take n l) ≡ take n (map f l)
  map-take zero [] = refl
  map-take zero (x ∷ l) = refl
  map-take (suc n) [] = refl
  map-take (suc n) (x ∷ l) = ap (λ (r : List B). f x ∷ r) (map-take n l)

  pub map-drop : (n : ℕ) (l : List A) → map f (drop n l) ≡ drop n (map f l)
  map-drop zero [] = refl
  map-drop zero (x ∷ l) = refl
  map-drop (suc n) [] = refl
  map-drop (suc n) (x ∷ l) = map-drop n l

  pub map-set : (l : List A) (i : ℕ) (a : A) → map f (set l i a) ≡ set (map f l) i (f a)
  map-set [] i a = refl
  map-set (x ∷ l) zero a = refl
  map-set (x ∷ l) (suc i) a = ap (f x ∷◌) (map-set l i a)

pub take_whole : {A : Type 0} (n : ℕ) (l : List A) → length l ≤ n → take n l ≡ l
take_whole zero [] h = refl
take_whole zero (x ∷ l) h = absurd (not-suc-le-zero h)
take_whole (suc n) [] h = refl
take_whole (suc n) (x ∷ l) h = ap (x ∷◌) (take_whole n l (le_of_suc-le-suc h))

-- A list after an item of it is replaced through a slice of it all.
pub set_through : {A : Type 0} (l m : List A) (i : ℕ) (x : A) → m ≡ l → refill (length l) l (set m i x) ≡ set l i x
set_through l m i x e = rw e (take_at (set l i x) _ (length l) (length-set l i x))

-- The rest of a list, as a slice of it has it.
pub rest_whole : {A : Type 0} (n : ℕ) (l : List A) → take (length l - n) (drop n l) ≡ drop n l
rest_whole n l = take_whole (length l - n) (drop n l) (omega (arith, length-drop n l))

pub drop-zero : {A : Type 0} (l : List A) → drop zero l ≡ l
drop-zero [] = refl
drop-zero (x ∷ l) = refl

module _ {A : Type 0} (P : A → Type 0) where
  pub all-zero : (l : List A) → All P (take zero l)
  all-zero [] = tt
  all-zero (x ∷ l) = tt

  pub all_get_d : (l : List A) (i : ℕ) (d : A) → All P l → i < length l → P (get_or l i d)
  all_get_d [] i d h k = absurd (not-suc-le-zero k)
  all_get_d (x ∷ l) zero d h k = h.0
  all_get_d (x ∷ l) (suc i) d h k = all_get_d l i d h.1 (le_of_suc-le-suc k)
