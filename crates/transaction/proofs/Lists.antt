-- Lists that are read, stored to and mapped.
use mathlib.Core.Path.{◌≡◌, refl, ap}
use mathlib.Core.List.{List, [], ◌∷◌, ◌++◌, map}
use Prim.Native.Nat.{ℕ, zero, suc, ◌<◌}
use native.Mathlib.Omega.{arith}
use lib.ListN.{length, set, get_or}
use Rattle.basic_laws.specs.Tests.{All}

pub all-at : {A : Type 0} (P : A → Type 0) (l : List A) (i : ℕ) (d : A) → All P l → i < length l → P (get_or l i d)
all-at P [] i d h l = absurd (omega arith)
all-at P (a ∷ r) zero d h l = h.0
all-at P (a ∷ r) (suc i) d h l = all-at P r i d h.1 (omega arith)

pub map_at : {A B : Type 0} (f : A → B) (l : List A) (i : ℕ) (d : A) (e : B) → i < length l → get_or (map f l) i e ≡ f (get_or l i d)
map_at f [] i d e h = absurd (omega arith)
map_at f (a ∷ l) zero d e h = refl
map_at f (a ∷ l) (suc i) d e h = map_at f l i d e (omega arith)

pub map-append : {A B : Type 0} (f : A → B) (l m : List A) → map f (l ++ m) ≡ map f l ++ map f m
map-append f [] m = refl
map-append f (a ∷ l) m = ap (f a ∷◌) (map-append f l m)

pub all_set : {A : Type 0} (P : A → Type 0) (l : List A) (i : ℕ) (a : A) → All P l → P a → All P (set l i a)
all_set P [] i a h p = tt
all_set P (b ∷ l) zero a h p = (p, h.1)
all_set P (b ∷ l) (suc i) a h p = (h.0, all_set P l i a h.1 p)

pub all-append : {A : Type 0} (P : A → Type 0) (l : List A) (a : A) → All P l → P a → All P (l ++ a ∷ [])
all-append P [] a h p = (p, tt)
all-append P (b ∷ l) a h p = (h.0, all-append P l a h.1 p)
