-- What tests of the code say of the model's.
use mathlib.Core.Path.{◌≡◌, refl, sym, ap}
use mathlib.Core.List.{[], ◌∷◌}
use mathlib.Core.Bool.{Bool, true, false, ◌&&◌, false≢true}
use Prim.Native.Nat.{ℕ}
use native.Mathlib.Omega.{arith}
use lib.Dec.{eqb}
use lib.ListN.{length, get_or}
use borrow.Author.Tests.{eqb-true, eq-eqb}
use Rattle.basics.specs.Base.{Bytes, same_bytes}
use Rattle.basic_laws.specs.Tests.{same-eq, same_refl}

pub and_right : (a : Bool) → (a && false) ≡ false
and_right true = refl
and_right false = refl

-- A test that holds exactly where two strings are equal.
pub same_as : (a b : Bytes) (t : Bool) → (t ≡ true → a ≡ b) → (a ≡ b → t ≡ true) → same_bytes a b ≡ t
same_as a b true p q = rw (p refl) (same_refl b)
same_as a b false p q = go (same_bytes a b) refl
  where
    go : (s : Bool) → same_bytes a b ≡ s → s ≡ false
    go true e = sym (q (same-eq a b e))
    go false e = refl

pub not_same : (a b : Bytes) → (a ≡ b → ⊥) → same_bytes a b ≡ false
not_same a b h = same_as a b false (λ e. absurd (false≢true e)) (λ e. absurd (h e))

-- A value of one byte.
pub not-one : (v : Bytes) (b : ℕ) → (length v ≡ 1 → ⊥) → false ≡ same_bytes v (b ∷ [])
not-one v b h = sym (not_same v (b ∷ []) (λ e. h (ap length e)))

pub one_byte : (v : Bytes) (b : ℕ) → length v ≡ 1 → eqb (get_or v 0 0) b ≡ same_bytes v (b ∷ [])
one_byte [] b h = absurd (omega arith)
one_byte (x ∷ []) b h = sym (same_as (x ∷ []) (b ∷ []) (eqb x b) (λ e. ap (◌∷ []) (eqb-true x b e)) (λ e. eq-eqb x b (ap (λ (l : Bytes). get_or l 0 0) e)))
one_byte (x ∷ y ∷ v) b h = absurd (omega arith)
