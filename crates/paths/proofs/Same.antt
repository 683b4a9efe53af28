-- The library's equality of two slices is the documents' of two names.
use mathlib.Core.Path.{◌≡◌, refl, sym, ◌∙◌}
use mathlib.Core.Bool.{Bool, true, false, ◌&&◌}
use mathlib.Core.List.{[], ◌∷◌}
use Prim.Native.Nat.{ℕ, compare, Ordering}
use lib.Dec.{eqb, compare_is_eq}
use lib.Pointwise.{pointwise}
use Rattle.std.specs.Prelude.{nat_eq}
use Rattle.std.specs.List.{fold}
use Rattle.std.proofs.lemmas.Cmp.{nat_list_eq_equiv}
use Rattle.basics.specs.Order.{case_cmp, then_cmp, of_ordering, Name, cmp_name}
use Rattle.basics.specs.Base.{same_bytes, all_of}

pub same-cons : (a b : ℕ) (l m : Name) → same_bytes (a ∷ l) (b ∷ m) ≡ (eqb a b && same_bytes l m)
same-cons a b l m = go (compare a b)
  where
    go : (o : Ordering) → case_cmp (then_cmp (of_ordering o) (cmp_name l m)) false true false ≡ (compare_is_eq o && same_bytes l m)
    go Ordering.lt = refl
    go Ordering.eq = refl
    go Ordering.gt = refl

pub pointwise_same : (a b : Name) → pointwise nat_eq a b ≡ same_bytes a b
pointwise_same [] [] = refl
pointwise_same [] (y ∷ b) = refl
pointwise_same (x ∷ a) [] = refl
pointwise_same (x ∷ a) (y ∷ b) = rw (pointwise_same a b) (sym (same-cons x y a b))

-- The same, where the two stand the other way round.
pub turned : (a b : Name) → pointwise nat_eq a b ≡ same_bytes b a
turned a b = nat_list_eq_equiv.symm a b ∙ pointwise_same b a

-- A test of all elements, each looked at.
folded : (p : ℕ → Bool) (b : Bool) (l : Name) → fold (λ a x. a && p x) b l ≡ (b && all_of p l)
folded p true [] = refl
folded p false [] = refl
folded p true (x ∷ l) = folded p (p x) l
folded p false (x ∷ l) = folded p false l

pub all_folded : (p : ℕ → Bool) (l : Name) → fold (λ a x. a && p x) true l ≡ all_of p l
all_folded p l = folded p true l
