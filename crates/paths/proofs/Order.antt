-- The library's order of two slices is the documents' order of two names.
use mathlib.Core.Path.{◌≡◌, refl}
use mathlib.Core.List.{[], ◌∷◌}
use mathlib.Core.Bool.{true}
use Prim.Native.Nat.{◌<◌}
use native.Mathlib.Omega.{arith}
use lib.ListN.{length}
use borrow.Author.Tests.{eqb-true}
use Rattle.std.specs.Ordering.{nat_cmp}
use Rattle.std.specs.Cmp.Lexicographic.{slice_cmp}
use Rattle.std.proofs.lemmas.Cmp.{ranked, by_ranked}
use Rattle.std.specs.Prelude.{nat_eq}
use Rattle.std.specs.List.{starts_with}
use Rattle.basics.specs.Order.{lt, Name, cmp_name}
use Rattle.basic_laws.specs.OrderLaws.{nat_laws, cmp_less, cmp_greater}
use Rattle.basic_laws.specs.Tests.{and_both}
use Rattle.paths.specs.Compare.{order_of}

pub slice-name : (a b : Name) → order_of (slice_cmp nat_cmp a b) ≡ cmp_name a b
slice-name [] [] = refl
slice-name [] (y ∷ b) = refl
slice-name (x ∷ a) [] = refl
slice-name (x ∷ a) (y ∷ b) =
    by_ranked (x < y) (x ≡ y) (y < x) (nat_cmp x y) (ranked x y (nat_cmp x y) refl)
    (λ e h. rw (e, cmp_less x y h))
    (λ e h. rw (e, h, nat_laws.reflexive y) (slice-name a b))
    (λ e h. rw (e, cmp_greater x y h))

-- A shorter name before a longer one that begins with it.
pub shorter_first : (a b : Name) → starts_with nat_eq b a ≡ true → length a < length b → cmp_name a b ≡ lt
shorter_first [] [] h l = absurd (omega arith)
shorter_first [] (y ∷ b) h l = refl
shorter_first (x ∷ a) [] h l = absurd (omega arith)
shorter_first (x ∷ a) (y ∷ b) h l =
    let p = and_both (nat_eq x y) (starts_with nat_eq b a) h in
    rw (eqb-true x y p.0, nat_laws.reflexive y) (shorter_first a b p.1 (omega arith))

pub ruleset name_order = (slice-name, shorter_first)
