-- Bytes that are compared by fours and eights, as one number.
use mathlib.Core.Path.{◌≡◌, refl}
use mathlib.Core.List.{[], ◌∷◌}
use mathlib.Core.Bool.{Bool, true, false}
use Prim.Native.Nat.{ℕ, zero, suc, ◌+◌, ◌*◌, ◌≤◌, ◌<◌}
use native.Mathlib.Omega.{arith}
use lib.Dec.{ltb}
use lib.ListN.{length, take, drop, get_or}
use borrow.Author.Tests.{ltb-true, ltb-false}
use Rattle.basics.specs.Order.{then_cmp, cmp_nat, cmp_name}
use Rattle.basics.specs.Base.{Bytes}
use Rattle.std.specs.Int.{w32, w64, from_be_bytes}
use Rattle.basic_laws.specs.OrderLaws.{nat_laws, cmp_less, cmp_greater}
use Rattle.basic_laws.specs.Tests.{All}
use Rattle.basic_laws.specs.FieldLaws.{Byte}
use Rattle.field.proofs.Reading.{four}
use Rattle.spans.specs.Spans.{onto, from_big_endian}

-- The library's number of the four bytes at a place, and of the eight.
pub four-there : (s : Bytes) (at : ℕ) → at + 4 ≤ length s → from_be_bytes w32 (get_or s at 0 ∷ get_or s (at + 1) 0 ∷ get_or s (at + 2) 0 ∷ get_or s (at + 3) 0 ∷ []) ≡ from_big_endian (take 4 (drop at s))
unfolding from_big_endian onto
four-there s at h = rw (four s at h) (omega arith)

pub eight-there : (s : Bytes) (at : ℕ) → at + 8 ≤ length s → from_be_bytes w64 (get_or s at 0 ∷ get_or s (at + 1) 0 ∷ get_or s (at + 2) 0 ∷ get_or s (at + 3) 0 ∷ get_or s (at + 4) 0 ∷ get_or s (at + 5) 0 ∷ get_or s (at + 6) 0 ∷ get_or s (at + 7) 0 ∷ []) ≡ from_big_endian (take 8 (drop at s))
unfolding from_big_endian onto
eight-there s at h =
    let a : at + 4 + 1 ≡ at + 5 = omega arith in
    let b : at + 4 + 2 ≡ at + 6 = omega arith in
    let c : at + 4 + 3 ≡ at + 7 = omega arith in
    rw (four s at (omega arith), four s (at + 4) (omega arith), a, b, c) (omega arith)

-- The lesser number stays below, whatever bytes come behind.
onto-less : (k m n : ℕ) (a b : Bytes) → m < n → k ≤ length a → k ≤ length b → All Byte (take k a) → All Byte (take k b) → onto m (take k a) < onto n (take k b)
unfolding onto
onto-less zero m n a b h l r p q = h
onto-less (suc k) m n [] b h l r p q = absurd (omega arith)
onto-less (suc k) m n (x ∷ a) [] h l r p q = absurd (omega arith)
onto-less (suc k) m n (x ∷ a) (y ∷ b) h l r p q = onto-less k (256 * m + x) (256 * n + y) a b (omega (arith, p.0)) (omega arith) (omega arith) p.1 q.1

-- The numbers of the first k bytes decide, and where they are equal the bytes behind.
by_number : (k n : ℕ) (a b : Bytes) → k ≤ length a → k ≤ length b → All Byte (take k a) → All Byte (take k b) → then_cmp (cmp_nat (onto n (take k a)) (onto n (take k b))) (cmp_name (drop k a) (drop k b)) ≡ cmp_name a b
unfolding onto
by_number zero n a b l r p q = rw (nat_laws.reflexive n)
by_number (suc k) n [] b l r p q = absurd (omega arith)
by_number (suc k) n (x ∷ a) [] l r p q = absurd (omega arith)
by_number (suc k) n (x ∷ a) (y ∷ b) l r p q = go (ltb x y) (ltb y x) refl refl (by_number k (256 * n + x) a b (omega arith) (omega arith) p.1 q.1)
  where
    go : (t u : Bool) → ltb x y ≡ t → ltb y x ≡ u → then_cmp (cmp_nat (onto (256 * n + x) (take k a)) (onto (256 * n + x) (take k b))) (cmp_name (drop k a) (drop k b)) ≡ cmp_name a b
        → then_cmp (cmp_nat (onto (256 * n + x) (take k a)) (onto (256 * n + y) (take k b))) (cmp_name (drop k a) (drop k b)) ≡ then_cmp (cmp_nat x y) (cmp_name a b)
    go true u s t ih =
        let h : x < y = ltb-true _ _ s in
        rw (cmp_less x y h, cmp_less _ _ (onto-less k (256 * n + x) (256 * n + y) a b (omega arith) (omega arith) (omega arith) p.1 q.1))
    go false true s t ih =
        let h : y < x = ltb-true _ _ t in
        rw (cmp_greater x y h, cmp_greater _ _ (onto-less k (256 * n + y) (256 * n + x) b a (omega arith) (omega arith) (omega arith) q.1 p.1))
    go false false s t ih =
        let e : y ≡ x = omega (arith, ltb-false x y s, ltb-false y x t) in
        rw (e, nat_laws.reflexive x) ih

pub numbers-decide : (k : ℕ) (a b : Bytes) → k ≤ length a → k ≤ length b → All Byte (take k a) → All Byte (take k b) → then_cmp (cmp_nat (from_big_endian (take k a)) (from_big_endian (take k b))) (cmp_name (drop k a) (drop k b)) ≡ cmp_name a b
unfolding from_big_endian
numbers-decide k a b l r p q = by_number k 0 a b l r p q
