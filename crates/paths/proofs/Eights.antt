-- A test of all bytes, looked at eight at a time.
use mathlib.Core.Path.{◌≡◌, refl, sym, ap, ◌∙◌}
use mathlib.Core.Bool.{Bool, true, false, ◌&&◌}
use mathlib.Core.List.{List, [], ◌∷◌, ◌++◌}
use Prim.Native.Nat.{ℕ, zero, suc, ◌+◌, ◌-◌, ◌*◌, ◌/◌, ◌≤◌}
use native.Mathlib.Omega.{arith}
use lib.ListN.{length, take, drop, take-append-drop}
use lib.Seq.{take-add, take-take, length-take-le}
use Rattle.std.specs.List.{list_all}
use Rattle.std.specs.Simd.{first_chunks}
use Rattle.basics.specs.Base.{Bytes, all_of}

-- How flags are grouped says nothing, nor does one that is named twice.
and_assoc : (a b c : Bool) → ((a && b) && c) ≡ (a && (b && c))
and_assoc true b c = refl
and_assoc false b c = refl

and_twice : (a b c : Bool) → ((a && b) && (b && c)) ≡ (a && (b && c))
and_twice true true c = refl
and_twice true false c = refl
and_twice false b c = refl

module _ (p : ℕ → Bool) where
  joined : (a b : Bytes) → all_of p (a ++ b) ≡ (all_of p a && all_of p b)
  joined [] b = refl
  joined (x ∷ a) b = rw (joined a b) (sym (and_assoc (p x) (all_of p a) (all_of p b)))

  parted : (k : ℕ) (s : Bytes) → all_of p s ≡ (all_of p (take k s) && all_of p (drop k s))
  parted k s = ap (all_of p) (sym (take-append-drop k s)) ∙ joined (take k s) (drop k s)

  -- The first k eights.
  pub all-eights : (k : ℕ) (s : Bytes) → list_all (all_of p) (first_chunks 8 k s) ≡ all_of p (take (k * 8) s)
  all-eights zero s = refl
  all-eights (suc k) s =
      let e : suc k * 8 ≡ 8 + k * 8 = omega arith in
      rw (e, take-add 8 (k * 8) s, joined (take 8 s) (take (k * 8) (drop 8 s)), all-eights k (drop 8 s))

  -- The bytes up to j and those from i on, which overlap.
  overlap : (i j : ℕ) (s : Bytes) → i ≤ j → (all_of p (take j s) && all_of p (drop i s)) ≡ all_of p s
  overlap i j s h =
      let e : j ≡ i + (j - i) = omega arith in
      let b : Bytes = take (j - i) (drop i s) in
      let front : all_of p (take j s) ≡ (all_of p (take i s) && all_of p b)
      = ap (λ (m : ℕ). all_of p (take m s)) e ∙ ap (all_of p) (take-add i (j - i) s) ∙ joined (take i s) b in
      let behind : all_of p (drop i s) ≡ (all_of p b && all_of p (drop (j - i) (drop i s))) = parted (j - i) (drop i s) in
      let whole : all_of p s ≡ (all_of p (take i s) && (all_of p b && all_of p (drop (j - i) (drop i s)))) = rw behind at (parted i s) in
      rw (front, behind, whole) (and_twice (all_of p (take i s)) (all_of p b) (all_of p (drop (j - i) (drop i s))))

  -- The eights of all bytes but the last one: where they pass, the last eight decide, else they do.
  module _ (s : Bytes) (h : 8 ≤ length s) {eights : List Bytes} (e : eights ≡ first_chunks 8 (length (take (length s - 1) s) / 8) (take (length s - 1) s))
      {r : Bool} (a : r ≡ list_all (all_of p) eights) where
    both : (r && all_of p (drop (length s - 8) s)) ≡ all_of p s
    both =
        let l : length (take (length s - 1) s) ≡ length s - 1 = length-take-le (length s - 1) s (omega arith) in
        let k : ℕ = (length s - 1) / 8 in
        rw (a, e, l, all-eights k (take (length s - 1) s), take-take (k * 8) (length s - 1) s (omega arith)) (overlap (length s - 8) (k * 8) s (omega arith))

    pub last-decides : r ≡ true → {q : Bool} → q ≡ all_of p (drop (length s - 8) s) → q ≡ all_of p s
    last-decides t f = f ∙ rw t at both

    pub eights-decide : r ≡ false → r ≡ all_of p s
    eights-decide t = t ∙ rw t at both
