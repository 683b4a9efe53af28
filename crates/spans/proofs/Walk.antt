-- Two names compared byte by byte, and by fours and eights.
use mathlib.Core.Path.{◌≡◌, refl, sym, ap, ap₂, ◌∙◌}
use mathlib.Core.List.{[], ◌∷◌, ◌++◌}
use Prim.Native.Nat.{ℕ, zero, suc, min, ◌+◌, ◌≤◌, ◌<◌}
use Prim.Native.Nat.compare
use native.Mathlib.Numerals.{add-one}
use native.Mathlib.Omega.{arith}
use lib.ListN.{length, take, drop, get_or, length-drop, drop_of_length-le}
use lib.Seq.{drop-cons, drop-drop}
use Rattle.std.specs.declared.cmp.Ordering.{Ordering}
use Rattle.std.specs.Ordering.{nat_cmp}
use Rattle.std.proofs.lemmas.Cmp.{ranked, by_ranked}
use Rattle.basics.specs.Order.{Cmp, then_cmp, cmp_nat, cmp_name}
use Rattle.basics.specs.Base.{Bytes}
use Rattle.basics.specs.Name.{backup_name, backup_extension}
use Rattle.basic_laws.specs.OrderLaws.{nat_laws, cmp_less, cmp_greater}
use Rattle.basic_laws.specs.Tests.{All, all-at, all_take, all_drop}
use Rattle.basic_laws.specs.FieldLaws.{Byte}
use Rattle.paths.specs.Compare.{order_of}
use Rattle.spans.specs.Spans.{backups, name_of, length_of, from_big_endian, Sound}
use Rattle.spans.specs.declared.NameRef.{NameRef}
use Rattle.spans.proofs.Parts.{dot_bak, past, length-name, part-in_span}
use Rattle.spans.proofs.Eights.{numbers-decide}

-- What is left of both names behind their first i bytes decides.
pub record Walk (src : Bytes) (a b : NameRef) (whole : Cmp) (i : ℕ) : Type 0 where
  pub left-sound : Sound src a
  pub right-sound : Sound src b
  pub in_left_lem : i ≤ length_of a
  pub in_right_lem : i ≤ length_of b
  pub same : cmp_name (drop i (name_of src a)) (drop i (name_of src b)) ≡ whole

pub begun : {src : Bytes} {a b : NameRef} {at i : ℕ} → Sound src a → Sound src b → at ≤ length_of a → at ≤ length_of b → i ≡ at → Walk src a b (cmp_name (drop at (name_of src a)) (drop at (name_of src b))) i
begun s t l r e = record { left-sound = s; right-sound = t; in_left_lem = omega arith; in_right_lem = omega arith; same = rw e }

rest : {src : Bytes} {r : NameRef} (i : ℕ) → Sound src r → i < length_of r → drop i (name_of src r) ≡ get_or (name_of src r) i 0 ∷ drop (i + 1) (name_of src r)
rest {src} {r} i s l =
    let e : length (name_of src r) ≡ length_of r = length-name s in
    drop-cons (name_of src r) i 0 (omega arith) ∙ simp add-one

done : {src : Bytes} {r : NameRef} (i : ℕ) → Sound src r → length_of r ≤ i → drop i (name_of src r) ≡ []
done {src} {r} i s l = drop_of_length-le (name_of src r) {i = i} (omega (arith, length-name s))

-- The bytes x and y stand at i.
module _ {src : Bytes} {a b : NameRef} {whole : Cmp} {i x y : ℕ} (w : Walk src a b whole i) (l : i < length_of a) (r : i < length_of b) (p : x ≡ get_or (name_of src a) i 0) (q : y ≡ get_or (name_of src b) i 0) where
  open_up : cmp_name (x ∷ drop (i + 1) (name_of src a)) (y ∷ drop (i + 1) (name_of src b)) ≡ whole
  open_up =
      let left : x ∷ drop (i + 1) (name_of src a) ≡ drop i (name_of src a) = rw p (sym (rest i w.left-sound l)) in
      let right : y ∷ drop (i + 1) (name_of src b) ≡ drop i (name_of src b) = rw q (sym (rest i w.right-sound r)) in
      ap₂ cmp_name left right ∙ w.same

  pub decided : (x ≡ y → ⊥) → (r : Ordering) → r ≡ nat_cmp x y → order_of r ≡ whole
  decided d r h = by_ranked (x < y) (x ≡ y) (y < x) r (ranked x y r h)
      (λ p l. rw p (rw (cmp_less x y l) at open_up))
      (λ p e. absurd (d e))
      (λ p g. rw p (rw (cmp_greater x y g) at open_up))

  pub next : x ≡ y → Walk src a b whole (i + 1)
  next e = record {
    left-sound = w.left-sound;
    right-sound = w.right-sound;
    in_left_lem = omega arith;
    in_right_lem = omega arith;
    same = rw (e, nat_laws.reflexive y) at open_up;
  }

-- The k bytes at i have the numbers x and y, in both spans.
module _ {src : Bytes} {a b : NameRef} {whole : Cmp} {p q i x y : ℕ} (k : ℕ) (w : Walk src a b whole i) (bytes : (i : ℕ) → Byte (get_or src i 0)) (u : p ≡ a.start) (v : q ≡ b.start) (l : i + k ≤ a.len) (r : i + k ≤ b.len)
    (e : x ≡ from_big_endian (take k (drop (p + i) src))) (f : y ≡ from_big_endian (take k (drop (q + i) src))) where
  numbered : then_cmp (cmp_nat x y) (cmp_name (drop (i + k) (name_of src a)) (drop (i + k) (name_of src b))) ≡ whole
  numbered =
      let g : take k (drop i (name_of src a)) ≡ take k (drop (p + i) src) = part-in_span w.left-sound p i k u l in
      let h : take k (drop i (name_of src b)) ≡ take k (drop (q + i) src) = part-in_span w.right-sound q i k v r in
      let small : (j : ℕ) → All Byte (take k (drop j src)) = λ j. all_take Byte k (drop j src) (all_drop Byte j src (all-at Byte 0 src bytes)) in
      rw (e, f, ← g, ← h, ← (drop-drop k i (name_of src a)), ← (drop-drop k i (name_of src b)))
      (numbers-decide k (drop i (name_of src a)) (drop i (name_of src b)) (omega (arith, length-drop i (name_of src a), length-name w.left-sound)) (omega (arith, length-drop i (name_of src b), length-name w.right-sound)) (rw g (small (p + i))) (rw h (small (q + i))) ∙ w.same)

  pub number-decides : (x ≡ y → ⊥) → (r : Ordering) → r ≡ nat_cmp x y → order_of r ≡ whole
  number-decides d r h = by_ranked (x < y) (x ≡ y) (y < x) r (ranked x y r h)
      (λ p l. rw p (rw (cmp_less x y l) at numbered))
      (λ p z. absurd (d z))
      (λ p g. rw p (rw (cmp_greater x y g) at numbered))

  pub number_same : {j : ℕ} → j ≡ i + k → x ≡ y → Walk src a b whole j
  number_same d z = record {
    left-sound = w.left-sound;
    right-sound = w.right-sound;
    in_left_lem = omega arith;
    in_right_lem = omega arith;
    same = rw d (rw (z, nat_laws.reflexive y) at numbered);
  }

-- Two names of which one begins with the other, as where their spans end together or nothing stands behind them: the shorter is less.
more_behind : (k : ℕ) → backups (suc k) [] ≡ dot_bak ++ backups k []
unfolding backup_name backup_extension
more_behind zero = refl
more_behind (suc k) = ap (◌++ dot_bak) (more_behind k)

behind_compare : (j k : ℕ) → cmp_name (backups j []) (backups k []) ≡ cmp_nat j k
behind_compare zero zero = refl
behind_compare zero (suc k) = rw (more_behind k) (sym (cmp_less zero (suc k) (omega arith)))
behind_compare (suc j) zero = rw (more_behind j) (sym (cmp_greater (suc j) zero (omega arith)))
behind_compare (suc j) (suc k) = rw (more_behind j, more_behind k, compare.suc-suc) (behind_compare j k)

ranked_as : (x y n m : ℕ) → (n < m → x < y) → (m < n → y < x) → (n ≡ m → x ≡ y) → (r : Ordering) → r ≡ nat_cmp n m → order_of r ≡ cmp_nat x y
ranked_as x y n m l g e r h = by_ranked (n < m) (n ≡ m) (m < n) r (ranked n m r h) (λ p q. rw (p, cmp_less x y (l q))) (λ p q. rw (p, e q, nat_laws.reflexive y)) (λ p q. rw (p, cmp_greater x y (g q)))

module _ {src : Bytes} {a b : NameRef} (s : Sound src a) (t : Sound src b) (at n m : ℕ) (e : n ≡ length_of a) (f : m ≡ length_of b) (r : Ordering) (h : r ≡ nat_cmp n m) where
  pub same_spans : at ≡ a.len → at ≡ b.len → order_of r ≡ cmp_name (drop at (name_of src a)) (drop at (name_of src b))
  same_spans p q = rw (past s at p, past t at q, behind_compare a.baks b.baks) (ranked_as a.baks b.baks n m (λ l. omega arith) (λ l. omega arith) (λ l. omega arith) r h)

  pub only_spans : at ≡ min a.len b.len → a.baks ≡ 0 → b.baks ≡ 0 → order_of r ≡ cmp_name (drop at (name_of src a)) (drop at (name_of src b))
  only_spans p x y = by_ranked (n < m) (n ≡ m) (m < n) r (ranked n m r h)
      (λ g l. rw (g, done at s (omega arith), rest at t (omega arith)))
      (λ g l. rw (g, done at s (omega arith), done at t (omega arith)))
      (λ g l. rw (g, rest at s (omega arith), done at t (omega arith)))
