-- A number's digits, counted by the logarithm to ten and written from the last one.
use mathlib.Core.Path.{◌≡◌, refl, sym, ap, ◌∙◌}
use mathlib.Core.Bool.{Bool, true, false}
use mathlib.Core.List.{[], ◌∷◌, ◌++◌, append_assoc}
use Prim.Native.Nat.{ℕ, zero, suc, ◌+◌, ◌-◌, ◌*◌, ◌/◌, ◌%◌, ◌^◌, ◌≤◌, ◌<◌}
use native.Mathlib.Nat.{pow-zero, pow-suc}
use native.Mathlib.Omega.{arith}
use native.Mathlib.Numerals.{add-one}
use lib.ListN.{length, take, drop, set, length-append, length-set}
use lib.Seq.{length-take-le, append_snoc, set_split, take-set-le, drop_at}
use lib.Dec.{leb}
use borrow.Author.Tests.{leb-true, leb-false}
use Rattle.std.specs.Prelude.{Option, None, Some, IfNone, IfSome}
use Rattle.std.specs.Option.{unwrap_or}
use Rattle.basics.specs.Base.{Bytes}
use Rattle.answers.specs.Answers.{decimal}
use Rattle.field.specs.Writing.{written}
use Rattle.field.proofs.Written.{written-room, written-nil}
use Rattle.answer_laws.specs.DecimalLaws.{no_digits, one-digit, more_digits, tens}
use Rattle.text.specs.Digits.{Digits}

-- The library's powers of ten are the laws'.
power : (k : ℕ) → 10 ^ k ≡ tens k
power zero = pow-zero 10
power (suc k) = rw (pow-suc 10 k, power k) (omega arith)

one-le-tens : (k : ℕ) → 1 ≤ tens k
one-le-tens zero = omega arith
one-le-tens (suc k) = omega (arith, one-le-tens k)

-- A number fills k places: more places change nothing.
record Fills (n k : ℕ) : Type 0 where
  more : (m : ℕ) → decimal (m + k) n ≡ decimal k n
  size : length (decimal k n) ≡ k

one_fills : (n : ℕ) → n ≤ 9 → Fills n 1
one_fills n h = record {
  more = λ m. let e : m + 1 ≡ suc m = omega arith in ap (λ (j : ℕ). decimal j n) e ∙ one-digit m n h ∙ sym (one-digit 0 n h);
  size = ap length (one-digit 0 n h);
}

fills : (k n : ℕ) → tens k ≤ n → n < tens (suc k) → Fills n (suc k)
fills zero n l h = one_fills n (omega arith)
fills (suc k) n l h =
    let w : Fills (n / 10) (suc k) = fills k (n / 10) (omega arith) (omega arith) in
    let b : 9 < n = omega (arith, one-le-tens k) in
    let last : Bytes = (0x30 + n % 10) ∷ [] in
    record {
      more = λ m.
          let e : m + suc (suc k) ≡ suc (m + suc k) = omega arith in
          ap (λ (j : ℕ). decimal j n) e ∙ more_digits (m + suc k) n b ∙ ap (λ (d : Bytes). d ++ last) (w.more m) ∙ sym (more_digits (suc k) n b);
      size = ap length (more_digits (suc k) n b) ∙ length-append (decimal (suc k) (n / 10)) last ∙ omega (arith, w.size);
    }

filled : {n k : ℕ} → k ≤ 10 → Fills n k → Digits n k
filled {n} {k} h w = record {
  bound = h;
  same = let e : 10 - k + k ≡ 10 = omega arith in sym (ap (λ (j : ℕ). decimal j n) (sym e) ∙ w.more (10 - k));
  size = w.size;
}

-- What the library's logarithm says.
pub by-logarithm : {n : ℕ} (o : Option ℕ) → IfNone o (n ≡ 0) → IfSome o (λ k. 10 ^ k ≤ n) → IfSome o (λ k. n < 10 * 10 ^ k) → IfSome o (λ k. k < 10) → Digits n (unwrap_or o 0 + 1)
by-logarithm {n} None z l h b = filled (omega arith) (one_fills n (omega arith))
by-logarithm {n} (Some k) z l h b = rw add-one (filled (omega arith) (fills k n (rw power at l) (rw power at h)))

-- A digit that stands behind others, stored first.
stored_last : (at : ℕ) (a : Bytes) (d : ℕ) (out : Bytes) → at + length a < length out → written at (a ++ d ∷ []) out ≡ written at a (set out (at + length a) d)
stored_last at a d out h =
    let m : ℕ = at + length a in
    let l : length (a ++ d ∷ []) ≡ length a + 1 = length-append a (d ∷ []) in
    let e : at + length (a ++ d ∷ []) ≡ suc m = omega arith in
    let back : drop m (set out m d) ≡ d ∷ drop (suc m) out = ap (drop m) (set_split out m d h) ∙ drop_at (take m out) (d ∷ drop (suc m) out) m (length-take-le m out (omega arith)) in
    let one : written at (a ++ d ∷ []) out ≡ take at out ++ a ++ d ∷ drop (suc m) out
    = written-room at (a ++ d ∷ []) out (omega arith) ∙ rw (e, ← (append_assoc (take at out) a (d ∷ []))) (append_snoc (take at out ++ a) d (drop (suc m) out)) in
    let two : written at a (set out m d) ≡ take at out ++ a ++ d ∷ drop (suc m) out
    = written-room at a (set out m d) (omega (arith, length-set out m d)) ∙ rw (take-set-le at out m d (omega arith), back) in
    one ∙ sym two

-- A number that fills its places: its last digit, and the others.
spelled : (j n : ℕ) → length (decimal (suc j) n) ≡ suc j → (decimal (suc j) n ≡ decimal j (n / 10) ++ (0x30 + n % 10) ∷ []) × (length (decimal j (n / 10)) ≡ j)
spelled j n z = go (leb n 9) refl
  where
    go : (t : Bool) → leb n 9 ≡ t → (decimal (suc j) n ≡ decimal j (n / 10) ++ (0x30 + n % 10) ∷ []) × (length (decimal j (n / 10)) ≡ j)
    go true e =
        let h : n ≤ 9 = leb-true n 9 e in
        let j0 : j ≡ 0 = omega (arith, ap length (one-digit j n h)) in
        let m : n ≡ n % 10 = omega arith in
        rw (j0, no_digits (n / 10)) (one-digit 0 n h ∙ ap (λ (k : ℕ). (0x30 + k) ∷ []) m, refl)
    go false e =
        let h : 9 < n = leb-false n 9 e in
        (more_digits j n h, omega (arith, ap length (more_digits j n h), length-append (decimal j (n / 10)) ((0x30 + n % 10) ∷ [])))

-- The loop of `put_decimal`: the first i digits are left, those of `rest`.
pub record Spelling (n at : ℕ) (out now : Bytes) (rest i : ℕ) : Type 0 where
  pub size : length now ≡ length out
  pub room : at + i ≤ length out
  pub exact : length (decimal i rest) ≡ i
  pub same : written at (decimal i rest) now ≡ written at (decimal 10 n) out

pub spelling : {n k : ℕ} (at : ℕ) (out : Bytes) → Digits n k → at + length (decimal 10 n) ≤ length out → Spelling n at out out n k
spelling at out d h = record { size = refl; room = omega (arith, d.size, ap length d.same); exact = d.size; same = ap (λ (b : Bytes). written at b out) d.same }

module _ {n at rest i : ℕ} {out now : Bytes} (w : Spelling n at out now rest i) where
  pub spelled-digit : {d : ℕ} → 0 < i → d ≡ 0x30 + rest % 10 → Spelling n at out (set now (at + (i - 1)) d) (rest / 10) (i - 1)
  spelled-digit {d} h e = go (i - 1) (omega arith)
    where
      go : (j : ℕ) → i ≡ suc j → Spelling n at out (set now (at + j) d) (rest / 10) j
      go j z =
          let p = spelled j rest (rw z at w.exact) in
          record {
            size = length-set now (at + j) d ∙ w.size;
            room = omega (arith, w.room);
            exact = p.1;
            same =
                rw e (ap (λ (k : ℕ). written at (decimal j (rest / 10)) (set now (at + k) (0x30 + rest % 10))) (sym p.1)
                ∙ sym (stored_last at (decimal j (rest / 10)) (0x30 + rest % 10) now (omega (arith, w.size, w.room, p.1)))
                ∙ ap (λ (b : Bytes). written at b now) (sym p.0))
                ∙ rw z at w.same;
          }

  pub all-spelled : i ≤ 0 → now ≡ written at (decimal 10 n) out
  all-spelled h = let e : i ≡ 0 = omega arith in sym (written-nil at now) ∙ rw (e, no_digits rest) at w.same
