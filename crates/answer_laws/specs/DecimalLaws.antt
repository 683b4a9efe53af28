-- Numbers in decimal: how they are spelled, and how long they are.
use Rattle.std.specs.Prelude.{◌≡◌, refl, Bool, true, false, [], ◌∷◌, ◌++◌, ℕ, zero, suc, ◌+◌, ◌*◌, ◌/◌, ◌%◌, ◌≤◌, ◌<◌, length, leb, if◌then◌else◌}
use Rattle.std.proofs.Common.{sym, ap, ◌∙◌, arith, length-append, le-leb, leb-true, leb-false}
use Rattle.std.proofs.lemmas.Bool.{lt-leb}
use Rattle.basics.specs.Base.{Bytes}
use Rattle.answers.specs.Answers.{decimal}

-- No place for a digit; a number of one digit; one of more.
pub no_digits : (n : ℕ) → decimal 0 n ≡ []
unfolding decimal
no_digits n = refl

pub one-digit : (k n : ℕ) → n ≤ 9 → decimal (suc k) n ≡ (0x30 + n) ∷ []
unfolding decimal
one-digit k n h = rw (le-leb n 9 h)

pub more_digits : (k n : ℕ) → 9 < n → decimal (suc k) n ≡ decimal k (n / 10) ++ (0x30 + n % 10) ∷ []
unfolding decimal
more_digits k n h = rw (lt-leb n 9 h)

-- No number below 100 has three digits.
pub two_digits : (n : ℕ) → n < 100 → decimal 2 n ≡ decimal 10 n
two_digits n h = go (leb n 9) refl
  where
    go : (t : Bool) → leb n 9 ≡ t → decimal 2 n ≡ decimal 10 n
    go true e = let l : n ≤ 9 = leb-true n 9 e in one-digit 1 n l ∙ sym (one-digit 9 n l)
    go false e =
        let l : 9 < n = leb-false n 9 e in
        let m : n / 10 ≤ 9 = omega arith in
        more_digits 1 n l ∙ ap (λ (d : Bytes). d ++ (0x30 + n % 10) ∷ []) (one-digit 0 (n / 10) m ∙ sym (one-digit 8 (n / 10) m)) ∙ sym (more_digits 9 n l)

-- One more than the greatest number of so many digits.
abbrev pub tens : ℕ → ℕ
tens zero = 1
tens (suc k) = 10 * tens k

pub decimal-length : (k n : ℕ) → length (decimal k n) ≤ k
unfolding decimal
decimal-length zero n = omega arith
decimal-length (suc k) n = go (leb n 9) (decimal-length k (n / 10))
  where
    go : (t : Bool) → length (decimal k (n / 10)) ≤ k → length (if t then (0x30 + n) ∷ [] else decimal k (n / 10) ++ (0x30 + n % 10) ∷ []) ≤ suc k
    go true h = omega arith
    go false h = omega (arith, length-append (decimal k (n / 10)) ((0x30 + n % 10) ∷ []))
