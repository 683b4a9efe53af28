-- Little-endian numbers: the library's definitions and the documents' are the same.
use mathlib.Core.Path.{◌≡◌, refl, sym, ap, ◌∙◌}
use mathlib.Core.List.{[], ◌∷◌, ◌++◌}
use Prim.Native.Nat.{ℕ, ◌+◌, ◌*◌, ◌/◌, ◌%◌}
use native.Mathlib.Omega.{arith}
use native.Mathlib.Nat.{div-add-mod'}
use Rattle.std.specs.Int.{w16, w32, to_le_bytes, from_le_bytes}
use Rattle.basics.specs.Field.{little_endian, from_little_endian}

pub number-two : (a b : ℕ) → from_le_bytes w16 (a ∷ b ∷ []) ≡ from_little_endian (a ∷ b ∷ [])
unfolding from_little_endian
number-two a b = omega arith

pub number-four : (a b c d : ℕ) → from_le_bytes w32 (a ∷ b ∷ c ∷ d ∷ []) ≡ from_little_endian (a ∷ b ∷ c ∷ d ∷ [])
unfolding from_little_endian
number-four a b c d = omega arith

pub bytes-two : (n : ℕ) → to_le_bytes w16 n ≡ little_endian 2 n
unfolding little_endian
bytes-two n = refl

pub bytes-four : (n : ℕ) → to_le_bytes w32 n ≡ little_endian 4 n
unfolding little_endian
bytes-four n =
    let second : n / 0x1_0000 % 0x100 ≡ n / 0x100 / 0x100 % 0x100 = omega arith in
    let third : n / 0x100_0000 % 0x100 ≡ n / 0x100 / 0x100 / 0x100 % 0x100 = omega arith in
    rw (second, third)

middle : (q w : ℕ) → (q * 0x1_0000 + w) / 0x100 % 0x100 ≡ w / 0x100 % 0x100
middle q w = let e : (q * 0x1_0000 + w) / 0x100 ≡ q * 0x100 + w / 0x100 = omega arith in rw e (omega arith)

-- Four bytes are two and two.
pub four_bytes : (n : ℕ) → little_endian 2 (n % 0x1_0000) ++ little_endian 2 (n / 0x1_0000) ≡ little_endian 4 n
unfolding little_endian
four_bytes n =
    let a : n % 0x1_0000 % 0x100 ≡ n % 0x100 = omega arith in
    let b : n % 0x1_0000 / 0x100 % 0x100 ≡ n / 0x100 % 0x100 = sym (middle (n / 0x1_0000) (n % 0x1_0000)) ∙ ap (λ (m : ℕ). m / 0x100 % 0x100) (div-add-mod' n 0x1_0000) in
    let c : n / 0x1_0000 ≡ n / 0x100 / 0x100 = omega arith in
    rw (a, b, c)
