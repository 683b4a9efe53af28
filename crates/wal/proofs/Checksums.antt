-- What comparing numbers says of the four bytes of a checksum.
use mathlib.Core.Path.{◌≡◌, refl, sym, ap, ◌∙◌}
use mathlib.Core.List.{[], ◌∷◌}
use mathlib.Core.Bool.{true, false}
use Prim.Native.Nat.{ℕ, zero, suc, ◌+◌, ◌≤◌, ◌<◌}
use native.Mathlib.Omega.{arith}
use lib.Dec.{eqb}
use lib.ListN.{length, take, drop, get_or, length-drop}
use lib.Seq.{length-take-le}
use borrow.Author.Tests.{eqb-true, eq-eqb}
use Rattle.basics.specs.Base.{Bytes, same_bytes, at_least}
use Rattle.basics.specs.Field.{little_endian, from_little_endian}
use Rattle.basic_laws.specs.Tests.{All}
use Rattle.basic_laws.specs.FieldLaws.{Byte, le_four, bytes-again}
use Rattle.field.specs.Reading.{u32_at}
use Rattle.field.proofs.Reading.{number-there}
use Rattle.transaction.proofs.Same.{same_as}

part_bytes : (n at : ℕ) (l : Bytes) → ((i : ℕ) → Byte (get_or l i 0)) → All Byte (take n (drop at l))
part_bytes n (suc at) [] h = go n
  where
    go : (n : ℕ) → All Byte (take n [])
    go zero = tt
    go (suc n) = tt
part_bytes n (suc at) (x ∷ l) h = part_bytes n at l (λ i. h (suc i))
part_bytes zero zero l h = tt
part_bytes (suc n) zero [] h = tt
part_bytes (suc n) zero (x ∷ l) h = (h 0, part_bytes n 0 l (λ i. h (suc i)))

pub same_number : (l : Bytes) (at crc : ℕ) → ((i : ℕ) → Byte (get_or l i 0)) → at + 4 ≤ length l → crc ≤ 0xFFFF_FFFF → same_bytes (take 4 (drop at l)) (little_endian 4 crc) ≡ eqb (u32_at l at) crc
same_number l at crc h k c = same_as four (little_endian 4 crc) (eqb (u32_at l at) crc) forth back
  where
    four : Bytes
    four = take 4 (drop at l)

    forth : eqb (u32_at l at) crc ≡ true → four ≡ little_endian 4 crc
    forth e =
        let s : length four ≡ 4 = length-take-le 4 (drop at l) (omega (arith, length-drop at l)) in
        let n : from_little_endian four ≡ crc = sym (number-there l at k) ∙ eqb-true (u32_at l at) crc e in
        sym (rw (s, n) at (bytes-again four (part_bytes 4 at l h)))

    back : four ≡ little_endian 4 crc → eqb (u32_at l at) crc ≡ true
    back e = eq-eqb (u32_at l at) crc (number-there l at k ∙ ap from_little_endian e ∙ le_four crc c)

-- How many bytes there are, as the model asks and as the code does.
pub enough : (n : ℕ) (l : Bytes) → n ≤ length l → at_least n l ≡ true
enough zero l h = refl
enough (suc n) [] h = absurd (omega arith)
enough (suc n) (x ∷ l) h = enough n l (omega arith)

pub too_few : (n : ℕ) (l : Bytes) → length l < n → at_least n l ≡ false
too_few zero l h = absurd (omega arith)
too_few (suc n) [] h = refl
too_few (suc n) (x ∷ l) h = too_few n l (omega arith)
