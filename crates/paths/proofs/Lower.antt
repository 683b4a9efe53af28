-- A key's bytes in lower case.
use mathlib.Core.Path.{◌≡◌, refl, sym}
use mathlib.Core.List.{[], ◌∷◌, map}
use Prim.Native.Nat.{ℕ}
use native.Mathlib.Omega.{arith}
use lib.ListN.{length, get_or, length-map, get_or-map}
use Rattle.std.specs.Char.{to_ascii_lowercase}
use Rattle.std.proofs.lemmas.Bool.Decides.{nat_tests}
use Rattle.basics.specs.Base.{Bytes}
use Rattle.basics.specs.Name.{lower_byte, lower}

-- The library's byte in lower case.
pub lowered : (b : ℕ) → to_ascii_lowercase b ≡ lower_byte b
unfolding lower_byte
lowered b = grind (arith, nat_tests)

pub length-lower : (s : Bytes) → length (lower s) ≡ length s
unfolding lower
length-lower s = length-map s lower_byte

pub lower-at : (s : Bytes) (i : ℕ) → lower_byte (get_or s i 0) ≡ get_or (lower s) i 0
unfolding lower lower_byte
lower-at s i = sym (get_or-map lower_byte s i 0)

-- The library's bytes in lower case.
pub lowered_all : (s : Bytes) → map to_ascii_lowercase s ≡ lower s
unfolding lower
lowered_all [] = refl
lowered_all (b ∷ r) = rw (lowered b, lowered_all r)
