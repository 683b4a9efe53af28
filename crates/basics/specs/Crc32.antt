-- CRC-32: the definition of IEEE 802.3, and the shift register of 01, which gives the same (crate basic_laws, Crc32Laws).
use Rattle.std.specs.Prelude.{ℕ, zero, suc, ◌+◌, ◌-◌, ◌*◌, ◌/◌, ◌%◌, List, [], ◌∷◌, ◌++◌, map, Bool, true, false, not, length, eqb, if◌then◌else◌}
use Rattle.std.specs.Bool.{xor}
use Rattle.std.specs.Int.Bits.{bit_xor}
use Rattle.basics.specs.Base.{Bytes, any_of, flat_map}

-- A polynomial over bits is the list of its coefficients, that of the highest power first; false is 0 and true is 1.
abbrev pub Polynomial : Type 0
Polynomial = List Bool

-- The polynomial with these powers, of degree k or less: k + 1 coefficients.
unfoldable pub polynomial : ℕ → List ℕ → Polynomial
polynomial zero powers = any_of (eqb 0) powers ∷ []
polynomial (suc k) powers = any_of (eqb (suc k)) powers ∷ polynomial k powers

-- IEEE 802.3, 3.2.9, the generator G(x): x³² + x²⁶ + x²³ + x²² + x¹⁶ + x¹² + x¹¹ + x¹⁰ + x⁸ + x⁷ + x⁵ + x⁴ + x² + x + 1.
unfoldable pub generator : Polynomial
generator = polynomial 32 (32 ∷ 26 ∷ 23 ∷ 22 ∷ 16 ∷ 12 ∷ 11 ∷ 10 ∷ 8 ∷ 7 ∷ 5 ∷ 4 ∷ 2 ∷ 1 ∷ 0 ∷ [])

-- A sum of polynomials over bits, which is a difference too: here of one that is aligned with the other's highest powers.
unfoldable pub add_front : Polynomial → Polynomial → Polynomial
add_front [] q = q
add_front (a ∷ p) [] = []
add_front (a ∷ p) (b ∷ q) = xor a b ∷ add_front p q

abbrev pub behind_first : Polynomial → Polynomial
behind_first [] = []
behind_first (a ∷ p) = p

-- Long division by the generator, of k steps: where the highest coefficient is 1 the generator is subtracted; it is then 0 and goes.
unfoldable pub divide : ℕ → Polynomial → Polynomial
divide zero p = p
divide (suc k) [] = []
divide (suc k) (false ∷ p) = divide k p
divide (suc k) (true ∷ p) = divide k (behind_first (add_front generator (true ∷ p)))

-- The remainder, of degree 31 or less: 32 coefficients.
unfoldable pub remainder : Polynomial → Polynomial
remainder p = divide (length p - 32) p

-- The bits of a number, least significant first, and the number of such bits.
unfoldable pub bits_of : ℕ → ℕ → List Bool
bits_of zero n = []
bits_of (suc k) n = eqb (n % 2) 1 ∷ bits_of k (n / 2)

unfoldable pub of_bits : List Bool → ℕ
of_bits [] = 0
of_bits (b ∷ r) = (if b then 1 else 0) + 2 * of_bits r

-- IEEE 802.3, 3.3: each octet is transmitted least significant bit first.
unfoldable pub message_bits : Bytes → List Bool
message_bits m = flat_map (bits_of 8) m

unfoldable pub complement_first : ℕ → List Bool → List Bool
complement_first zero l = l
complement_first (suc k) [] = []
complement_first (suc k) (b ∷ l) = not b ∷ complement_first k l

unfoldable pub zeros : ℕ → List Bool
zeros zero = []
zeros (suc k) = false ∷ zeros k

-- IEEE 802.3, 3.2.9, steps b, c and a: the bits are the coefficients of M(x), the first that of the highest power; M(x) times x³²;
-- the first 32 bits complemented. Taken last, a step's complement has a meaning for messages of under 32 bits too (the log's header
-- has 16); for longer ones the order makes no difference.
unfoldable pub dividend : Bytes → Polynomial
dividend m = complement_first 32 (message_bits m ++ zeros 32)

-- Steps c, d and e: the remainder R(x); its coefficients as a sequence of 32 bits; complemented. "The x³¹ term is the left-most bit of the
-- first octet", which is sent first, so it is the number's lowest bit.
unfoldable pub ieee_crc32 : Bytes → ℕ
ieee_crc32 m = of_bits (map not (remainder (dividend m)))

-- 01, How a store is handed over: "The CRC is reflected, polynomial 0xEDB88320".
-- The register after one shift: the bit that fell out says whether the polynomial goes in.
unfoldable pub add_polynomial : ℕ → ℕ → ℕ
add_polynomial zero c = c
add_polynomial (suc n) c = bit_xor c 0xEDB88320

unfoldable pub shift : ℕ → ℕ
shift c = add_polynomial (c % 2) (c / 2)

unfoldable pub shifts : ℕ → ℕ → ℕ
shifts zero c = c
shifts (suc n) c = shifts n (shift c)

-- The register after one more byte, and after all bytes.
unfoldable pub feed_byte : ℕ → ℕ → ℕ
feed_byte c b = shifts 8 (bit_xor c b)

unfoldable pub register : ℕ → Bytes → ℕ
register c [] = c
register c (b ∷ bs) = register (feed_byte c b) bs

-- "start and final exclusive-or all ones": what code and the other definitions cite.
unfoldable pub crc32 : Bytes → ℕ
crc32 bs = bit_xor (register 0xFFFF_FFFF bs) 0xFFFF_FFFF
