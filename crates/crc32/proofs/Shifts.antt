-- The shifts of a sum over bits are the sum of the shifts, so eight shifts of a register are those of its lowest byte, which the table has, and those
-- of the rest, which moves down by eight places.
use mathlib.Core.Path.{◌≡◌, refl, sym, ap, ap₂, ◌∙◌}
use mathlib.Core.List.{List}
use Prim.Native.Nat.{ℕ, zero, suc, ◌+◌, ◌*◌, ◌/◌, ◌%◌, ◌^◌, ◌<◌}
use native.Mathlib.Omega.{arith}
use native.Mathlib.Nat.{mod-lt, mul-one, div-add-mod'}
use lib.Arith.{bin_ind}
use lib.Bits.{bit_xor, differ, xor_step, xor_zero_r, xor_comm, xor_shr, xor_mod, xor_shifted, shifted_half, shifted_even}
use lib.Dec.{lit<}
use lib.ListN.{get_or}
use Rattle.basics.specs.Crc32.{add_polynomial, shift, shifts}
use Rattle.crc32.specs.Table.{byte_table, number_of}

-- Sums over bits.
digit_assoc : (x y z : ℕ) → x < 2 → y < 2 → z < 2 → differ (bit_xor x y) z ≡ differ x (bit_xor y z)
digit_assoc zero zero z p q r = refl
digit_assoc zero (suc zero) zero p q r = refl
digit_assoc zero (suc zero) (suc zero) p q r = refl
digit_assoc (suc zero) zero zero p q r = refl
digit_assoc (suc zero) zero (suc zero) p q r = refl
digit_assoc (suc zero) (suc zero) zero p q r = refl
digit_assoc (suc zero) (suc zero) (suc zero) p q r = refl
digit_assoc (suc (suc x)) y z p q r = absurd (omega arith)
digit_assoc zero (suc (suc y)) z p q r = absurd (omega arith)
digit_assoc (suc zero) (suc (suc y)) z p q r = absurd (omega arith)
digit_assoc zero (suc zero) (suc (suc z)) p q r = absurd (omega arith)
digit_assoc (suc zero) zero (suc (suc z)) p q r = absurd (omega arith)
digit_assoc (suc zero) (suc zero) (suc (suc z)) p q r = absurd (omega arith)

xor_assoc : (a b c : ℕ) → bit_xor (bit_xor a b) c ≡ bit_xor a (bit_xor b c)
xor_assoc =
    bin_ind (λ (n : ℕ). (b c : ℕ) → bit_xor (bit_xor n b) c ≡ bit_xor n (bit_xor b c)) (λ b c. refl)
    (λ n ih b c.
    xor_step (bit_xor n b) c
    ∙ ap₂ (λ (x y : ℕ). bit_xor x (c / 2) * 2 + differ y (c % 2)) (xor_shr n b 1) (xor_mod n b 1)
    ∙ ap₂ (λ (x y : ℕ). x * 2 + y) (ih (b / 2) (c / 2)) (digit_assoc (n % 2) (b % 2) (c % 2) (mod-lt n (lit< tt)) (mod-lt b (lit< tt)) (mod-lt c (lit< tt)))
    ∙ ap₂ (λ (x y : ℕ). bit_xor (n / 2) x * 2 + differ (n % 2) y) (sym (xor_shr b c 1)) (sym (xor_mod b c 1))
    ∙ sym (xor_step n (bit_xor b c)))

-- A sum of two pairs, paired the other way.
xor-pairs : (a b c d : ℕ) → bit_xor (bit_xor a b) (bit_xor c d) ≡ bit_xor (bit_xor a c) (bit_xor b d)
xor-pairs a b c d =
    xor_assoc a b (bit_xor c d) ∙ ap (bit_xor a) (sym (xor_assoc b c d) ∙ ap (λ (x : ℕ). bit_xor x d) (xor_comm b c) ∙ xor_assoc c b d)
    ∙ sym (xor_assoc a c (bit_xor b d))

-- The register after one shift, and after k, of a sum.
add-polynomial : (x c : ℕ) → add_polynomial x c ≡ bit_xor c (add_polynomial x 0)
unfolding add_polynomial
add-polynomial zero c = sym (xor_zero_r c)
add-polynomial (suc x) c = refl

sum_polynomial : (x y : ℕ) → x < 2 → y < 2 → add_polynomial (bit_xor x y) 0 ≡ bit_xor (add_polynomial x 0) (add_polynomial y 0)
unfolding add_polynomial
sum_polynomial zero y p q = refl
sum_polynomial (suc zero) zero p q = refl
sum_polynomial (suc zero) (suc zero) p q = refl
sum_polynomial (suc zero) (suc (suc y)) p q = absurd (omega arith)
sum_polynomial (suc (suc x)) y p q = absurd (omega arith)

shift-xor : (a b : ℕ) → shift (bit_xor a b) ≡ bit_xor (shift a) (shift b)
unfolding shift
shift-xor a b =
    ap₂ add_polynomial (xor_mod a b 1) (xor_shr a b 1) ∙ add-polynomial (bit_xor (a % 2) (b % 2)) (bit_xor (a / 2) (b / 2))
    ∙ ap (bit_xor (bit_xor (a / 2) (b / 2))) (sum_polynomial (a % 2) (b % 2) (mod-lt a (lit< tt)) (mod-lt b (lit< tt)))
    ∙ xor-pairs (a / 2) (b / 2) (add_polynomial (a % 2) 0) (add_polynomial (b % 2) 0)
    ∙ ap₂ bit_xor (sym (add-polynomial (a % 2) (a / 2))) (sym (add-polynomial (b % 2) (b / 2)))

shifts-xor : (k a b : ℕ) → shifts k (bit_xor a b) ≡ bit_xor (shifts k a) (shifts k b)
unfolding shifts
shifts-xor zero a b = refl
shifts-xor (suc k) a b = ap (shifts k) (shift-xor a b) ∙ shifts-xor k (shift a) (shift b)

-- Zeros fall out, and nothing goes in.
shifts-zeros : (k d : ℕ) → shifts k (d * 2 ^ k) ≡ d
unfolding shifts shift add_polynomial
shifts-zeros zero d = mul-one d
shifts-zeros (suc k) d = ap (shifts k) (rw (shifted_even d k, shifted_half d k)) ∙ shifts-zeros k d

-- Eight shifts: what stood above the lowest byte moves down, and the table's number for the lowest byte goes in.
pub byte_shifted : (c : ℕ) {t : List ℕ} → t ≡ byte_table → bit_xor (c / 256) (get_or t (c % 256) 0) ≡ shifts 8 c
byte_shifted c e =
    let low : c % 256 < 256 = mod-lt c (lit< tt) in
    rw (e, number_of (c % 256) low)
    (sym (ap (shifts 8) (sym (xor_shifted (c / 256) 8 (c % 256) low ∙ div-add-mod' c 256))
    ∙ shifts-xor 8 (c / 256 * 256) (c % 256) ∙ ap (λ (d : ℕ). bit_xor d (shifts 8 (c % 256))) (shifts-zeros 8 (c / 256))))
