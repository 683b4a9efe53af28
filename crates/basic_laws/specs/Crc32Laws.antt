-- CRC-32: the shift register gives what IEEE 802.3's division gives, for every byte string; and what a remainder is.
use Rattle.std.specs.Prelude.{◌≡◌, [], ◌∷◌, ◌++◌, map, Bool, true, false, not, length, eqb, if◌then◌else◌}
use Rattle.std.proofs.Math.Path.{refl, ap}
use Rattle.std.proofs.Common.{sym, ◌∙◌, ap₂, subst, arith, mod-lt, pow-suc, add-sub_cancel, append-nil, append_assoc, lit<}
use Prim.Native.Nat.{ℕ, zero, suc, ◌+◌, ◌-◌, ◌/◌, ◌%◌, ◌^◌, ◌≤◌, ◌<◌}
use Rattle.std.proofs.Math.Bool.{xor}
use Rattle.std.proofs.Math.ListN.{length-append}
use Rattle.std.proofs.Math.Arith.{lt-one}
use Rattle.std.specs.Int.Bits.{bit_xor}
use Rattle.std.proofs.lemmas.Nat.{xor_shr, xor_mod, xor_comm, xor_lt}
use Rattle.basics.specs.Base.{Bytes}
use Rattle.basics.specs.Crc32.{Polynomial, polynomial, generator, add_front, divide, remainder, bits_of, of_bits, message_bits, complement_first, zeros, dividend, ieee_crc32, add_polynomial, shift, shifts, feed_byte, register, crc32}
use Rattle.basic_laws.specs.Tests.{All}
use Rattle.basic_laws.specs.FieldLaws.{Byte}

-- Sums of bits.
xor-false : (x : Bool) → xor x false ≡ x
unfolding xor
xor-false true = refl
xor-false false = refl

false-xor : (x : Bool) → xor false x ≡ x
unfolding xor
false-xor true = refl
false-xor false = refl

true-xor : (x : Bool) → xor true x ≡ not x
unfolding xor
true-xor true = refl
true-xor false = refl

xor_assoc : (x y z : Bool) → xor x (xor y z) ≡ xor (xor x y) z
unfolding xor
xor_assoc true true true = refl
xor_assoc true true false = refl
xor_assoc true false true = refl
xor_assoc true false false = refl
xor_assoc false true true = refl
xor_assoc false true false = refl
xor_assoc false false true = refl
xor_assoc false false false = refl

-- Sums of polynomials.
cons : {x y : Bool} {p q : Polynomial} → x ≡ y → p ≡ q → ◌≡◌ {A = Polynomial} (x ∷ p) (y ∷ q)
cons e f = λ i. e i ∷ f i

add_assoc : (p q s : Polynomial) → length p ≤ length q → add_front p (add_front q s) ≡ add_front (add_front p q) s
unfolding add_front
add_assoc [] q s h = refl
add_assoc (x ∷ p) [] s h = absurd (omega arith)
add_assoc (x ∷ p) (y ∷ q) [] h = refl
add_assoc (x ∷ p) (y ∷ q) (z ∷ s) h = cons (xor_assoc x y z) (add_assoc p q s (omega arith))

length-add : (p q : Polynomial) → length (add_front p q) ≡ length q
unfolding add_front
length-add [] q = refl
length-add (x ∷ p) [] = refl
length-add (x ∷ p) (y ∷ q) = ap suc (length-add p q)

length-zeros : (k : ℕ) → length (zeros k) ≡ k
unfolding zeros
length-zeros zero = refl
length-zeros (suc k) = ap suc (length-zeros k)

complement_add : (k : ℕ) (l : Polynomial) → complement_first k l ≡ add_front (complement_first k (zeros k)) l
unfolding complement_first zeros add_front
complement_add zero l = refl
complement_add (suc k) [] = refl
complement_add (suc k) (x ∷ l) = cons (sym (true-xor x)) (complement_add k l)

-- A number's bits.
digit : (x : ℕ) → x < 2 → x ≡ (if eqb x 1 then 1 else 0)
digit zero h = refl
digit (suc zero) h = refl
digit (suc (suc x)) h = absurd (omega arith)

lowest : (n : ℕ) → n % 2 ≡ (if eqb (n % 2) 1 then 1 else 0)
lowest n = digit (n % 2) (mod-lt n (lit< tt))

xor-digit : (x y : Bool) → eqb (bit_xor (if x then 1 else 0) (if y then 1 else 0)) 1 ≡ xor x y
unfolding xor
xor-digit true true = refl
xor-digit true false = refl
xor-digit false true = refl
xor-digit false false = refl

lowest-xor : (a b : ℕ) → eqb (bit_xor a b % 2) 1 ≡ xor (eqb (a % 2) 1) (eqb (b % 2) 1)
lowest-xor a b =
    ap (λ (x : ℕ). eqb x 1) (xor_mod a b 1) ∙ ap₂ (λ (x y : ℕ). eqb (bit_xor x y) 1) (lowest a) (lowest b) ∙ xor-digit (eqb (a % 2) 1) (eqb (b % 2) 1)

half_below : {n : ℕ} (k : ℕ) → n < 2 ^ suc k → n / 2 < 2 ^ k
half_below k h = omega (arith, pow-suc 2 k)

length_bits : (k n : ℕ) → length (bits_of k n) ≡ k
unfolding bits_of
length_bits zero n = refl
length_bits (suc k) n = ap suc (length_bits k (n / 2))

of_bits_lem : (k n : ℕ) → n < 2 ^ k → of_bits (bits_of k n) ≡ n
unfolding bits_of of_bits
of_bits_lem zero n h = sym (lt-one h)
of_bits_lem (suc k) n h = rw (of_bits_lem k (n / 2) (half_below k h), ← lowest n) (omega arith)

bits_xor : (k a b : ℕ) → bits_of k (bit_xor a b) ≡ add_front (bits_of k a) (bits_of k b)
unfolding bits_of add_front
bits_xor zero a b = refl
bits_xor (suc k) a b = cons (lowest-xor a b) (ap (bits_of k) (xor_shr a b 1) ∙ bits_xor k (a / 2) (b / 2))

complement_bits : (k n : ℕ) → complement_first k (bits_of k n) ≡ map not (bits_of k n)
unfolding bits_of complement_first
complement_bits zero n = refl
complement_bits (suc k) n = cons refl (complement_bits k (n / 2))

-- A number's bits added to a polynomial's front.
add_bits : (k a b : ℕ) (s : Polynomial) → add_front (bits_of k a) (add_front (bits_of k b) s) ≡ add_front (bits_of k (bit_xor a b)) s
add_bits k a b s =
    add_assoc (bits_of k a) (bits_of k b) s (omega (arith, length_bits k a, length_bits k b)) ∙ ap (λ (p : Polynomial). add_front p s) (sym (bits_xor k a b))

bits_zeros : (k n : ℕ) (s : Polynomial) → add_front (bits_of k n) (zeros k ++ s) ≡ bits_of k n ++ s
unfolding add_front bits_of zeros
bits_zeros zero n s = refl
bits_zeros (suc k) n s = cons (xor-false (eqb (n % 2) 1)) (bits_zeros k (n / 2) s)

add_none : (k : ℕ) (s : Polynomial) → k ≤ length s → add_front (bits_of k 0) s ≡ s
unfolding add_front bits_of
add_none zero s h = refl
add_none (suc k) [] h = absurd (omega arith)
add_none (suc k) (z ∷ s) h = cons (false-xor z) (add_none k s (omega arith))

add-fewer : (j k n : ℕ) (s : Polynomial) → n < 2 ^ j → j ≤ k → k ≤ length s → add_front (bits_of k n) s ≡ add_front (bits_of j n) s
unfolding add_front bits_of
add-fewer zero k n s h p q = rw (lt-one h) (add_none k s q)
add-fewer (suc j) zero n s h p q = absurd (omega arith)
add-fewer (suc j) (suc k) n [] h p q = absurd (omega arith)
add-fewer (suc j) (suc k) n (z ∷ s) h p q = cons refl (add-fewer j k (n / 2) s (half_below j h) (omega arith) (omega arith))

-- The register holds 32 bits.
abbrev pub Word : ℕ → Type 0
Word c = c < 4294967296

shift_word : (c : ℕ) → Word c → Word (shift c)
unfolding shift add_polynomial
shift_word c h = go (c % 2) (omega arith)
  where
    go : (x : ℕ) → Word (c / 2) → Word (add_polynomial x (c / 2))
    go zero b = b
    go (suc x) b = xor_lt 32 (c / 2) 0xEDB88320 b (lit< tt)

shifts-word : (k c : ℕ) → Word c → Word (shifts k c)
unfolding shifts
shifts-word zero c h = h
shifts-word (suc k) c h = shifts-word k (shift c) (shift_word c h)

feed_start : (c b : ℕ) → Word c → Byte b → Word (bit_xor c b)
feed_start c b h p = xor_lt 32 c b h (omega arith)

pub feed_word : (c b : ℕ) → Word c → Byte b → Word (feed_byte c b)
unfolding feed_byte
feed_word c b h p = shifts-word 8 (bit_xor c b) (feed_start c b h p)

pub register-word : (c : ℕ) (m : Bytes) → Word c → All Byte m → Word (register c m)
unfolding register
register-word c [] h p = h
register-word c (b ∷ m) h p = register-word (feed_byte c b) m (feed_word c b h p.0) p.1

pub crc32-word : (m : Bytes) → All Byte m → crc32 m < 4294967296
unfolding crc32
crc32-word m p = xor_lt 32 (register 0xFFFF_FFFF m) 0xFFFF_FFFF (register-word 0xFFFF_FFFF m (lit< tt) p) (lit< tt)

-- The generator's lower 32 coefficients.
abbrev lower : Polynomial
lower = bits_of 32 0xEDB88320

-- One step of the division is one shift of the register.
divide-true : (n : ℕ) (p : Polynomial) → divide (suc n) (true ∷ p) ≡ divide n (add_front lower p)
unfolding divide generator polynomial add_front bits_of
divide-true n p = refl

add-bit : (k n : ℕ) (s : Polynomial) → add_front (bits_of (suc k) n) (false ∷ s) ≡ eqb (n % 2) 1 ∷ add_front (bits_of k (n / 2)) s
unfolding add_front bits_of
add-bit k n s = cons (xor-false (eqb (n % 2) 1)) refl

step : (n : ℕ) (s : Polynomial) → 32 ≤ length s → (c : ℕ) → Word c → divide (suc n) (add_front (bits_of 32 c) (false ∷ s)) ≡ divide n (add_front (bits_of 32 (shift c)) s)
unfolding shift add_polynomial
step n s fits c h =
    ap (divide (suc n)) (add-bit 31 c s ∙ cons refl (sym (add-fewer 31 32 (c / 2) s (half_below 31 h) (omega arith) fits)))
    ∙ go (c % 2) (c / 2) (mod-lt c (lit< tt))
  where
    go : (x d : ℕ) → x < 2 → divide (suc n) (eqb x 1 ∷ add_front (bits_of 32 d) s) ≡ divide n (add_front (bits_of 32 (add_polynomial x d)) s)
    go zero d b = unfold divide in refl
    go (suc zero) d b = divide-true n (add_front (bits_of 32 d) s) ∙ ap (divide n) (add_bits 32 0xEDB88320 d s ∙ rw (xor_comm 0xEDB88320 d))
    go (suc (suc x)) d b = absurd (omega arith)

-- k steps, and the eight steps for a byte, where the bits l follow.
module _ (l s : Polynomial) (fits : 32 ≤ length s) where
  steps : (k c : ℕ) → Word c → divide (length (zeros k ++ l)) (add_front (bits_of 32 c) (zeros k ++ s)) ≡ divide (length l) (add_front (bits_of 32 (shifts k c)) s)
  unfolding zeros shifts
  steps zero c h = refl
  steps (suc k) c h = step (length (zeros k ++ l)) (zeros k ++ s) (simp length-append (omega arith)) c h ∙ steps k (shift c) (shift_word c h)

  add_byte : (c b : ℕ) → Byte b → add_front (bits_of 32 c) (bits_of 8 b ++ s) ≡ add_front (bits_of 32 (bit_xor c b)) (zeros 8 ++ s)
  add_byte c b p =
      let long : 32 ≤ length (zeros 8 ++ s) = simp length-append (omega arith) in
      ap (add_front (bits_of 32 c)) (sym (add-fewer 8 32 b (zeros 8 ++ s) p (omega arith) long ∙ bits_zeros 8 b s)) ∙ add_bits 32 c b (zeros 8 ++ s)

  divide_byte : (c b : ℕ) → Word c → Byte b → divide (length (bits_of 8 b ++ l)) (add_front (bits_of 32 c) (bits_of 8 b ++ s)) ≡ divide (length l) (add_front (bits_of 32 (feed_byte c b)) s)
  unfolding feed_byte bits_of zeros
  divide_byte c b h p = ap (divide (length (zeros 8 ++ l))) (add_byte c b p) ∙ steps 8 (bit_xor c b) (feed_start c b h p)

-- The message, which starts from all ones.
with_zeros : (l : Polynomial) → length (l ++ zeros 32) ≡ length l + 32
with_zeros l = simp (length-append, length-zeros)

divide_message : (m : Bytes) → All Byte m → (c : ℕ) → Word c → divide (length (message_bits m)) (add_front (bits_of 32 c) (message_bits m ++ zeros 32)) ≡ bits_of 32 (register c m)
unfolding message_bits register divide
divide_message [] p c h = simp append-nil at (bits_zeros 32 c [])
divide_message (b ∷ m) p c h =
    rw append_assoc (divide_byte (message_bits m) (message_bits m ++ zeros 32) (omega (arith, with_zeros (message_bits m))) c b h p.0
    ∙ divide_message m p.1 (feed_byte c b) (feed_word c b h p.0))

complement_word : (l : Polynomial) → complement_first 32 l ≡ add_front (bits_of 32 0xFFFF_FFFF) l
complement_word l = complement_add 32 l ∙ unfold complement_first zeros bits_of in refl

remainder-register : (m : Bytes) → All Byte m → remainder (dividend m) ≡ bits_of 32 (register 0xFFFF_FFFF m)
unfolding remainder dividend
remainder-register m p = rw (complement_word (message_bits m ++ zeros 32), length-add, with_zeros, add-sub_cancel) (divide_message m p 0xFFFF_FFFF (lit< tt))

complement_register : (m : Bytes) → bits_of 32 (crc32 m) ≡ map not (bits_of 32 (register 0xFFFF_FFFF m))
unfolding crc32
complement_register m =
    let r : ℕ = register 0xFFFF_FFFF m in
    ap (bits_of 32) (xor_comm r 0xFFFF_FFFF) ∙ bits_xor 32 0xFFFF_FFFF r ∙ sym (complement_word (bits_of 32 r)) ∙ complement_bits 32 r

pub crc32_ieee : (m : Bytes) → All Byte m → crc32 m ≡ ieee_crc32 m
unfolding ieee_crc32
crc32_ieee m p = sym (of_bits_lem 32 (crc32 m) (crc32-word m p)) ∙ ap of_bits (complement_register m ∙ ap (map not) (sym (remainder-register m p)))

-- For a message of at least 32 bits the order of complementing and multiplying makes no difference.
complement_front : (k : ℕ) (l r : Polynomial) → k ≤ length l → complement_first k (l ++ r) ≡ complement_first k l ++ r
unfolding complement_first
complement_front zero l r h = refl
complement_front (suc k) [] r h = absurd (omega arith)
complement_front (suc k) (x ∷ l) r h = cons refl (complement_front k l r (omega arith))

pub complement_order : (l : Polynomial) → 32 ≤ length l → complement_first 32 (l ++ zeros 32) ≡ complement_first 32 l ++ zeros 32
complement_order l h = complement_front 32 l (zeros 32) h

-- Multiplication by hand: the sum of copies of g, one for each coefficient of q that is 1, each aligned with it.
unfoldable pub product : Polynomial → Polynomial → Polynomial
product [] g = zeros (length g - 1)
product (a ∷ q) g = add_front (if a then g else []) (false ∷ product q g)

-- q times the generator, plus r: where r has 32 coefficients, both terms have length q + 32.
unfoldable pub times_plus : Polynomial → Polynomial → Polynomial
times_plus q r = add_front (product q generator) (zeros (length q) ++ r)

pub length-product : (q : Polynomial) → length (product q generator) ≡ length q + 32
unfolding product generator polynomial zeros add_front
length-product [] = refl
length-product (a ∷ q) = simp length-add (omega (arith, length-product q))

length-times_plus : (q r : Polynomial) → length r ≡ 32 → length (times_plus q r) ≡ length q + 32
unfolding times_plus
length-times_plus q r h = simp (length-add, length-append, length-zeros, h)

plus_none : (r : Polynomial) → 32 ≤ length r → times_plus [] r ≡ r
unfolding times_plus product generator polynomial zeros bits_of
plus_none r h = add_none 32 r h

plus_false : (q r : Polynomial) → times_plus (false ∷ q) r ≡ false ∷ times_plus q r
unfolding times_plus product zeros add_front xor
plus_false q r = refl

plus_true : (q r : Polynomial) → times_plus (true ∷ q) r ≡ true ∷ add_front lower (times_plus q r)
unfolding times_plus product generator polynomial zeros bits_of add_front xor
plus_true q r = cons refl (sym (add_assoc lower (product q generator) (zeros (length q) ++ r) (omega (arith, length-product q))))

twice : (s : Polynomial) → 32 ≤ length s → add_front lower (add_front lower s) ≡ s
twice s h = add_bits 32 0xEDB88320 0xEDB88320 s ∙ add_none 32 s h

-- p is a multiple of the generator, plus r, which is of degree 31 or less.
pub record Division (p r : Polynomial) : Type 0 where
  pub quotient : Polynomial
  pub equation : p ≡ times_plus quotient r
  pub below : length r ≡ 32

divided : (k : ℕ) (p : Polynomial) → length p ≡ k + 32 → Division p (divide k p)
unfolding divide
divided zero p h = record { quotient = []; equation = sym (plus_none p (omega arith)); below = omega arith }
divided (suc k) [] h = absurd (omega arith)
divided (suc k) (false ∷ p) h =
    let d : Division p (divide k p) = divided k p (omega arith) in
    record { quotient = false ∷ d.quotient; equation = cons refl d.equation ∙ sym (plus_false d.quotient (divide k p)); below = d.below }
divided (suc k) (true ∷ p) h = subst (Division (true ∷ p)) (sym (divide-true k p)) (go (divided k (add_front lower p) (omega (arith, length-add lower p))))
  where
    go : {r : Polynomial} → Division (add_front lower p) r → Division (true ∷ p) r
    go {r} d =
        let e : p ≡ add_front lower (times_plus d.quotient r) = sym (twice p (omega arith)) ∙ ap (add_front lower) d.equation in
        record { quotient = true ∷ d.quotient; equation = cons refl e ∙ sym (plus_true d.quotient r); below = d.below }

divide-back : (q r : Polynomial) → length r ≡ 32 → divide (length q) (times_plus q r) ≡ r
unfolding divide
divide-back [] r h = plus_none r (omega arith)
divide-back (false ∷ q) r h = rw plus_false (divide-back q r h)
divide-back (true ∷ q) r h =
    ap (divide (suc (length q))) (plus_true q r) ∙ divide-true (length q) (add_front lower (times_plus q r))
    ∙ rw (twice (times_plus q r) (omega (arith, length-times_plus q r h))) (divide-back q r h)

-- The remainder is what such a division leaves, and nothing else is.
pub remainder_divides : (p : Polynomial) → 32 ≤ length p → Division p (remainder p)
unfolding remainder
remainder_divides p h = divided (length p - 32) p (omega arith)

pub remainder-only : (p r : Polynomial) → Division p r → remainder p ≡ r
unfolding remainder
remainder-only p r d =
    let q : Polynomial = d.quotient in
    rw (d.equation, length-times_plus q r d.below, add-sub_cancel) (divide-back q r d.below)
