-- The loops over a byte's bits and over the bytes: what is left to do, done to the register, gives the whole.
use mathlib.Core.Path.{◌≡◌, refl, ap, ◌∙◌}
use Prim.Native.Nat.{ℕ, suc, ◌+◌, ◌-◌, ◌≤◌, ◌<◌}
use native.Mathlib.Omega.{arith}
use native.Mathlib.Numerals.{add-one}
use lib.ListN.{length, take, drop, get_or, length-drop, drop_of_length-le}
use lib.Seq.{take_all, drop-cons}
use lib.Bits.{bit_xor}
use Rattle.basics.specs.Base.{Bytes}
use Rattle.basics.specs.Crc32.{shift, shifts, feed_byte, register, crc32, ieee_crc32}
use Rattle.basic_laws.specs.Tests.{all-at}
use Rattle.basic_laws.specs.FieldLaws.{Byte}
use Rattle.basic_laws.specs.Crc32Laws.{crc32_ieee}

-- Of eight shifts n are made.
pub record Shifting (c b n r : ℕ) : Type 0 where
  pub within : n ≤ 8
  pub same : shifts (8 - n) r ≡ feed_byte c b

pub shifting : (c b : ℕ) {x : ℕ} → x ≡ b → Shifting c b 0 (bit_xor c x)
shifting c b e = record { within = omega arith; same = unfold feed_byte in rw e }

module _ {c b n r : ℕ} (w : Shifting c b n r) where
  pub shifted : {q : ℕ} → q ≡ shift r → n < 8 → Shifting c b (n + 1) q
  unfolding shifts
  shifted e l =
      let left : 8 - n ≡ suc (8 - (n + 1)) = omega arith in
      record { within = omega arith; same = ap (shifts (8 - (n + 1))) e ∙ rw left at w.same }

  pub all-shifted : 8 ≤ n → r ≡ feed_byte c b
  unfolding shifts
  all-shifted l = let none : 8 - n ≡ 0 = omega arith in rw none at w.same

-- The bytes from i on are to be fed, and give the whole.
pub record Feeding (whole : ℕ) (s : Bytes) (i c : ℕ) : Type 0 where
  pub same : register c (drop i s) ≡ whole

pub feeding : (s : Bytes) (i c : ℕ) → Feeding (register c (drop i s)) s i c
feeding s i c = record { same = refl }

module _ {whole : ℕ} {s : Bytes} {i c : ℕ} (w : Feeding whole s i c) where
  pub fed : {j q : ℕ} → j ≡ i + 1 → q ≡ feed_byte c (get_or s i 0) → i < length s → Feeding whole s j q
  unfolding register
  fed n e l = record { same = rw (n, e, add-one, ← w.same, drop-cons s i 0 l) }

  -- What is left is fed at once.
  pub left-fed : {j q : ℕ} → i ≡ j → q ≡ register c (take (length s - j) (drop j s)) → q ≡ whole
  left-fed {j} n e = e ∙ ap (register c) (take_all (length s - j) (drop j s) (omega (arith, length-drop j s))) ∙ rw n at w.same

  pub all-fed : length s ≤ i → c ≡ whole
  unfolding register
  all-fed l = rw (drop_of_length-le s l) at w.same

-- The register of all bytes, complemented, is the checksum.
pub checksum : (s : Bytes) {c : ℕ} → c ≡ register 0xFFFF_FFFF s → bit_xor c 0xFFFF_FFFF ≡ crc32 s
unfolding crc32
checksum s e = ap (λ (x : ℕ). bit_xor x 0xFFFF_FFFF) e

pub checksums : (s : Bytes) {c : ℕ} → ((i : ℕ) → Byte (get_or s i 0)) → c ≡ register 0xFFFF_FFFF s → (bit_xor c 0xFFFF_FFFF ≡ crc32 s) × (bit_xor c 0xFFFF_FFFF ≡ ieee_crc32 s)
checksums s b e = (checksum s e, checksum s e ∙ crc32_ieee s (all-at Byte 0 s b))
