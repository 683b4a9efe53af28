-- A file's name in lower case: compared with a key byte by byte, and written as a field.
use mathlib.Core.Path.{◌≡◌, refl, sym, ap, ap₂, ◌∙◌}
use mathlib.Core.List.{[], ◌∷◌, ◌++◌, map, map-append}
use mathlib.Core.Bool.{Bool, true, false}
use Prim.Native.Nat.{ℕ, zero, suc, ◌+◌, ◌-◌, ◌≤◌, ◌<◌}
use native.Mathlib.Omega.{arith}
use lib.ListN.{length, get_or, drop}
use Rattle.std.specs.Bool.{MatchBool}
use Rattle.std.specs.List.{zip, AllWithin, HoldsAt}
use Rattle.basics.specs.Base.{Bytes, same_bytes}
use Rattle.basics.specs.Name.{lower_byte, lower}
use Rattle.basics.specs.Field.{little_endian, encode_field}
use Rattle.basic_laws.specs.Tests.{same-eq, same_refl}
use Rattle.field.specs.Writing.{written, field}
use Rattle.field.proofs.Written.{written_none, encoded_length, field-short, field-written}
use Rattle.paths.proofs.Lower.{length-lower}
use Rattle.spans.specs.Spans.{name_of, length_of, Sound}
use Rattle.spans.specs.declared.NameRef.{NameRef}
use Rattle.spans.proofs.Parts.{length-name}
use Rattle.local_collection.specs.Keys.{Puts}

pub length-lowered : {src : Bytes} {r : NameRef} → Sound src r → length (lower (name_of src r)) ≡ length_of r
length-lowered {src} {r} s = length-lower (name_of src r) ∙ length-name s

-- Two names that differ are not the same.
apart : (a b : Bytes) → (a ≡ b → ⊥) → false ≡ same_bytes a b
apart a b h = go (same_bytes a b) refl
  where
    go : (t : Bool) → same_bytes a b ≡ t → false ≡ t
    go false e = refl
    go true e = absurd (h (same-eq a b e))

pub other_length : {src : Bytes} {file key : NameRef} {n m : ℕ} → Sound src file → Sound src key → n ≡ length_of file → m ≡ length_of key → (n ≡ m → ⊥) → false ≡ same_bytes (lower (name_of src file)) (name_of src key)
other_length {src} {file} {key} f k e q h = apart (lower (name_of src file)) (name_of src key) (λ p. h (e ∙ sym (length-lowered f) ∙ ap length p ∙ length-name k ∙ sym q))

-- A name in lower case is the key where each of its bytes is the key's, and is not where one is not.
zipped-same : (a b : Bytes) → length a ≡ length b → AllWithin (λ (p : ℕ × ℕ). lower_byte p.0 ≡ p.1) (zip a b) 0 (length (zip a b)) → lower a ≡ b
unfolding lower
zipped-same [] [] h w = refl
zipped-same [] (y ∷ b) h w = absurd (omega arith)
zipped-same (x ∷ a) [] h w = absurd (omega arith)
zipped-same (x ∷ a) (y ∷ b) h w = ap₂ ◌∷◌ (w 0 (0, 0) (omega arith) (omega arith)) (zipped-same a b (omega arith) (λ k d l m. w (suc k) d (omega arith) (omega arith)))

zipped-apart : (a b : Bytes) (k : ℕ) → k < length (zip a b) → HoldsAt (λ (p : ℕ × ℕ). lower_byte p.0 ≡ p.1 → ⊥) (zip a b) k → lower a ≡ b → ⊥
unfolding lower
zipped-apart [] b k l h e = absurd (omega arith)
zipped-apart (x ∷ a) [] k l h e = absurd (omega arith)
zipped-apart (x ∷ a) (y ∷ b) zero l h e = h (0, 0) (ap (λ (s : Bytes). get_or s 0 0) e)
zipped-apart (x ∷ a) (y ∷ b) (suc k) l h e = zipped-apart a b k (omega arith) h (ap (drop 1) e)

pub zipped : (a b : Bytes) → length a ≡ length b → (r : Bool) → MatchBool r (AllWithin (λ (p : ℕ × ℕ). lower_byte p.0 ≡ p.1) (zip a b) 0 (length (zip a b))) ((k : ℕ) × (k < length (zip a b)) × HoldsAt (λ (p : ℕ × ℕ). lower_byte p.0 ≡ p.1 → ⊥) (zip a b) k)
    → r ≡ same_bytes (lower a) b
zipped a b h true w = sym (rw (zipped-same a b h w) (same_refl b))
zipped a b h false w = apart (lower a) b (zipped-apart a b w.0 w.1 w.2)

-- Both slices of a name in lower case.
pub both-lowered : (a b : Bytes) {n : Bytes} → a ++ b ≡ n → lower a ++ lower b ≡ lower n
unfolding lower
both-lowered a b e = sym (map-append lower_byte a b) ∙ ap (map lower_byte) e

-- A key's field: crate field's laws, with the length that the code counted.
module _ {src : Bytes} {r : NameRef} (s : Sound src r) (n at : ℕ) (out : Bytes) (e : n ≡ length_of r) where
  abbrev key : Bytes
  key = lower (name_of src r)

  long : n ≡ length key
  long = e ∙ sym (length-lowered s)

  puts : {end : Bytes} → end ≡ written at (encode_field (field 3 key)) out → Puts key at out end (3 + n)
  puts q = record { out = q; size = omega (arith, long, encoded_length (field 3 key)); small = omega (arith, e, s.room) }

  pub key-written : {mid end : Bytes} → mid ≡ written at (3 ∷ little_endian 2 n) out → end ≡ written (at + 3) key mid → 3 + n ≤ length out - at → Puts key at out end (3 + n)
  key-written p q h =
      let short : length key ≤ 0xFFFF = omega (arith, long, e, s.room) in
      puts (field-written at 3 key out short (at + 3) (p ∙ ap (λ (k : ℕ). written at (3 ∷ little_endian 2 k) out) long) q refl (omega (arith, long)) ∙ field-short at (field 3 key) out short)

  pub key-none : length out - at < 3 + n → Puts key at out out (3 + n)
  key-none h = puts (written_none at _ out (omega (arith, long, encoded_length (field 3 key))))
