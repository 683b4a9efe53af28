-- Splitting what was joined gives the fields back.
use Rattle.std.specs.Prelude.{◌≡◌, ℕ, zero, suc, ◌+◌, ◌*◌, ◌/◌, ◌%◌, ◌≤◌, ◌<◌, List, [], ◌∷◌, ◌++◌, length, take, drop}
use Rattle.std.proofs.Math.Path.{refl}
use Rattle.std.proofs.Common.{sym, ◌∙◌, ap, arith, append-nil, append_assoc, take-append-drop, length-take-le}
use Rattle.std.proofs.Math.Option.{Option, none, some}
use Rattle.std.proofs.Math.Seq.{take-append_seam}
use Rattle.basic_laws.specs.MapLaws.{none≢some, some_inj}
use Rattle.basics.specs.Base.{Bytes, case_option, flat_map}
use Rattle.basics.specs.Field.{little_endian, from_little_endian, Field, encode_field, encode_fields, fields_from, decode_fields}
use Rattle.basic_laws.specs.Tests.{All}

pub le_two : (n : ℕ) → n < 65536 → from_little_endian (little_endian 2 n) ≡ n
unfolding little_endian from_little_endian
le_two n h = omega arith

pub le_four : (n : ℕ) → n ≤ 4294967295 → from_little_endian (little_endian 4 n) ≡ n
unfolding little_endian from_little_endian
le_four n h = omega arith

pub skip : (v r : Bytes) → fields_from (length v) (v ++ r) ≡ fields_from 0 r
unfolding fields_from
skip [] r = refl
skip (x ∷ v) r = skip v r

two-more : (n : ℕ) → 2 + n ≡ suc (suc n)
two-more n = omega arith

abbrev pub Short : Field → Type 0
Short f = length f.value < 65536

pub split-first : (f : Field) (r : Bytes) → Short f → fields_from 0 (encode_field f ++ r) ≡ case_option (fields_from 0 r) none (λ fs. some (f ∷ fs))
unfolding encode_field little_endian fields_from
split-first f r h = go (from_little_endian (little_endian 2 (length f.value))) (le_two (length f.value) h)
  where
    a : ℕ
    a = length f.value % 256

    b : ℕ
    b = length f.value / 256 % 256

    at : (n : ℕ) → Option (List Field)
    at n = case_option (fields_from (2 + n) (a ∷ b ∷ (f.value ++ r))) none (λ fs. some (record { tag = f.tag; value = take n (f.value ++ r) } ∷ fs))

    go : (n : ℕ) → n ≡ length f.value → at n ≡ case_option (fields_from 0 r) none (λ fs. some (f ∷ fs))
    go n e = rw (e, two-more (length f.value), take-append_seam f.value r) (rw (skip f.value r))

pub split-join : (fs : List Field) → All Short fs → decode_fields (encode_fields fs) ≡ some fs
unfolding decode_fields encode_fields
split-join [] h = unfold fields_from in refl
split-join (f ∷ fs) h = split-first f (flat_map encode_field fs) h.0 ∙ rw (split-join fs h.1)

-- The bytes of fields one behind the other.
pub encode_append : (a b : List Field) → encode_fields (a ++ b) ≡ encode_fields a ++ encode_fields b
unfolding encode_fields
encode_append [] b = refl
encode_append (f ∷ a) b = ap (encode_field f ++◌) (encode_append a b) ∙ sym (append_assoc (encode_field f) (encode_fields a) (encode_fields b))

pub encode_one : (f : Field) → encode_fields (f ∷ []) ≡ encode_field f
unfolding encode_fields
encode_one f = append-nil (encode_field f)

-- What splits was joined: for lists of bytes, splitting refuses all else.
abbrev pub Byte : ℕ → Type 0
Byte x = x < 256

-- The bytes of the number of some bytes are these bytes.
pub bytes-again : (l : Bytes) → All Byte l → little_endian (length l) (from_little_endian l) ≡ l
unfolding little_endian from_little_endian
bytes-again [] h = refl
bytes-again (b ∷ r) h = go (from_little_endian r) (bytes-again r h.1)
  where
    go : (n : ℕ) → little_endian (length r) n ≡ r → (b + 256 * n) % 256 ∷ little_endian (length r) ((b + 256 * n) / 256) ≡ b ∷ r
    go n e =
        let p : b < 256 = h.0 in
        let low : (b + 256 * n) % 256 ≡ b = omega arith in
        let high : (b + 256 * n) / 256 ≡ n = omega arith in
        rw (low, high, e)

two_bytes : (a b n : ℕ) → a < 256 → b < 256 → n ≡ from_little_endian (a ∷ b ∷ []) → little_endian 2 n ≡ a ∷ b ∷ []
two_bytes a b n p q e = rw e (bytes-again (a ∷ b ∷ []) (p, (q, tt)))

pub record Joined (m : ℕ) (p : Bytes) (fs : List Field) : Type 0 where
  pub fits : m ≤ length p
  pub rest : drop m p ≡ encode_fields fs

some-cons : (o : Option (List Field)) (f : Field) (fs : List Field) → case_option o none (λ l. some (f ∷ l)) ≡ some fs → (l : List Field) × (o ≡ some l) × (fs ≡ f ∷ l)
some-cons none f fs e = none≢some e
some-cons (some l) f fs e = (l, refl, sym (some_inj e))

joined-field : (t : ℕ) (r : Bytes) (l : List Field) → All Byte r → Joined (2 + from_little_endian (take 2 r)) r l → t ∷ r ≡ encode_field (record { tag = t; value = take (from_little_endian (take 2 r)) (drop 2 r) }) ++ encode_fields l
unfolding encode_field
joined-field t [] l h j = let f = j.fits in absurd (omega arith)
joined-field t (a ∷ []) l h j = let f = j.fits in absurd (omega arith)
joined-field t (a ∷ b ∷ r) l h j = go (from_little_endian (a ∷ b ∷ [])) refl j.fits j.rest
  where
    go : (n : ℕ) → n ≡ from_little_endian (a ∷ b ∷ []) → 2 + n ≤ length (a ∷ b ∷ r) → drop (2 + n) (a ∷ b ∷ r) ≡ encode_fields l → t ∷ a ∷ b ∷ r ≡ encode_field (record { tag = t; value = take n r }) ++ encode_fields l
    go n e f q =
        let s : length (take n r) ≡ n = length-take-le n r (omega arith) in
        let d : drop n r ≡ encode_fields l = rw (two-more n) at q in
        rw (s, two_bytes a b n h.0 h.1.0 e, ← d) (sym (ap (λ (x : Bytes). t ∷ a ∷ b ∷ x) (take-append-drop n r)))

pub split-only : (m : ℕ) (p : Bytes) (fs : List Field) → All Byte p → fields_from m p ≡ some fs → Joined m p fs
unfolding fields_from encode_fields
split-only (suc m) [] fs h e = none≢some e
split-only (suc m) (x ∷ p) fs h e = let j = split-only m p fs h.1 e in record { fits = (let f = j.fits in omega arith); rest = j.rest }
split-only zero [] fs h e = record { fits = omega arith; rest = ap encode_fields (some_inj e) }
split-only zero (t ∷ r) fs h e =
    let c = some-cons (fields_from (2 + from_little_endian (take 2 r)) r) _ fs e in
    let j = split-only (2 + from_little_endian (take 2 r)) r c.0 h.1 c.1 in
    record { fits = omega arith; rest = joined-field t r c.0 h.1 j ∙ ap encode_fields (sym c.2) }
