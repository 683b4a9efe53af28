-- What `read_field` and `u32_at` find at a place.
use mathlib.Core.Path.{◌≡◌, refl, sym, ap, ◌∙◌}
use mathlib.Core.List.{[], ◌∷◌, ◌++◌}
use mathlib.Core.Option.{none}
use Prim.Native.Nat.{ℕ, zero, suc, ◌+◌, ◌-◌, ◌≤◌, ◌<◌}
use native.Mathlib.Omega.{arith}
use native.Mathlib.Numerals.{add-one}
use lib.ListN.{length, take, drop, get_or, length-drop, drop_of_length-le, take-append-drop}
use lib.Seq.{take_all, drop-cons, drop-drop, length-take-le}
use borrow.Author.Tests.{le-leb, lt-leb}
use Rattle.std.specs.Prelude.{Result, Ok, Err}
use Rattle.basics.specs.Base.{Bytes}
use Rattle.basics.specs.Field.{little_endian, from_little_endian, encode_field, fields_from}
use Rattle.basic_laws.specs.FieldLaws.{Byte, split-first, bytes-again}
use Rattle.field.specs.Reading.{u32_at, field_of, Reads, Stands, Headless, Valueless}
use Rattle.field.specs.declared.Item.{Item}
use Rattle.field.specs.declared.Broken.{Broken}
use Rattle.field.specs.declared.Broken.TheVariants.{NoHeader, NoValue}

-- One byte and those behind it.
next : (s : Bytes) (at k : ℕ) → k ≡ at + 1 → at < length s → drop at s ≡ get_or s at 0 ∷ drop k s
next s at k e h = rw (e, add-one) (drop-cons s at 0 h)

three : (s : Bytes) (at : ℕ) → at + 3 ≤ length s → drop at s ≡ get_or s at 0 ∷ get_or s (at + 1) 0 ∷ get_or s (at + 2) 0 ∷ drop (at + 3) s
three s at h = rw (next s at (at + 1) refl (omega arith), next s (at + 1) (at + 2) (omega arith) (omega arith), next s (at + 2) (at + 3) (omega arith) (omega arith))

pub four : (s : Bytes) (at : ℕ) → at + 4 ≤ length s → drop at s ≡ get_or s at 0 ∷ get_or s (at + 1) 0 ∷ get_or s (at + 2) 0 ∷ get_or s (at + 3) 0 ∷ drop (at + 4) s
four s at h = rw (three s at (omega arith), next s (at + 3) (at + 4) (omega arith) (omega arith))

-- The number at a place: with four bytes there, as `u32_at` reads it, and without.
module _ (s : Bytes) (at : ℕ) where
  pub number-there : at + 4 ≤ length s → u32_at s at ≡ from_little_endian (take 4 (drop at s))
  unfolding u32_at
  number-there h = rw (le-leb _ _ h)

  pub number_read : 4 ≤ length s - at → from_little_endian (get_or s at 0 ∷ get_or s (at + 1) 0 ∷ get_or s (at + 2) 0 ∷ get_or s (at + 3) 0 ∷ []) ≡ u32_at s at
  number_read h = sym (number-there (omega arith) ∙ rw (four s at (omega arith)))

  -- The library's first four bytes of those from a place on.
  pub first-four : {rest bytes : Bytes} → rest ≡ take (length s - at) (drop at s) → 4 ≤ length rest → bytes ≡ take 4 rest
      → bytes ≡ get_or s at 0 ∷ get_or s (at + 1) 0 ∷ get_or s (at + 2) 0 ∷ get_or s (at + 3) 0 ∷ []
  first-four e h f =
      let all : take (length s - at) (drop at s) ≡ drop at s = take_all (length s - at) (drop at s) (omega (arith, length-drop at s)) in
      let l : at + 4 ≤ length s = omega (arith, length-drop at s, rw (e, all) at h) in
      f ∙ rw (e, all, four s at l)

  pub number-missing : length s - at < 4 → 0 ≡ u32_at s at
  unfolding u32_at
  number-missing h = let l : length s < at + 4 = omega arith in rw (lt-leb _ _ l)

-- More bytes to pass than there are.
too_few : (m : ℕ) (p : Bytes) → length p < m → fields_from m p ≡ none
unfolding fields_from
too_few zero p h = absurd (omega arith)
too_few (suc m) [] h = refl
too_few (suc m) (x ∷ p) h = too_few m p (omega arith)

-- A field whose length or value is cut off.
cut_off : (s : Bytes) (at : ℕ) → at < length s → length s < at + 3 + from_little_endian (take 2 (drop (at + 1) s)) → fields_from 0 (drop at s) ≡ none
unfolding fields_from
cut_off s at l h =
    let e : length (drop (at + 1) s) ≡ length s - (at + 1) = length-drop (at + 1) s in
    rw (next s at (at + 1) refl l, too_few (2 + from_little_endian (take 2 (drop (at + 1) s))) (drop (at + 1) s) (omega arith))

-- The answers of `read_field`; n is the length that it reads.
module _ {s : Bytes} {at : ℕ} where
  pub headless : length s - at < 3 → Headless s at
  headless h = record {
    few = omega arith;
    ended = λ l. unfold fields_from in rw (drop_of_length-le s l);
    fields = λ l. cut_off s at l (omega arith);
  }

  module _ {n : ℕ} (h : 3 ≤ length s - at) (e : n ≡ from_little_endian (get_or s (at + 1) 0 ∷ get_or s (at + 2) 0 ∷ [])) where
    pub valueless : length s - (at + 3) < n → Valueless s at
    valueless l =
        let two : take 2 (drop (at + 1) s) ≡ get_or s (at + 1) 0 ∷ get_or s (at + 2) 0 ∷ [] = rw (next s (at + 1) (at + 2) (omega arith) (omega arith), next s (at + 2) (at + 3) (omega arith) (omega arith)) in
        let past : length s < at + 3 + from_little_endian (take 2 (drop (at + 1) s)) = rw (two, ← e) (omega arith) in
        record { head = omega arith; past = past; fields = cut_off s at (omega arith) past }

    pub stands : ((i : ℕ) → Byte (get_or s i 0)) → n ≤ length s - (at + 3) → Stands s at (record { tag = get_or s at 0; start = at + 3; end = at + 3 + n })
    unfolding encode_field from_little_endian
    stands byte l =
        let x : Item = record { tag = get_or s at 0; start = at + 3; end = at + 3 + n } in
        let r : Bytes = drop (at + 3) s in
        let d : length r ≡ length s - (at + 3) = length-drop (at + 3) s in
        let k : at + 3 + n - (at + 3) ≡ n = omega arith in
        let size : length (take n r) ≡ n = length-take-le n r (omega arith) in
        let two : little_endian 2 n ≡ get_or s (at + 1) 0 ∷ get_or s (at + 2) 0 ∷ [] = ap (little_endian 2) e ∙ bytes-again _ (byte (at + 1), (byte (at + 2), tt)) in
        let rest : take n r ++ drop (at + 3 + n) s ≡ r = ap (λ (y : Bytes). take n r ++ y) (sym (drop-drop n (at + 3) s)) ∙ take-append-drop n r in
        let bytes : drop at s ≡ encode_field (field_of s x) ++ drop (at + 3 + n) s = rw (k, size, two, rest) (three s at (omega arith)) in
        let short : at + 3 + n - (at + 3) < 0x1_0000 = omega (arith, byte (at + 1), byte (at + 2)) in
        record {
          start = refl;
          ordered = omega arith;
          within = omega arith;
          short = short;
          bytes = bytes;
          fields = rw bytes (split-first (field_of s x) (drop (at + 3 + n) s) (rw (k, size) (rw k at short)));
        }

-- What the arms of a `match` on the answer learn, where bytes are left.
module _ (s : Bytes) (at : ℕ) (r : Result Item Broken) (h : Reads s at r) where
  pub is_field : (x : Item) → r ≡ Ok x → Stands s at x
  is_field x e = rw e at h

  pub no_field : (b : Broken) → r ≡ Err b → at < length s → fields_from 0 (drop at s) ≡ none
  no_field NoHeader e l = (rw e at h).fields l
  no_field NoValue e l = (rw e at h).fields
