-- A payload read field by field against the row of its kind.
use Rattle.std.specs.Prelude.{if◌then◌else◌, Some, None}
use mathlib.Core.Path.{◌≡◌, refl, sym, ap, ◌∙◌}
use mathlib.Core.List.{List, [], ◌∷◌, ◌++◌, map, append-nil, append_assoc}
use mathlib.Core.Bool.{Bool, true, false, ◌&&◌}
use mathlib.Core.Option.{Option, none, some}
use Prim.Native.Nat.{ℕ, suc, ◌+◌, ◌-◌, ◌≤◌, ◌<◌}
use native.Mathlib.Omega.{arith}
use native.Mathlib.Numerals.{add-one}
use lib.Dec.{leb, eqb}
use lib.ListN.{length, take, drop, set, get_or, length-drop, length-set, drop_of_length-le}
use lib.Seq.{drop-cons, length-take-le, take-suc-set}
use borrow.Author.Tests.{leb-true, leb-false, eqb-true, eqb-false, eq-eqb, ne_eqb}
use Rattle.basics.specs.Base.{Bytes, case_option, same_bytes, all_of}
use Rattle.basics.specs.Field.{Field, from_little_endian, fields_from, decode_fields}
use Rattle.model.specs.Operation.{valid_value}
use Rattle.basic_laws.specs.OrderLaws.{nat_laws}
use Rattle.spans.specs.Spans.{name_of, Sound, Names}
use Rattle.spans.specs.declared.NameRef.{NameRef}
use Rattle.field.specs.Reading.{field_of, Reads, Stands}
use Rattle.field.proofs.Reading.{no_field}
use Rattle.field.specs.declared.Item.{Item}
use Rattle.std.specs.Prelude.{Result, Err}
use Rattle.field.specs.declared.Broken.{Broken}
use Rattle.transaction.specs.Rows.{match_row, SoundParts, Matches}
use Rattle.transaction.proofs.Lists.{map-append, all_set}
use Rattle.transaction.proofs.Same.{not_same}
use Rattle.transaction.proofs.Checks.{short-value}

-- What a list of fields gives under some tags.
unfoldable pub matched : List ℕ → List Field → Option (List Bytes)
matched ts fs = if same_bytes (map (λ f. f.tag) fs) ts && all_of valid_value fs then some (map (λ f. f.value) fs) else none

same_head : (x : ℕ) (l m : Bytes) → same_bytes (x ∷ l) (x ∷ m) ≡ same_bytes l m
same_head x l m = rw (nat_laws.reflexive x)

head_of : {x y : ℕ} {l m : Bytes} → x ∷ l ≡ y ∷ m → x ≡ y
head_of {x} e = ap (λ (l : Bytes). get_or l 0 x) e

module _ (t : ℕ) (ts : List ℕ) (f : Field) (fs : List Field) where
  other_tag : (f.tag ≡ t → ⊥) → matched (t ∷ ts) (f ∷ fs) ≡ none
  unfolding matched
  other_tag h = rw (not_same (f.tag ∷ map (λ g. g.tag) fs) (t ∷ ts) (λ e. h (head_of e)))

  bad_value : valid_value f ≡ false → matched (t ∷ ts) (f ∷ fs) ≡ none
  unfolding matched
  bad_value h = rw h (go (same_bytes (f.tag ∷ map (λ g. g.tag) fs) (t ∷ ts)))
    where
      go : (b : Bool) → if◌then◌else◌ (b && false) (some (f.value ∷ map (λ g. g.value) fs)) none ≡ none
      go true = refl
      go false = refl

  good-field : f.tag ≡ t → valid_value f ≡ true → matched (t ∷ ts) (f ∷ fs) ≡ case_option (matched ts fs) none (λ vs. some (f.value ∷ vs))
  unfolding matched
  good-field e h = rw (← e, same_head f.tag (map (λ g. g.tag) fs) ts, h) (go (same_bytes (map (λ g. g.tag) fs) ts) (all_of valid_value fs))
    where
      go : (a b : Bool) → if◌then◌else◌ (a && b) (some (f.value ∷ map (λ g. g.value) fs)) none ≡ case_option (if a && b then some (map (λ g. g.value) fs) else none) none (λ vs. some (f.value ∷ vs))
      go true true = refl
      go true false = refl
      go false b = refl

-- The same of the bytes at a place.
pub row-of-bytes : (ts : List ℕ) (b : Bytes) → match_row ts b ≡ case_option (fields_from 0 b) none (matched ts)
unfolding match_row decode_fields matched
row-of-bytes ts b = refl

module _ {s : Bytes} {at : ℕ} {x : Item} (w : Stands s at x) (t : ℕ) (ts : List ℕ) where
  behind : match_row (t ∷ ts) (drop at s) ≡ case_option (case_option (fields_from 0 (drop x.end s)) none (λ fs. some (field_of s x ∷ fs))) none (matched (t ∷ ts))
  behind = row-of-bytes (t ∷ ts) (drop at s) ∙ ap (λ (o : Option (List Field)). case_option o none (matched (t ∷ ts))) w.fields

  refused-by : ((fs : List Field) → matched (t ∷ ts) (field_of s x ∷ fs) ≡ none) → match_row (t ∷ ts) (drop at s) ≡ none
  refused-by h = behind ∙ go (fields_from 0 (drop x.end s))
    where
      go : (q : Option (List Field)) → case_option (case_option q none (λ fs. some (field_of s x ∷ fs))) none (matched (t ∷ ts)) ≡ none
      go none = refl
      go (some fs) = h fs

  pub row-tag : (x.tag ≡ t → ⊥) → match_row (t ∷ ts) (drop at s) ≡ none
  row-tag h = refused-by (λ fs. other_tag t ts (field_of s x) fs h)

  pub row-value : valid_value (field_of s x) ≡ false → match_row (t ∷ ts) (drop at s) ≡ none
  row-value h = refused-by (λ fs. bad_value t ts (field_of s x) fs h)

  row_field : x.tag ≡ t → valid_value (field_of s x) ≡ true → match_row (t ∷ ts) (drop at s) ≡ case_option (match_row ts (drop x.end s)) none (λ vs. some ((field_of s x).value ∷ vs))
  row_field e h = behind ∙ go (fields_from 0 (drop x.end s)) ∙ ap (λ (o : Option (List Bytes)). case_option o none (λ vs. some ((field_of s x).value ∷ vs))) (sym (row-of-bytes ts (drop x.end s)))
    where
      go : (q : Option (List Field)) → case_option (case_option q none (λ fs. some (field_of s x ∷ fs))) none (matched (t ∷ ts)) ≡ case_option (case_option q none (matched ts)) none (λ vs. some ((field_of s x).value ∷ vs))
      go none = refl
      go (some fs) = good-field t ts (field_of s x) fs e h

no_tags : (t : ℕ) (ts : List ℕ) → matched (t ∷ ts) [] ≡ none
unfolding matched
no_tags t ts = refl

more-fields : (f : Field) (fs : List Field) → matched [] (f ∷ fs) ≡ none
unfolding matched
more-fields f fs = refl

-- No field stands there, or none is to come.
pub row-missing : (s : Bytes) (at : ℕ) (r : Result Item Broken) (t : ℕ) (ts : List ℕ) → Reads s at r → (b : Broken) → r ≡ Err b → match_row (t ∷ ts) (drop at s) ≡ none
unfolding fields_from
row-missing s at r t ts h b k = row-of-bytes (t ∷ ts) (drop at s) ∙ go (leb (length s) at) refl
  where
    go : (b : Bool) → leb (length s) at ≡ b → case_option (fields_from 0 (drop at s)) none (matched (t ∷ ts)) ≡ none
    go true e = rw (drop_of_length-le s (leb-true (length s) at e)) (no_tags t ts)
    go false e = rw (no_field s at r h b k (leb-false (length s) at e))

more_bytes : (y : ℕ) (r : Bytes) → case_option (fields_from 0 (y ∷ r)) none (matched []) ≡ none
unfolding fields_from
more_bytes y r = go (fields_from (2 + from_little_endian (take 2 r)) r)
  where
    go : (q : Option (List Field)) → case_option (case_option q none (λ fs. some (record { tag = y; value = take (from_little_endian (take 2 r)) (drop 2 r) } ∷ fs))) none (matched []) ≡ none
    go none = refl
    go (some fs) = more-fields _ fs

below : (m n : ℕ) → m ≤ n → (m ≡ n → ⊥) → m < n
below m n h k = go (leb n m) refl
  where
    go : (b : Bool) → leb n m ≡ b → m < n
    go true e = absurd (k (omega (arith, leb-true n m e)))
    go false e = leb-false n m e

row-end : (s : Bytes) (at : ℕ) → at ≤ length s → match_row [] (drop at s) ≡ (if eqb at (length s) then some [] else none)
unfolding fields_from matched
row-end s at l = row-of-bytes [] (drop at s) ∙ go (eqb at (length s)) refl
  where
    go : (b : Bool) → eqb at (length s) ≡ b → case_option (fields_from 0 (drop at s)) none (matched []) ≡ (if b then some [] else none)
    go true e = rw (drop_of_length-le s {i = at} (omega (arith, eqb-true at (length s) e)))
    go false e = rw (drop-cons s at 0 (below at (length s) l (eqb-false at (length s) e))) (more_bytes (get_or s at 0) (drop (suc at) s))

-- A valid value is a name's part.
pub spannable : {s : Bytes} {at : ℕ} {x : Item} → Stands s at x → valid_value (field_of s x) ≡ true → length s ≤ 0xFFFF → (x.start < 65536) × (x.end - x.start ≤ 64) × (x.start + (x.end - x.start) ≤ length s)
spannable {s} {at} {x} w v l =
    let n : length (field_of s x).value ≡ x.end - x.start = length-take-le (x.end - x.start) (drop x.start s) (omega (arith, length-drop x.start s)) in
    let h : length (field_of s x).value ≤ 64 = short-value x.tag (field_of s x).value v in
    (omega arith, omega arith, omega arith)

-- `read_row` has read the first i fields, up to a place.
pub record Matching (s : Bytes) (start : ℕ) (row : List ℕ) (parts : List NameRef) (at i : ℕ) : Type 0 where
  pub inside : at ≤ length s
  pub held : SoundParts s parts
  pub same : case_option (match_row (drop i row) (drop at s)) none (λ vs. some (map (name_of s) (take i parts) ++ vs)) ≡ match_row row (drop start s)

module _ {s : Bytes} {start : ℕ} {row : List ℕ} {parts : List NameRef} {at i : ℕ} (w : Matching s start row parts at i) where
  -- The tags that are left.
  left : i < length row → drop i row ≡ get_or row i 0 ∷ drop (i + 1) row
  left h = rw (add-one i) (drop-cons row i 0 h)

  pub refused : i < length row → match_row (get_or row i 0 ∷ drop (i + 1) row) (drop at s) ≡ none → Matches s row start None
  refused h e = record { parts = tt; same = rw (left h, e) at w.same }

  pub accepted : {x : Item} {r : NameRef} → i < length row → length row ≤ 5 → Stands s at x → x.tag ≡ get_or row i 0 → valid_value (field_of s x) ≡ true → Names s r (field_of s x).value → Matching s start row (set parts i r) x.end (i + 1)
  accepted {x} {r} h b st e v nm =
      let p : take (i + 1) (set parts i r) ≡ take i parts ++ r ∷ [] = rw (add-one i) (take-suc-set parts i r (omega (arith, w.held.size))) in
      let q : map (name_of s) (take (i + 1) (set parts i r)) ≡ map (name_of s) (take i parts) ++ (field_of s x).value ∷ [] = ap (map (name_of s)) p ∙ map-append (name_of s) (take i parts) (r ∷ []) ∙ ap (λ (y : Bytes). map (name_of s) (take i parts) ++ y ∷ []) nm.same in
      record {
        inside = st.within;
        held = record { size = length-set parts i r ∙ w.held.size; sound = all_set (Sound s) parts i r w.held.sound nm.sound };
        same = rw q (go (match_row (drop (i + 1) row) (drop x.end s)) (row_field st (get_or row i 0) (drop (i + 1) row) e v) ∙ rw (left h) at w.same);
      }
    where
      done : List Bytes
      done = map (name_of s) (take i parts)

      go : (o : Option (List Bytes)) → match_row (get_or row i 0 ∷ drop (i + 1) row) (drop at s) ≡ case_option o none (λ vs. some ((field_of s x).value ∷ vs)) →
          case_option o none (λ vs. some ((done ++ (field_of s x).value ∷ []) ++ vs)) ≡ case_option (match_row (get_or row i 0 ∷ drop (i + 1) row) (drop at s)) none (λ vs. some (done ++ vs))
      go none z = rw z
      go (some vs) z = rw z (ap some (append_assoc done ((field_of s x).value ∷ []) vs))

  module _ (h : i ≡ length row) where
    all-read : case_option (if eqb at (length s) then some [] else none) none (λ vs. some (map (name_of s) (take i parts) ++ vs)) ≡ match_row row (drop start s)
    all-read = rw (drop_of_length-le row {i = i} (omega arith), row-end s at w.inside) at w.same

    pub all-matched : at ≡ length s → Matches s row start (Some parts)
    all-matched e = record { parts = w.held; same = rw (← h) (ap some (sym (append-nil (map (name_of s) (take i parts)))) ∙ rw (eq-eqb at (length s) e) at all-read) }

    pub bytes-behind : (at ≡ length s → ⊥) → Matches s row start None
    bytes-behind n = record { parts = tt; same = rw (ne_eqb at (length s) n) at all-read }
