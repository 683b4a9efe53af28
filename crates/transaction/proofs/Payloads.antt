-- What a payload decodes to, by the row of its kind, and in which bytes its names lie.
use Rattle.std.specs.Prelude.{if◌then◌else◌, Some, None, Ok, Err, Result, slice_get}
use Rattle.std.specs.Result.{result_ok}
use Rattle.std.proofs.lemmas.Option.{none-some, same_Some}
use Rattle.std.specs.Prelude as std
use mathlib.Core.Path.{◌≡◌, refl, sym, ap, subst, ◌∙◌}
use mathlib.Core.List.{List, [], ◌∷◌, map}
use mathlib.Core.Bool.{Bool, true, false, ◌&&◌}
use mathlib.Core.Option.{Option, none, some}
use Prim.Native.Nat.{ℕ, zero, suc, ◌-◌, ◌≤◌}
use native.Mathlib.Omega.{arith}
use lib.Dec.{leb}
use lib.ListN.{length, take, drop, get_or, get_elem?, take-append-drop, drop_of_length-le}
use borrow.Author.Tests.{leb-true, leb-false, le-leb}
use Rattle.basics.specs.Base.{Bytes, case_option, same_bytes, all_of}
use Rattle.basics.specs.Field.{Field, fields_from, decode_fields}
use Rattle.model.specs.Operation.{field_tags, makers, valid_value, op_of_fields, decode_payload}
use Rattle.basic_laws.specs.Tests.{and_both, All, all_imp}
use Rattle.spans.specs.Spans.{name_of, Sound}
use Rattle.spans.specs.declared.NameRef.{NameRef}
use Rattle.spans.proofs.Prefix.{prefix_sound, prefix_name, map_same}
use Rattle.field.specs.Reading.{field_of, Reads, Stands}
use Rattle.field.proofs.Reading.{no_field}
use Rattle.field.specs.declared.Item.{Item}
use Rattle.std.specs.Prelude.{Result, Err}
use Rattle.field.specs.declared.Broken.{Broken}
use Rattle.transaction.specs.Operations.{Bounds, in_bounds, part, decoded_at, Decodes}
use Rattle.transaction.specs.Rows.{kind_number, NamesKind, match_row, SoundParts, names_in, Matches, made, Makes}
use Rattle.transaction.specs.declared.Kind.{Kind}
use Rattle.transaction.specs.declared.Kind.TheVariants.{Write, Delete, DeleteAll, CreateCollection, DeleteCollection, CopyCollection, MarkedWrite}
use Rattle.transaction.specs.declared.UnknownKind.{UnknownKind}
use Rattle.transaction.specs.declared.Operation.{Operation}
use Rattle.transaction.proofs.Arms.{made_row, no_kind}
use Rattle.transaction.proofs.Decode.{matched, row-of-bytes}

-- A payload whose first field stands there decodes by the row of its kind.
chosen : (j : ℕ) (f : Field) (fs : List Field) (b : Bool) → if◌then◌else◌ b (case_option (get_elem? makers j) none (λ make. some (make (map (λ g. g.value) fs)))) none ≡ case_option (if b then some (map (λ g. g.value) (f ∷ fs)) else none) none (made (suc j))
unfolding made
chosen j f fs true = refl
chosen j f fs false = refl

of-kind : (k : ℕ) (f : Field) (fs : List Field) → get_or f.value 0 0 ≡ k → op_of_fields (f ∷ fs) ≡ case_option (matched (field_tags k) (f ∷ fs)) none (made k)
unfolding op_of_fields matched field_tags
of-kind zero f fs z = rw z
of-kind (suc j) f fs z =
    let p : suc j - 1 ≡ j = omega arith in
    rw (z, p) (chosen j f fs (same_bytes (f.tag ∷ map (λ g. g.tag) fs) (field_tags (suc j)) && all_of valid_value (f ∷ fs)))

by_row : {s : Bytes} {at : ℕ} {x : Item} (k : ℕ) → Stands s at x → k ≡ get_or (field_of s x).value 0 0 → decode_payload (drop at s) ≡ case_option (match_row (field_tags k) (drop at s)) none (made k)
unfolding decode_payload decode_fields
by_row {s} {at} {x} k w e = rw (row-of-bytes (field_tags k) (drop at s), w.fields) (go (fields_from 0 (drop x.end s)))
  where
    go : (q : Option (List Field)) → case_option (case_option q none (λ fs. some (field_of s x ∷ fs))) none op_of_fields ≡ case_option (case_option (case_option q none (λ fs. some (field_of s x ∷ fs))) none (matched (field_tags k))) none (made k)
    go none = refl
    go (some fs) = of-kind k (field_of s x) fs (sym e)

pub no-kind-field : (s : Bytes) (at : ℕ) (r : Result Item Broken) → Reads s at r → (b : Broken) → r ≡ Err b → decode_payload (drop at s) ≡ none
unfolding decode_payload decode_fields fields_from op_of_fields
no-kind-field s at r h b k = go (leb (length s) at) refl
  where
    go : (b : Bool) → leb (length s) at ≡ b → case_option (fields_from 0 (drop at s)) none op_of_fields ≡ none
    go true e = rw (drop_of_length-le s (leb-true (length s) at e))
    go false e = rw (no_field s at r h b k (leb-false (length s) at e))

-- A part between two places.
pub part-drop : (start end : ℕ) (l : Bytes) → start ≤ end → part l start end ≡ drop start (take end l)
part-drop zero end l h = let e : end - 0 ≡ end = omega arith in rw e
part-drop (suc start) zero l h = absurd (omega arith)
part-drop (suc start) (suc end) [] h = go (suc end - suc start)
  where
    go : (n : ℕ) → ◌≡◌ {A = Bytes} (take n []) []
    go zero = refl
    go (suc n) = refl
part-drop (suc start) (suc end) (x ∷ l) h = let e : suc end - suc start ≡ end - start = omega arith in rw e (part-drop start end l (omega arith))

-- The names of the bytes before a place are names of all of them.
module _ (e : ℕ) (src : Bytes) where
  wide_sound : (r : NameRef) → Sound (take e src) r → Sound src r
  wide_sound r h = subst (λ (s : Bytes). Sound s r) (take-append-drop e src) (prefix_sound (drop e src) h)

  wide_name : (r : NameRef) → Sound (take e src) r → name_of (take e src) r ≡ name_of src r
  wide_name r h = sym (prefix_name (drop e src) h) ∙ ap (λ (s : Bytes). name_of s r) (take-append-drop e src)

  wide_names : (l : List NameRef) → All (Sound (take e src)) l → map (name_of (take e src)) l ≡ map (name_of src) l
  wide_names l h = map_same (name_of (take e src)) (name_of src) wide_name l h

  pub wide_parts : {l : List NameRef} → SoundParts (take e src) l → SoundParts src l
  wide_parts {l} h = record { size = h.size; sound = all_imp wide_sound l h.sound }

module _ (src : Bytes) (start end : ℕ) where
  pub bounds : in_bounds src start end ≡ true → Bounds src start end
  unfolding in_bounds
  bounds h =
      let p = and_both (leb start end && leb end (length src)) (leb (length src) 0xFFFF) h in
      let q = and_both (leb start end) (leb end (length src)) p.0 in
      record { ordered = leb-true start end q.0; within = leb-true end (length src) q.1; short = leb-true (length src) 0xFFFF p.1 }

pub in_bounds_lem : {src : Bytes} {start end : ℕ} → Bounds src start end → in_bounds src start end ≡ true
unfolding in_bounds
in_bounds_lem {src} {start} {end} b = rw (le-leb start end b.ordered, le-leb end (length src) b.within) (le-leb (length src) 0xFFFF b.short)

pub nowhere : {src : Bytes} {start end : ℕ} → in_bounds src start end ≡ false → Decodes src start end None
unfolding decoded_at
nowhere h = record { sound = tt; same = rw h }

-- In bounds: what is left to be shown is what the payload decodes to.
module _ {src : Bytes} {start end : ℕ} (b : Bounds src start end) where
  pub decoded-there : decoded_at src start end ≡ decode_payload (part src start end)
  unfolding decoded_at
  decoded-there = rw (in_bounds_lem b)

  there : decoded_at src start end ≡ decode_payload (drop start (take end src))
  there = decoded-there ∙ ap decode_payload (part-drop start end src b.ordered)

  pub undecodable : decode_payload (drop start (take end src)) ≡ none → Decodes src start end None
  undecodable h = record { sound = tt; same = sym (there ∙ h) }

  module _ {x : Item} (w : Stands (take end src) start x) where
    -- No kind: the first field has no byte, or one that no row has as its number.
    pub unknown : (k : ℕ) → k ≡ get_or (field_of (take end src) x).value 0 0 → ((kind : Kind) → k ≡ kind_number kind → ⊥) → Decodes src start end None
    unknown k z n = undecodable (by_row k w z ∙ go (match_row (field_tags k) (drop start (take end src))))
      where
        go : (o : Option (List Bytes)) → case_option o none (made k) ≡ none
        go none = refl
        go (some vs) = no_kind k vs n

    module _ (kind : Kind) (z : kind_number kind ≡ get_or (field_of (take end src) x).value 0 0) where
      found : {v : std.Option (List NameRef)} → Matches (take end src) (field_tags (kind_number kind)) start v →
          decode_payload (drop start (take end src)) ≡ case_option (names_in (take end src) (length (field_tags (kind_number kind))) v) none (made (kind_number kind))
      found m = by_row (kind_number kind) w z ∙ ap (λ (o : Option (List Bytes)). case_option o none (made (kind_number kind))) (sym m.same)

      pub no-fit : Matches (take end src) (field_tags (kind_number kind)) start None → Decodes src start end None
      no-fit m = undecodable (found m)

      pub fits : {parts : List NameRef} {o : Operation} → Matches (take end src) (field_tags (kind_number kind)) start (Some parts) → Makes src kind parts o → Decodes src start end (Some o)
      fits {parts} m d = record {
        sound = d.sound;
        same = d.same ∙ sym (there ∙ found m ∙ made_row (take end src) kind parts m.parts.size ∙ ap (made (kind_number kind)) (wide_names end src parts m.parts.sound));
      }

-- What the steps of `decode_operation` say of the first field's byte.
pub no_byte : (v : Bytes) → None ≡ slice_get v 0 → 0 ≡ get_or v 0 0
no_byte [] e = refl
no_byte (b ∷ v) e = absurd (none-some b e)

pub first_byte : (v : Bytes) {b : ℕ} → Some b ≡ slice_get v 0 → b ≡ get_or v 0 0
first_byte [] e = absurd (none-some _ (sym e))
first_byte (a ∷ v) {b} e = same_Some b a e

pub kind_of : {byte : ℕ} {kind : Kind} (r : Result Kind UnknownKind) → Some kind ≡ result_ok r → NamesKind byte r → byte ≡ kind_number kind
kind_of {byte} {kind} (Ok k) e h = rw (same_Some kind k e) h
kind_of (Err u) e h = absurd (none-some _ (sym e))

pub kindless : {byte : ℕ} (r : Result Kind UnknownKind) → None ≡ result_ok r → NamesKind byte r → (kind : Kind) → byte ≡ kind_number kind → ⊥
kindless (Ok k) e h = absurd (none-some k e)
kindless (Err u) e h = h

-- 0 stands for no kind.
pub not-zero : (kind : Kind) → 0 ≡ kind_number kind → ⊥
not-zero Write e = omega arith
not-zero Delete e = omega arith
not-zero DeleteAll e = omega arith
not-zero CreateCollection e = omega arith
not-zero DeleteCollection e = omega arith
not-zero CopyCollection e = omega arith
not-zero MarkedWrite e = omega arith
