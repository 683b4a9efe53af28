-- Fields of an operation, one behind the other.
use mathlib.Core.Path.{◌≡◌, refl, sym, ap, ◌∙◌}
use mathlib.Core.List.{List, [], ◌∷◌, ◌++◌, map, append_assoc, append-nil}
use Prim.Native.Nat.{ℕ, ◌+◌, ◌-◌, ◌*◌, ◌%◌, ◌/◌, ◌≤◌, ◌<◌}
use native.Mathlib.Omega.{arith}
use lib.ListN.{length, take, drop, length-drop}
use lib.Seq.{take_all}
use Rattle.std.proofs.lemmas.List.{nil_from_length}
use Rattle.basics.specs.Base.{Bytes}
use Rattle.basics.specs.Field.{little_endian, encode_field, encode_fields}
use Rattle.field.specs.Writing.{field}
use Rattle.model.specs.Operation.{field_table, field_tags, tagged}
use Rattle.basic_laws.specs.Tests.{All}
use Rattle.transaction.specs.Rows.{kind_number, column_of, SoundColumn, row_payload}
use Rattle.transaction.specs.declared.Kind.{Kind}
use Rattle.transaction.specs.declared.Kind.TheVariants.{Write, Delete, DeleteAll, CreateCollection, DeleteCollection, CopyCollection, MarkedWrite}
use Rattle.transaction.proofs.Arms.{five_tags}
use Rattle.transaction.specs.declared.Column.{Column}

-- A field's bytes, pushed one by one, where one byte holds its length.
pub pushed : (old : Bytes) (tag n : ℕ) (v : Bytes) → n ≡ length v → n < 256 → ((((old ++ tag ∷ []) ++ n ∷ []) ++ 0 ∷ []) ++ v) ≡ old ++ encode_field (field tag v)
unfolding encode_field little_endian
pushed old tag n v e h =
    let low : length v % 256 ≡ n = omega arith in
    let high : length v / 256 % 256 ≡ 0 = omega arith in
    rw (low, high) (simp append_assoc)

-- The same, of a value in two parts.
pub parts-pushed : (old : Bytes) (tag n : ℕ) (a b v : Bytes) → a ++ b ≡ v → n ≡ length v → n < 256 → (((((old ++ tag ∷ []) ++ n ∷ []) ++ 0 ∷ []) ++ a) ++ b) ≡ old ++ encode_field (field tag v)
parts-pushed old tag n a b v f e h =
    let head : Bytes = ((old ++ tag ∷ []) ++ n ∷ []) ++ 0 ∷ [] in
    append_assoc head a b ∙ ap (head ++◌) f ∙ pushed old tag n v e h

-- `row_of` has written the fields of some tags, and these are left.
pub record Writing (src : Bytes) (k : Kind) (values : List Column) (items : Bytes) (tags : List ℕ) (left : List Column) : Type 0 where
  pub sound : All (SoundColumn src) left
  pub room : length items + 67 * length tags ≤ 335
  pub same : items ++ encode_fields (tagged tags (map (column_of src) left)) ≡ row_payload src k values

kind_tag : (k : Kind) → field_tags (kind_number k) ≡ 1 ∷ drop 1 (field_tags (kind_number k))
unfolding field_tags field_table
kind_tag Write = refl
kind_tag Delete = refl
kind_tag DeleteAll = refl
kind_tag CreateCollection = refl
kind_tag DeleteCollection = refl
kind_tag CopyCollection = refl
kind_tag MarkedWrite = refl

module _ (src : Bytes) (k : Kind) where
  pub one_tag : {tags : List ℕ} → tags ≡ field_tags (kind_number k) → 1 ≤ length tags
  one_tag e = omega (arith, ap length (e ∙ kind_tag k))

  -- The kind's own field stands.
  pub kind_written : {values : List Column} {items tags left : List ℕ} → All (SoundColumn src) values → items ≡ encode_field (field 1 (kind_number k ∷ [])) → length items ≤ 67 →
      tags ≡ field_tags (kind_number k) → left ≡ take (length tags - 1) (drop 1 tags) → Writing src k values items left values
  unfolding row_payload tagged encode_fields
  kind_written {values} {items} {tags} {left} s e l t f =
      let whole : left ≡ drop 1 (field_tags (kind_number k)) = f ∙ take_all (length tags - 1) (drop 1 tags) (omega (arith, length-drop 1 tags)) ∙ ap (drop 1) t in
      record {
        sound = s;
        room = omega (arith, ap length whole, length-drop 1 (field_tags (kind_number k)), five_tags k);
        same = rw (e, whole, kind_tag k) refl;
      }

module _ {src : Bytes} {k : Kind} {values : List Column} {items : Bytes} {tags : List ℕ} {left : List Column} (w : Writing src k values items tags left) where
  pub field-written : {new : Bytes} {t : ℕ} {v : Column} {ts : List ℕ} {vs : List Column} → tags ≡ t ∷ ts → left ≡ v ∷ vs → new ≡ items ++ encode_field (field t (column_of src v)) → length new ≤ length items + 67 →
      Writing src k values new ts vs
  unfolding tagged encode_fields
  field-written {new} {t} {v} {ts} {vs} a b e l = record {
    sound = (rw b at w.sound).1;
    room = omega (arith, w.room, ap length a);
    same = rw e (append_assoc items (encode_field (field t (column_of src v))) (encode_fields (tagged ts (map (column_of src) vs))) ∙ rw (a, b) at w.same);
  }

  pub no-tag : length tags ≡ 0 → items ≡ row_payload src k values
  unfolding tagged encode_fields
  no-tag e = sym (append-nil items) ∙ rw (nil_from_length tags e) at w.same

  pub no_value : length left ≡ 0 → items ≡ row_payload src k values
  unfolding tagged encode_fields
  no_value e = sym (append-nil items) ∙ go tags (rw (nil_from_length left e) at w.same)
    where
      go : (ts : List ℕ) → items ++ encode_fields (tagged ts []) ≡ row_payload src k values → items ++ [] ≡ row_payload src k values
      go [] h = h
      go (t ∷ ts) h = h
