-- The fields that stand from a place on.
use mathlib.Core.Path.{◌≡◌, refl, sym, ◌∙◌}
use mathlib.Core.List.{List, [], ◌∷◌}
use mathlib.Core.Option.{Option, none, some}
use Prim.Native.Nat.{ℕ, ◌+◌, ◌-◌, ◌≤◌}
use native.Mathlib.Omega.{arith}
use lib.ListN.{length, take, drop, length-drop}
use Rattle.basics.specs.Base.{Bytes, case_option}
use Rattle.basics.specs.Field.{Field, from_little_endian, fields_from}
use Rattle.basic_laws.specs.ListLaws.{part_length}
use Rattle.basic_laws.specs.Tests.{nil≢cons}
use Rattle.basic_laws.specs.MapLaws.{none≢some, some_inj}
use Rattle.field.specs.declared.Item.{Item}
use Rattle.field.specs.Reading.{field_of, Stands}
use Rattle.decode.specs.Reading.{Ahead}

-- The value of the field whose bounds an item holds.
abbrev pub value_of : Bytes → Item → Bytes
value_of src x = take (x.end - x.start) (drop x.start src)

pub value-length : {src : Bytes} {at : ℕ} {x : Item} → Stands src at x → length (value_of src x) ≡ x.end - x.start
value-length {src} {at} {x} s = part_length src x.start (x.end - x.start) (omega (arith, s.ordered, s.within))

pub no_bytes : (l : Bytes) → length l ≡ 0 → l ≡ []
no_bytes [] e = refl
no_bytes (y ∷ l) e = absurd (omega arith)

-- A field and what is left, if they are all fields.
pub one_more : (o : Option (List Field)) (f : Field) {fs : List Field} → case_option o none (λ l. some (f ∷ l)) ≡ some fs → (l : List Field) × ((fs ≡ f ∷ l) × (o ≡ some l))
one_more none f e = none≢some e
one_more (some l) f e = (l, (sym (some_inj e), refl))

-- A whole field stands at the place: it is the first.
pub first : {src : Bytes} {at : ℕ} {x : Item} {fs : List Field} → Stands src at x → Ahead src at fs → (l : List Field) × ((fs ≡ field_of src x ∷ l) × Ahead src x.end l)
first {src} {at} {x} s a = one_more (fields_from 0 (drop x.end src)) (field_of src x) (sym s.fields ∙ a)

-- No field is left only at the end.
none_left : (l : Bytes) → fields_from 0 l ≡ some [] → length l ≡ 0
unfolding fields_from
none_left [] e = refl
none_left (t ∷ r) e = nil≢cons (one_more (fields_from (2 + from_little_endian (take 2 r)) r) _ e).1.0

pub ended : (src : Bytes) (at : ℕ) → at ≤ length src → Ahead src at [] → at ≡ length src
ended src at h a = omega (arith, length-drop at src, none_left (drop at src) a)
