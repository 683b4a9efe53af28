-- What stands at a place. 01, How a store is handed over: "A field is a tag (1 byte), a length (2 bytes, little-endian) and that many
-- value bytes."
use Rattle.std.specs.Prelude.{◌≡◌, ℕ, ◌+◌, ◌-◌, ◌≤◌, ◌<◌, [], ◌∷◌, ◌++◌, length, take, drop, leb, if◌then◌else◌, Result, Ok, Err, Option, None, Some}
use Rattle.std.proofs.Math.Option.{none, some}
use Rattle.basics.specs.Base.{Bytes, case_option}
use Rattle.basics.specs.Field.{Field, from_little_endian, encode_field, fields_from}
use Rattle.field.specs.declared.Item.{Item}
use Rattle.field.specs.declared.Broken.{Broken}
use Rattle.field.specs.declared.Fields.{Fields}
use Rattle.field.specs.declared.Broken.TheVariants.{NoHeader, NoValue}

-- The number of the four bytes at a place, little-endian; 0 where they are not all there.
unfoldable pub u32_at : Bytes → ℕ → ℕ
u32_at s at = if leb (at + 4) (length s) then from_little_endian (take 4 (drop at s)) else 0

-- The field whose bounds an item holds.
abbrev pub field_of : Bytes → Item → Field
field_of s x = record { tag = x.tag; value = take (x.end - x.start) (drop x.start s) }

-- A whole field stands at a place, and the next one behind it.
pub record Stands (s : Bytes) (at : ℕ) (x : Item) : Type 0 where
  pub start : at + 3 ≡ x.start
  pub ordered : x.start ≤ x.end
  pub within : x.end ≤ length s
  pub short : x.end - x.start < 0x1_0000
  pub bytes : drop at s ≡ encode_field (field_of s x) ++ drop x.end s
  pub fields : fields_from 0 (drop at s) ≡ case_option (fields_from 0 (drop x.end s)) none (λ fs. some (field_of s x ∷ fs))

-- Fewer than three bytes stand there: no field, or a tag or length that is cut off.
pub record Headless (s : Bytes) (at : ℕ) : Type 0 where
  pub few : length s < at + 3
  pub ended : length s ≤ at → fields_from 0 (drop at s) ≡ some []
  pub fields : at < length s → fields_from 0 (drop at s) ≡ none

-- Tag and length stand there, and the value goes past the end.
pub record Valueless (s : Bytes) (at : ℕ) : Type 0 where
  pub head : at + 3 ≤ length s
  pub past : length s < at + 3 + from_little_endian (take 2 (drop (at + 1) s))
  pub fields : fields_from 0 (drop at s) ≡ none

-- What an answer of `read_field` says.
abbrev pub Reads : Bytes → ℕ → Result Item Broken → Type 0
Reads s at (Ok x) = Stands s at x
Reads s at (Err NoHeader) = Headless s at
Reads s at (Err NoValue) = Valueless s at

-- Where the fields go on: behind the one that was read; at the end of the bytes where no field stands.
abbrev pub place_behind : Bytes → Result Item Broken → ℕ
place_behind s (Ok x) = x.end
place_behind s (Err b) = length s

-- What `Fields` hands out and what becomes of it: what stands at its place, up to the end of the bytes.
abbrev pub GivesField : Fields → Option (Result Item Broken) → Fields → Type 0
GivesField w None v = (length w.bytes.now ≤ w.at) × (v ≡ w)
GivesField w (Some r) v = (w.at < length w.bytes.now) × Reads w.bytes.now w.at r × (v.bytes ≡ w.bytes) × (v.at ≡ place_behind w.bytes.now r)
