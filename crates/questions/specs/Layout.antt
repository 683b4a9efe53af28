-- What is read of a list, of a question and of an answer: the fields of some bytes.
use Rattle.std.specs.Prelude.{◌≡◌, ℕ, ◌≤◌, ◌<◌, List, [], ◌∷◌, length, Option, None, Some, Result, Ok, Err}
use Rattle.std.specs.Borrow.{Bor}
use Rattle.field.specs.Reading.{field_of, Reads, Stands}
use Rattle.field.specs.declared.Item.{Item}
use Rattle.field.specs.declared.Broken.{Broken}
use Rattle.questions.specs.declared.layout.Part.{Part}

-- The tag and the value of a field that was found, where its bounds lie in the bytes.
abbrev pub PartOf : List ℕ → Result Item Broken → Option Part → Type 0
PartOf s (Err b) None = Unit {0}
PartOf s (Err b) (Some p) = ⊥
PartOf s (Ok x) None = x.start ≤ x.end → x.end ≤ length s → ⊥
PartOf s (Ok x) (Some p) = (p.tag ≡ x.tag) × (p.value.now ≡ (field_of s x).value)

-- What stands at a place: the value of a field of this tag; or no field more, be it that one is broken.
abbrev pub Then : List ℕ → ℕ → ℕ → Option (List ℕ) → Type 0
Then s tag at None = (at < length s) → (b : Broken) × Reads s at (Err b)
Then s tag at (Some v) = (x : Item) × Stands s at x × (x.tag ≡ tag) × (v ≡ (field_of s x).value)

-- Behind some fields of other tags.
abbrev pub First : List ℕ → ℕ → ℕ → List Item → Option (List ℕ) → Type 0
First s tag at [] r = Then s tag at r
First s tag at (x ∷ others) r = Stands s at x × (x.tag ≡ tag → ⊥) × First s tag x.end others r

-- The value of the first field of a tag from a place on.
abbrev pub Finds : List ℕ → ℕ → ℕ → Option (List ℕ) → Type 0
Finds s tag at r = (others : List Item) × First s tag at others r

abbrev pub lent_bytes : Option (Bor (List ℕ)) → Option (List ℕ)
lent_bytes None = None
lent_bytes (Some v) = Some v.now

-- Empty where there is none.
abbrev pub value_in : Option (List ℕ) → List ℕ
value_in None = []
value_in (Some v) = v

-- A value of one byte, else 0.
abbrev pub byte_in : List ℕ → ℕ
byte_in [] = 0
byte_in (b ∷ []) = b
byte_in (b ∷ c ∷ l) = 0
