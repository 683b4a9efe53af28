-- What it means that a part of an image stands at a place and was read there.
use Rattle.std.specs.Prelude.{◌≡◌, Bool, true, false, List, [], ◌∷◌, ◌++◌, ℕ, ◌≤◌, length, drop, Option, None, Some}
use Rattle.std.proofs.Math.Option.{some}
use Rattle.basics.specs.Base.{Bytes}
use Rattle.basics.specs.Field.{Field, encode_fields, fields_from}
use Rattle.field.specs.declared.Item.{Item}
use Rattle.field.specs.Reading.{Stands}

-- The bytes from a place on are these fields.
abbrev pub Ahead : Bytes → ℕ → List Field → Type 0
Ahead src at fs = fields_from 0 (drop at src) ≡ some fs

-- The first field has a tag that passes the test.
abbrev pub starts : (ℕ → Bool) → List Field → Bool
starts own [] = false
starts own (f ∷ fs) = own f.tag

-- The part x was read, up to `next`: it is as it must be, and its bytes stand there. If any such part stands there, and fields of other tags
-- behind it, then it is x.
pub record Reads {X : Type 0} (fields : X → List Field) (Formed : X → Type 0) (own : ℕ → Bool) (src : Bytes) (at : ℕ) (x : X) (next : ℕ) : Type 0 where
  pub within : next ≤ length src
  pub formed : Formed x
  pub bytes : drop at src ≡ encode_fields (fields x) ++ drop next src
  pub only : (y : X) (fs : List Field) → Formed y → starts own fs ≡ false → Ahead src at (fields y ++ fs) → (y ≡ x) × Ahead src next fs

-- No such part stands there with fields of other tags behind it.
pub record Lacks {X : Type 0} (fields : X → List Field) (Formed : X → Type 0) (own : ℕ → Bool) (src : Bytes) (at : ℕ) : Type 0 where
  pub none : (y : X) (fs : List Field) → Formed y → starts own fs ≡ false → Ahead src at (fields y ++ fs) → ⊥

-- A whole field stands at the place, and its tag passes the test.
pub record Begins (own : ℕ → Bool) (src : Bytes) (at : ℕ) (x : Item) : Type 0 where
  pub stands : Stands src at x
  pub owned : own x.tag ≡ true

-- No such field stands there.
pub record Ends (own : ℕ → Bool) (src : Bytes) (at : ℕ) : Type 0 where
  pub here : (fs : List Field) → Ahead src at fs → starts own fs ≡ false

-- What an answer says of the field that comes.
abbrev pub Comes : (ℕ → Bool) → Bytes → ℕ → Option Item → Type 0
Comes own src at None = Ends own src at
Comes own src at (Some x) = Begins own src at x
