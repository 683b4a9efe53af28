-- Operations by the columns of the kinds' table.
use Rattle.std.specs.Prelude.{◌≡◌, ℕ, zero, suc, ◌-◌, ◌≤◌, List, [], ◌∷◌, map, ◌&&◌, length, take, drop, if◌then◌else◌, Result, MatchResult, IfSome, Some, None}
use Rattle.std.specs.Prelude as std
use Rattle.std.proofs.Math.Option.{Option, none, some}
use Rattle.std.proofs.Math.ListN.{get_elem?}
use Rattle.basics.specs.Base.{Bytes, case_option, same_bytes, all_of}
use Rattle.basics.specs.Field.{decode_fields, encode_fields}
use Rattle.model.specs.Operation.{Op, field_tags, tagged, makers, valid_value}
use Rattle.basic_laws.specs.Tests.{All}
use Rattle.spans.specs.Spans.{name_of, Sound}
use Rattle.spans.specs.declared.NameRef.{NameRef}
use Rattle.transaction.specs.Operations.{op_of, SoundOp}
use Rattle.transaction.specs.declared.Operation.{Operation}
use Rattle.transaction.specs.declared.Column.{Column}
use Rattle.transaction.specs.declared.Column.TheVariants.{Name, Byte}
use Rattle.transaction.specs.declared.Kind.{Kind}
use Rattle.transaction.specs.declared.Kind.TheVariants.{Write, Delete, DeleteAll, CreateCollection, DeleteCollection, CopyCollection, MarkedWrite}
use Rattle.transaction.specs.declared.UnknownKind.{UnknownKind}

-- The byte that stands for a kind: its row in the model's table, counted from 1.
abbrev pub kind_number : Kind → ℕ
kind_number Write = 1
kind_number Delete = 2
kind_number DeleteAll = 3
kind_number CreateCollection = 4
kind_number DeleteCollection = 5
kind_number CopyCollection = 6
kind_number MarkedWrite = 7

-- The kind that a byte stands for; none where no row has this number.
abbrev pub NamesKind : ℕ → Result Kind UnknownKind → Type 0
NamesKind byte r = MatchResult r (λ kind. byte ≡ kind_number kind) (λ _. (kind : Kind) → byte ≡ kind_number kind → ⊥)

-- The values of the fields that some bytes hold, if these are fields of exactly these tags with valid values.
unfoldable pub match_row : List ℕ → Bytes → Option (List Bytes)
match_row ts b =
    case_option (decode_fields b) none λ fs.
    if same_bytes (map (λ f. f.tag) fs) ts && all_of valid_value fs then some (map (λ f. f.value) fs) else none

-- Five parts of the bytes.
pub record SoundParts (s : Bytes) (l : List NameRef) : Type 0 where
  pub size : length l ≡ 5
  pub sound : All (Sound s) l

-- The first n of the parts that were read, as names.
abbrev pub names_in : Bytes → ℕ → std.Option (List NameRef) → Option (List Bytes)
names_in s n (Some parts) = some (map (name_of s) (take n parts))
names_in s n None = none

-- What `read_row` answers.
pub record Matches (s : Bytes) (ts : List ℕ) (at : ℕ) (v : std.Option (List NameRef)) : Type 0 where
  pub parts : IfSome v (SoundParts s)
  pub same : names_in s (length ts) v ≡ match_row ts (drop at s)

-- The operation of a kind and the values of its row, the kind's own among them.
unfoldable pub made : ℕ → List Bytes → Option Op
made zero vs = none
made (suc k) vs = case_option (get_elem? makers k) none (λ make. some (make (drop 1 vs)))

-- What `operation_of` answers.
pub record Makes (src : Bytes) (k : Kind) (parts : List NameRef) (o : Operation) : Type 0 where
  pub sound : SoundOp src o
  pub same : some (op_of src o) ≡ made (kind_number k) (map (name_of src) parts)

-- The value under a tag: a name, or one byte.
abbrev pub column_of : Bytes → Column → Bytes
column_of src (Name r) = name_of src r
column_of src (Byte b) = b ∷ []

abbrev pub SoundColumn : Bytes → Column → Type 0
SoundColumn src (Name r) = Sound src r
SoundColumn src (Byte b) = Unit {0}

-- The fields of a kind's row: the kind's own, and these values behind it.
unfoldable pub row_payload : Bytes → Kind → List Column → Bytes
row_payload src k vs = encode_fields (tagged (field_tags (kind_number k)) ((kind_number k ∷ []) ∷ map (column_of src) vs))
