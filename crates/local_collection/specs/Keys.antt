-- The keys among the files of a directory, and what the functions over them answer.
use Rattle.std.specs.Prelude.{◌≡◌, ℕ, ◌≤◌, List, [], Bool, not, ◌&&◌, ◌||◌, length, if◌then◌else◌, Option, None, Some}
use Rattle.std.proofs.Math.Option as maths
use Rattle.std.proofs.Math.Option.{none, some}
use Rattle.basics.specs.Order.{Name}
use Rattle.basics.specs.Map.{Map}
use Rattle.basics.specs.Base.{Bytes, flat_map}
use Rattle.basics.specs.Name.{lower, is_backup, is_tmp}
use Rattle.basics.specs.Field.{encode_field}
use Rattle.model.specs.Store.{files}
use Rattle.model.specs.Record.{other_case, case_renamed}
use Rattle.field.specs.Writing.{written, field}
use Rattle.spans.specs.Spans.{name_of}
use Rattle.spans.specs.declared.NameRef.{NameRef}
use Rattle.store.specs.Stores.{store_of}
use Rattle.store.specs.declared.Store.{Store}
use Rattle.steps.specs.Steps.{FileName, Fits}

-- A name that is listed as a key: no backup's and no staging file's.
unfoldable pub is_key : Name → Bool
is_key f = not (is_backup f) && not (is_tmp f)

-- The fields of those names that are listed as keys, and the key list of a tree (Record, `key_list`).
unfoldable pub keys_in : List Name → Bytes
keys_in l = flat_map (λ f. if is_backup f || is_tmp f then [] else encode_field (field 3 (lower f))) l

unfoldable pub keys_of : Name → Map → Bytes
keys_of c t = keys_in (files c t)

-- The file that is the key in another case, if there is one.
abbrev pub case_of : Bytes → Option NameRef → maths.Option Name
case_of src (Some f) = some (name_of src f)
case_of src None = none

abbrev pub SoundCase : Bytes → Option NameRef → Type 0
SoundCase src (Some f) = FileName src f
SoundCase src None = Unit {0}

-- What `other_case` answers.
pub record OtherCaseOf (src : Bytes) (k : Name) (l : List Name) (o : Option NameRef) : Type 0 where
  pub sound : SoundCase src o
  pub same : case_of src o ≡ other_case k l

-- What `ensure_normalized_on_disk` answers.
pub record Normalized (src : Bytes) (dir key : NameRef) (s r : Store) : Type 0 where
  pub fits : Fits src r
  pub same : store_of src r ≡ case_renamed (name_of src dir) (name_of src key) (store_of src s)

-- What `put_key` does: the lent bytes with a key's field, and how long that is.
pub record Puts (key : Bytes) (at : ℕ) (before after : Bytes) (n : ℕ) : Type 0 where
  pub out : after ≡ written at (encode_field (field 3 key)) before
  pub size : n ≡ length (encode_field (field 3 key))
  pub small : n ≤ 67
