-- What the functions answer that read the keys of a set and write the entries of their deletes.
use Rattle.std.specs.Prelude.{◌≡◌, ℕ, ◌+◌, ◌*◌, ◌≤◌, List, [], ◌∷◌, ◌++◌, map, true, false, ◌&&◌, length, take, Option, None, Some, if◌then◌else◌}
use Rattle.std.proofs.Math.Option.{some}
use Rattle.basics.specs.Order.{Name}
use Rattle.basics.specs.Base.{Bytes, case_option, is_in, all_of}
use Rattle.basics.specs.Name.{valid_name, lower}
use Rattle.basics.specs.Field.{Field, decode_fields}
use Rattle.model.specs.Operation.{delete, encode_payload}
use Rattle.model.specs.Log.{entry}
use Rattle.field.specs.Writing.{written}
use Rattle.spans.specs.Spans.{Given}
use Rattle.lend.specs.declared.Named.{Named}
use Rattle.model.specs.Record.{key_fields, key_set}
use Rattle.laws.specs.KeySetLaws.{delete_entries}
use Rattle.key_set.specs.declared.Gathered.{Gathered}

-- How many keys some bytes hold, if these are key fields, and their set; none where they are not.
unfoldable pub key_count : Bytes → Option ℕ
key_count b = case_option (key_fields b) None (λ ks. Some (length ks))

abbrev pub set_in : Bytes → List Name
set_in b = case_option (key_fields b) [] key_set

-- The values of some fields in lower case.
unfoldable pub lowered_in : Bytes → List Name
lowered_in b = case_option (decode_fields b) [] (map (λ f. lower f.value))

-- At most 32 keys.
pub record Few (keys : Bytes) : Type 0 where
  pub names : List Name
  pub reads : key_fields keys ≡ some names
  pub few : length names ≤ 32

-- Some bytes are fields.
pub record AreFields (b : Bytes) : Type 0 where
  pub list : List Field
  pub reads : decode_fields b ≡ some list

-- A collection that was lent, in bytes with room for a key behind it.
pub record Roomy (names : Bytes) (c : Named) (collection : Name) : Type 0 where
  pub below : Given (take c.end names) c.name collection
  pub room : c.end + 64 ≤ length names
  pub short : length names ≤ 0xFFFF

pub record Lendable (names : Bytes) (c : Named) : Type 0 where
  pub collection : Name
  pub roomy : Roomy names c collection

-- The entry of a delete that stands between two places; none where a name is not valid.
pub record EntryTo (c k : Name) (at : ℕ) (before after : Bytes) (end : ℕ) : Type 0 where
  pub valid : (valid_name c && valid_name k) ≡ true
  pub small : length (entry (encode_payload (delete c k))) ≤ 146
  pub ends : end ≡ at + length (entry (encode_payload (delete c k)))
  pub bytes : after ≡ written at (entry (encode_payload (delete c k))) before

abbrev pub Entry : Name → Name → ℕ → Bytes → Bytes → Option ℕ → Type 0
Entry c k at before after None = (valid_name c && valid_name k) ≡ false
Entry c k at before after (Some end) = EntryTo c k at before after end

-- What `put_entry` does.
pub record PutsEntry (c k : Name) (at : ℕ) (before after : Bytes) (end : Option ℕ) : Type 0 where
  pub size : length after ≡ length before
  pub entry : Entry c k at before after end

-- The entries of the keys of a set that were met, from `start` to `end`; none where a name is not valid.
pub record EntriesTo (c : Name) (start : ℕ) (before : Bytes) (set : List Name) (after : Bytes) (end : ℕ) : Type 0 where
  pub valid : (valid_name c && all_of valid_name set) ≡ true
  pub small : end ≤ start + 146 * length set
  pub ends : end ≡ start + length (delete_entries c set)
  pub bytes : after ≡ written start (delete_entries c set) before

abbrev pub Entries : Name → ℕ → Bytes → List Name → Bytes → Option ℕ → Type 0
Entries c start before set after None = (valid_name c && all_of valid_name set) ≡ false
Entries c start before set after (Some end) = EntriesTo c start before set after end

pub record Gathers (c : Name) (start : ℕ) (before : Bytes) (set : List Name) (after : Bytes) (g : Gathered) : Type 0 where
  pub size : length after ≡ length before
  pub count : g.count ≡ length set
  pub entries : Entries c start before set after g.end

-- What one key more makes of it: nothing, where it was met before.
abbrev pub more : Name → List Name → List Name → List Name
more k met set = set ++ (if is_in k met then [] else k ∷ [])
