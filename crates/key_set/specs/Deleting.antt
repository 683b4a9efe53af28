-- What the functions answer that rename and test the keys, and what the bytes hold that they are read off.
use Rattle.std.specs.Prelude.{◌≡◌, ℕ, ◌-◌, ◌≤◌, List, ◌++◌, Bool, true, false, ◌&&◌, length, take, drop, Option, None, Some}
use Rattle.std.proofs.Math.Option.{none, some}
use Rattle.basics.specs.Limits.{image_room}
use Rattle.basics.specs.Order.{Name}
use Rattle.basics.specs.Base.{Bytes, all_of}
use Rattle.basics.specs.Name.{valid_name}
use Rattle.model.specs.Operation.{Op}
use Rattle.model.specs.Record.{transaction}
use Rattle.store.specs.Stores.{store_of}
use Rattle.store.specs.declared.LogRef.{LogRef}
use Rattle.store.specs.declared.Store.{Store}
use Rattle.steps.specs.Steps.{Fits}
use Rattle.handover.specs.Opening.{Held}
use Rattle.laws.specs.KeySetLaws.{delete_entries, deletable}
use Rattle.key_set.specs.Gathering.{set_in, Few}
use Rattle.key_set.specs.declared.Gathered.{Gathered}

-- Whether all keys stand after their case renames, and the store with these.
pub record Deletes (src : Bytes) (ops : List Op) (s r : Store) (all : Bool) : Type 0 where
  pub fits : Fits src r
  pub done : all ≡ true → deletable ops (store_of src s) ≡ some (store_of src r)
  pub missing : all ≡ false → deletable ops (store_of src s) ≡ none

-- A log's bytes, where its header was not rewritten.
abbrev pub log_part : Bytes → LogRef → Bytes
log_part image l = take l.len (drop l.start image)

-- The image, and its log with the entries of the deletes behind it, up to `end`; none where a name is not valid.
pub record FilledTo (image : Bytes) (l : LogRef) (c : Name) (keys after : Bytes) (end : ℕ) : Type 0 where
  pub valid : (valid_name c && all_of valid_name (set_in keys)) ≡ true
  pub starts : length image ≤ end
  pub ends : end ≤ length after
  pub front : take (length image) after ≡ image
  pub log : take (end - length image) (drop (length image) after) ≡ log_part image l ++ delete_entries c (set_in keys)

abbrev pub Filled : Bytes → LogRef → Name → Bytes → Bytes → Option ℕ → Type 0
Filled image l c keys after None = (valid_name c && all_of valid_name (set_in keys)) ≡ false
Filled image l c keys after (Some end) = FilledTo image l c keys after end

-- What `fill` leaves.
pub record Fills (image : Bytes) (l : LogRef) (c : Name) (keys : Bytes) (before after : Bytes) (g : Gathered) : Type 0 where
  pub size : length after ≡ length before
  pub count : g.count ≡ length (set_in keys)
  pub filled : Filled image l c keys after g.end

-- What `delete_in` asks: the image is read, n operations of a transaction are found in this log, the keys are 1 to 32 fields, and the buffer and the
-- output have room.
pub record Ready (image keys : Bytes) (s : Store) (l : LogRef) (n : ℕ) (src : Bytes) (out : ℕ) : Type 0 where
  pub held : Held image s
  pub log : s.log ≡ Some l
  pub ops : List Op
  pub found : transaction (store_of image s) ≡ some ops
  pub count : length ops ≡ n
  pub most : n ≤ 32
  pub few : Few keys
  pub some-keys : 1 ≤ length few.names
  pub room : 31_014 ≤ length src
  pub short : length src ≤ 0xFFFF
  pub output : image_room ≤ out
