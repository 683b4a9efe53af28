-- What the methods of a `LocalStorage` answer: the model's outcomes.
use Rattle.std.specs.Prelude.{◌≡◌, ℕ, ◌≤◌, List, [], Bool, true, false, not, ◌&&◌, length, leb, Option, None, Some, Result, Ok, Err, IfSome}
use Rattle.std.proofs.Math.Option as maths
use Rattle.std.proofs.Math.Option.{none, some}
use Rattle.basics.specs.Limits.{staging_limit}
use Rattle.basics.specs.Order.{Name}
use Rattle.basics.specs.Map.{Map, look, put}
use Rattle.basics.specs.Base.{Bytes, is_some}
use Rattle.basics.specs.Name.{valid_name, lower}
use Rattle.model.specs.Operation.{Op}
use Rattle.model.specs.Log.{Journal, absent, recording, committing, held}
use Rattle.model.specs.Store as model
use Rattle.model.specs.Store.{staging_key, valid_number}
use Rattle.model.specs.Record.{Outcome, refuse, give, transaction, record_into}
use Rattle.refusals.specs.Numbers.{number_of}
use Rattle.refusals.specs.declared.Refusal.{Refusal}
use Rattle.spans.specs.Spans.{name_of, Given}
use Rattle.spans.specs.declared.NameRef.{NameRef}
use Rattle.store.specs.Tables.{map_of}
use Rattle.store.specs.Stores.{AsRead, store_of, log_bytes, SoundLog, SoundStore}
use Rattle.store.specs.declared.LogRef.{LogRef}
use Rattle.store.specs.declared.Store.{Store}
use Rattle.transaction.specs.declared.Operation.{Operation}
use Rattle.wal.specs.Logs.{ops_read, SoundRead}
use Rattle.wal.specs.Tails.{with_tail, SoundTail}
use Rattle.wal.specs.declared.Ending.{Ending}
use Rattle.wal.specs.declared.Ending.TheVariants.{Whole, Truncated, Undecodable, TooMany}
use Rattle.wal.specs.declared.Tail.{Tail}
use Rattle.wal.specs.declared.Tail.TheVariants.{Entry}
use Rattle.wal.specs.declared.WalRead.{WalRead}
use Rattle.local_storage.specs.declared.LocalStorage.{LocalStorage}
use Rattle.local_storage.specs.declared.Recorded.{Recorded}

-- What every store meets that a method takes: an image's log is not rewritten, and spans can point everywhere in the bytes.
pub record Readable (src : Bytes) (l : Option LogRef) : Type 0 where
  pub log : SoundLog src l
  pub plain : AsRead l
  pub short : length src ≤ 0xFFFF

pub record Ready (src : Bytes) (s : Store) : Type 0 where
  pub sound : SoundStore src s
  pub readable : Readable src s.log

-- What a storage stands for.
abbrev pub storage_of : Bytes → LocalStorage → model.Store
storage_of src s = store_of src s.store

-- A store handed on with what follows its log, or the refusal.
abbrev pub given_by : Bytes → model.Store → Result Tail Refusal → Outcome
given_by src s (Ok t) = give (with_tail src t s)
given_by src s (Err e) = refuse (number_of e)

abbrev pub outcome_of : Bytes → Recorded → Outcome
outcome_of src r = given_by src (storage_of src r.storage) r.done

-- An operation recorded.
abbrev pub recorded_in : LocalStorage → Operation → Recorded
recorded_in s o = record { storage = s; done = Ok (Entry o) }

-- A tail lies soundly in the bytes; a refusal hands back the store that came in.
abbrev pub Stands : Bytes → model.Store → model.Store → Result Tail Refusal → Type 0
Stands src before after (Ok t) = SoundTail src t
Stands src before after (Err e) = after ≡ before

-- What a method answers.
pub record Answers (src : Bytes) (o : Outcome) (before : LocalStorage) (r : Recorded) : Type 0 where
  pub same : outcome_of src r ≡ o
  pub sound : SoundStore src r.storage.store
  pub stands : Stands src (storage_of src before) (storage_of src r.storage) r.done

-- 01, Sixteen numbers, 6: "key lowered first". A collection and a key that were tested beforehand; with them the staging name of a Write. Where all
-- are given, all are valid and stand in the bytes; where one is not given, not all are valid, and which of them is not need not be known.
abbrev pub GivenKey : Bytes → Option NameRef → Option NameRef → Name → Name → Type 0
GivenKey src None k n key = (valid_name n && valid_name (lower key)) ≡ false
GivenKey src (Some r) None n key = (valid_name n && valid_name (lower key)) ≡ false
GivenKey src (Some r) (Some k) n key = Given src (Some r) n × Given src (Some k) (lower key)

abbrev pub GivenWrite : Bytes → Option NameRef → Option NameRef → Option NameRef → Name → Name → Name → Type 0
GivenWrite src None k f n key file = (valid_name n && valid_name (lower key) && valid_name file) ≡ false
GivenWrite src (Some r) None f n key file = (valid_name n && valid_name (lower key) && valid_name file) ≡ false
GivenWrite src (Some r) (Some k) None n key file = (valid_name n && valid_name (lower key) && valid_name file) ≡ false
GivenWrite src (Some r) (Some k) (Some f) n key file = Given src (Some r) n × (Given src (Some k) (lower key) × Given src (Some f) file)

-- A log that was begun and not committed.
abbrev pub is_recording : Journal → Bool
is_recording absent = false
is_recording (recording o e) = true
is_recording (committing o e) = false
is_recording (held o e) = false

abbrev pub is_whole : Ending → Bool
is_whole Whole = true
is_whole (Truncated c) = false
is_whole Undecodable = false
is_whole TooMany = false

-- The operations of the open transaction; none is refusal 4.
abbrev pub operations_of : Bytes → Option WalRead → maths.Option (List Op)
operations_of src None = none
operations_of src (Some r) = some (ops_read src r)

-- What `open_transaction` answers.
pub record Opens (src : Bytes) (s : model.Store) (t : Option WalRead) : Type 0 where
  pub held : IfSome t (SoundRead src)
  pub same : operations_of src t ≡ transaction s

-- What `admit` answers: 4 or 5, or recording goes on.
abbrev pub Admits : model.Store → Result (Unit {0}) Refusal → Type 0
Admits s (Ok u) = (next : Outcome) → record_into s next ≡ next
Admits s (Err e) = (next : Outcome) → record_into s next ≡ refuse (number_of e)

-- 01, Sixteen numbers: what 10 is not given for.
unfoldable pub can_stage : Name → ℕ → Map → Bool
can_stage f x m = not (is_some (look (staging_key f) m)) && not (leb staging_limit (length m)) && valid_number x

-- What is put among the staging files, and what goes with a rollback.
pub record Staged (src : Bytes) (f : NameRef) (x : ℕ) (s r : Store) : Type 0 where
  pub sound : SoundStore src r
  pub same : store_of src r ≡ record { tree = map_of src s.tree; staging = put (staging_key (name_of src f)) x (map_of src s.staging); log = log_bytes src s.log; open_mark = s.open_mark }

pub record Discarded (src : Bytes) (s r : Store) : Type 0 where
  pub sound : SoundStore src s → SoundStore src r
  pub same : store_of src r ≡ record { tree = map_of src s.tree; staging = []; log = none; open_mark = false }
