-- What a recording entry asks for: one of the model's operations, of up to three names.
use Rattle.std.specs.Prelude.{Bool, true, false, List, [], ◌∷◌, ℕ}
use Rattle.basics.specs.Order.{Name}
use Rattle.basics.specs.Base.{Bytes}
use Rattle.basics.specs.Name.{lower}
use Rattle.model.specs.Store as model
use Rattle.model.specs.Record.{Outcome, begin_transaction, discard, record_write, record_delete, record_delete_all, record_create, record_delete_collection, record_copy}
use Rattle.answers.specs.Answers.{Answer, begin, write, delete, delete_all, create_collection, delete_collection, copy_collection, rollback}
use Rattle.spans.specs.Spans.{Given}
use Rattle.store.specs.Tables.{map_of}
use Rattle.store.specs.Stores.{store_of}
use Rattle.store.specs.declared.Store.{Store}
use Rattle.steps.specs.Steps.{Within}
use Rattle.local_storage.specs.Recording.{Ready, Answers}
use Rattle.local_storage.specs.declared.Recorded.{Recorded}
use Rattle.lend.specs.declared.Named.{Named}
use Rattle.recording.specs.declared.Asked.{Asked}
use Rattle.recording.specs.declared.Asked.TheVariants.{Begin, Write, Delete, DeleteAll, CreateCollection, DeleteCollection, CopyCollection, Rollback}

-- Of a collection c (a copy's source), a key k, and a staging file f (a copy's destination).
abbrev pub asked : Asked → Name → Name → Name → model.Store → Outcome
asked Begin c k f = begin_transaction
asked (Write x) c k f = record_write c k f x
asked Delete c k f = record_delete c k
asked DeleteAll c k f = record_delete_all c
asked CreateCollection c k f = record_create c
asked DeleteCollection c k f = record_delete_collection c
asked CopyCollection c k f = record_copy c f
asked Rollback c k f = discard

-- The entry of the model's Answers that asks for it.
abbrev pub entry_of : Asked → Name → Name → Name → Bytes → ℕ → Answer
entry_of Begin c k f = begin
entry_of (Write x) c k f = write c k f x
entry_of Delete c k f = delete c k
entry_of DeleteAll c k f = delete_all c
entry_of CreateCollection c k f = create_collection c
entry_of DeleteCollection c k f = delete_collection c
entry_of CopyCollection c k f = copy_collection c f
entry_of Rollback c k f = rollback

-- 01, Sixteen numbers, and 02: those with which it refuses, behind 1 and 2.
abbrev pub numbers_of : Asked → List ℕ
numbers_of Begin = 3 ∷ 17 ∷ []
numbers_of (Write x) = 4 ∷ 5 ∷ 6 ∷ 10 ∷ []
numbers_of Delete = 4 ∷ 5 ∷ 6 ∷ 8 ∷ []
numbers_of DeleteAll = 4 ∷ 5 ∷ 6 ∷ []
numbers_of CreateCollection = 4 ∷ 5 ∷ 6 ∷ 9 ∷ []
numbers_of DeleteCollection = 4 ∷ 5 ∷ 6 ∷ 7 ∷ []
numbers_of CopyCollection = 4 ∷ 5 ∷ 6 ∷ 7 ∷ []
numbers_of Rollback = 4 ∷ []

-- Whether it leaves the directories and files as they are: a Delete's case rename may not.
abbrev pub leaves_tree : Asked → Bool
leaves_tree Begin = true
leaves_tree (Write x) = true
leaves_tree Delete = false
leaves_tree DeleteAll = true
leaves_tree CreateCollection = true
leaves_tree DeleteCollection = true
leaves_tree CopyCollection = true
leaves_tree Rollback = true

-- What `answer` asks: a store that can be read, and the names, each tested; where it is valid, it stands in the bytes, a key in lower case.
pub record Asks (src : Bytes) (s : Store) (a b d : Named) (c k f : Name) : Type 0 where
  pub ready : Ready src s
  pub within : Within (map_of src s.tree)
  pub collection : Given src a.name c
  pub key : Given src b.name (lower k)
  pub other : Given src d.name f

-- What it answers.
abbrev pub Performs : Asked → Bytes → Store → Name → Name → Name → Recorded → Type 0
Performs op src s c k f r = Answers src (asked op c k f (store_of src s)) (record { store = s }) r
