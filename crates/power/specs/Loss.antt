-- What a loss of power may leave, the syncs that are added to the plans, and what is claimed. No part of documents 01 and 02. Theorem.antt proves the claims,
-- Examples.antt computes what is lost without the added syncs.
--
-- The model, for a reader who knows ext4, xfs or btrfs. A store has areas: the directory of the collections, the entries of each collection, the directory
-- of the journal, the log's bytes. Each area keeps its changes in the order in which they were made, and a loss of power keeps a first part of them, of each
-- area another one: nothing is ordered between two areas, and a rename from staging into a collection may come in the one and go in the other, or neither. An
-- fsync of the area keeps all of it: 0x2D of a collection, 0x2D with no name of the directory of the collections, 0x2E of the journal's directory, 0x22 of
-- the log. A log that was appended to and not synced yet is found as any first part of it. Staging files are found as anything.
--
-- What the model leaves out, and the maker of a box must check (docs/ANNEX.md):
--   the changes of one directory are kept in their order (not so on F2FS or FAT);
--   the log's header of 8 bytes is rewritten whole, as a sector is, and behind a first part of the log stands nothing old or zero;
--   fsync is honest: what it has answered for is kept, by the disk's cache too;
--   a staging file's content is on the disk before the file is moved into a collection: 0x21 syncs each of them;
--   when a commit starts, all of the store is on the disk, the log's name too, but for what was appended to the log;
--   a collection is known by its name: so of plans that make, move or remove no collection (`InPlace`);
--   what is found can be handed over as an image: it is within the limits of one.
use Rattle.std.specs.Prelude.{◌≡◌, ℕ, List, [], ◌∷◌, ◌++◌, map, Bool, true, false, ◌⊎◌, take, eqb, if◌then◌else◌}
use Rattle.std.proofs.Math.Option.{none, some}
use Rattle.basics.specs.Limits.{image_room, step_room}
use Rattle.basics.specs.Order.{Name}
use Rattle.basics.specs.Map.{look}
use Rattle.basics.specs.Base.{Bytes, In, is_some, case_option, if_missing}
use Rattle.model.specs.Operation.{Op, Write, write, delete, delete_all, create_collection, delete_collection, copy_collection}
use Rattle.model.specs.Log.{journal}
use Rattle.model.specs.Store.{Store, dirs}
use Rattle.model.specs.Image.{decode}
use Rattle.model.specs.Step.{Step, sync_log, remove_log, sync_journal, sync_collections, sync_directory, tag_and_names, apply, apply_all}
use Rattle.model.specs.Plan.{commit_fault, commit_plan, committed_at, recover_fault, recover_plan, recovered_at, without_mark}
use Rattle.model.specs.Record.{transaction}
use Rattle.answers.specs.Answers.{answer, step_answer, commit, commit_step, recover, recover_step}
use Rattle.cut_rule.specs.Demand.{Conditions, Either, TrulyMarked, all_writes_done, settled}
use Rattle.cut_rule.specs.Kinds.{Suits, AllTrue, Marked}

-- The areas: which collections stand, the entries of one collection, whether the log's name stands, the log's bytes.
pub data Area : Type 0 where
  collections_area journal_area log_area : Area
  files_area : Name → Area

-- The step that makes an area durable, with all that was done in it before.
abbrev pub sync_of : Area → Step
sync_of collections_area = sync_collections
sync_of journal_area = sync_journal
sync_of log_area = sync_log
sync_of (files_area d) = sync_directory d

-- The steps done were `kept` and then `lost`, and no sync of the area is among those lost: it may be found as it was after those kept, where P holds of it.
pub record Left (a : Area) (P : Store → Type 0) (done : List Step) (s : Store) : Type 0 where
  pub kept : List Step
  pub lost : List Step
  pub split : done ≡ kept ++ lost
  pub unsynced : In (sync_of a) lost → ⊥
  pub found : P (apply_all kept s)

-- The store t may be found after a loss of power. These steps were done from s, all of which was on the disk; but where its log was appended to, any first
-- part of that may be found until it is synced. Each area has its own kept and lost steps. Staging files and the open mark, which stands on no disk, may be
-- anything.
pub record Survives (appended : Bool) (done : List Step) (s t : Store) : Type 0 where
  pub directories : Left collections_area (λ u. (d : Name) → look (d, []) t.tree ≡ look (d, []) u.tree) done s
  pub files : (d : Name) → Left (files_area d) (λ u. (f : Name) → (f ≡ [] → ⊥) → look (d, f) t.tree ≡ look (d, f) u.tree) done s
  pub entry : Left journal_area (λ u. is_some t.log ≡ is_some u.log) done s
  pub content : (l : Bytes) → t.log ≡ some l →
      Left log_area (λ u. u.log ≡ some l) done s
      ⊎ ((appended ≡ true) × (In sync_log done → ⊥) × Left log_area (λ u. (rest : Bytes) × (u.log ≡ some (l ++ rest))) done s)

-- The added syncs, by a rule on the steps of a plan. Before a step 0x2B, the log's removal: 0x2D of every collection that stands, in their order, and 0x2D
-- with no name. Behind it: 0x2E. A step with another tag is carried out as it is.
unfoldable pub removes_log : Step → Bool
removes_log x = eqb (tag_and_names x).0 0x2B

abbrev pub standing : Store → List Name
standing s = dirs s.tree

abbrev pub sync_all : List Name → List Step
sync_all l = map sync_directory l ++ sync_collections ∷ []

abbrev pub around : Bool → Step → Store → List Step
around removes x s = if removes then sync_all (standing s) ++ x ∷ sync_journal ∷ [] else x ∷ []

-- A plan with these syncs, from the store s.
abbrev pub with_syncs : List Step → Store → List Step
with_syncs [] s = []
with_syncs (x ∷ xs) s = around (removes_log x) x s ++ with_syncs xs (apply x s)

-- A recovery: its plan with these syncs; and where no log stands, first of all 0x2E, so that the log stays gone.
abbrev pub synced_first : Area
synced_first = journal_area

unfoldable pub synced_plan : Store → List Step
synced_plan s = if_missing s.log (sync_of synced_first ∷ []) ++ with_syncs (recover_plan s) s

-- A commit: its plan; one that meets a failing step, and is rolled back, with these syncs.
unfoldable pub synced_commit : Store → List Step
synced_commit s = case_option (commit_fault s) (commit_plan s) (λ e. with_syncs (commit_plan s) s)

-- The second list is the first with syncs put in: without these it is the first.
pub data SyncsPutIn : List Step → List Step → Type 0 where
  end : SyncsPutIn [] []
  step : (x : Step) (xs ys : List Step) → SyncsPutIn xs ys → SyncsPutIn (x ∷ xs) (x ∷ ys)
  sync : (a : Area) (xs ys : List Step) → SyncsPutIn xs ys → SyncsPutIn xs (sync_of a ∷ ys)

-- Nothing but syncs is added, so a plan that runs to its end leaves what it did without them.
abbrev pub OnlySyncs : Type 0
OnlySyncs =
    (s : Store) →
    SyncsPutIn (recover_plan s) (synced_plan s) × SyncsPutIn (commit_plan s) (synced_commit s)
    × (apply_all (synced_plan s) s ≡ apply_all (recover_plan s) s) × (apply_all (synced_commit s) s ≡ apply_all (commit_plan s) s)

-- The rule is applied to what the step entries tell: field n is that of step n of the plan, and the image is that of the store behind it, which says which
-- collections stand.
abbrev pub Told : Type 0
Told =
    (c : Bytes) (t : Store) (n : ℕ) → decode c ≡ some t →
    (recover_fault (journal t.log) t.tree ≡ none → recover_step n c image_room step_room ≡ step_answer n (recover_plan (without_mark t)) (recovered_at n t))
    × ((ops : List Op) → transaction t ≡ some ops → commit_step n c image_room step_room ≡ step_answer n (commit_plan t) (committed_at n t))

-- What may follow upon the first steps of a commit, from what was on the disk and the steps done since. A kill, which loses nothing, and then any number of
-- steps of a recovery; a loss of power, and what was found then is on the disk; both any number of times, in any order. The Bool says whether the log was
-- appended to since it was on the disk. What is found is handed over as an image.
pub data After (s : Store) (first : List Step) : Bool → Store → List Step → Type 0 where
  stopped : After s first true s first
  recovers : (appended : Bool) (disk : Store) (done : List Step) (n : ℕ) → After s first appended disk done →
      After s first appended disk (done ++ take n (synced_plan (without_mark (apply_all done disk))))
  loses : (appended : Bool) (disk : Store) (done : List Step) (t : Store) (c : Bytes) → After s first appended disk done → Survives appended done disk t →
      decode c ≡ some t → After s first false t []

-- A store is found, as image c, after a loss of power upon all that, where the commit's first n steps were done; or after a kill, which is a loss of nothing.
pub record Found (s : Store) (n : ℕ) (c : Bytes) : Type 0 where
  pub appended : Bool
  pub disk : Store
  pub done : List Step
  pub store : Store
  pub after : After s (take n (synced_commit s)) appended disk done
  pub survives : Survives appended done disk store
  pub image : decode c ≡ some store

-- An operation that makes, moves and removes no collection.
abbrev pub InPlace : Op → Type 0
InPlace (write w) = Unit {0}
InPlace (delete c k) = Unit {0}
InPlace (delete_all c) = Unit {0}
InPlace (create_collection c) = ⊥
InPlace (delete_collection c) = ⊥
InPlace (copy_collection a b x) = ⊥

abbrev pub AllInPlace : List Op → Type 0
AllInPlace ops = (a : Op) → In a ops → InPlace a

-- The conditions: those of the cut rule for operations of every kind, for Writes of kind 7 and deletions.
pub record Covered (b : Bytes) (s : Store) (ops : List Op) : Type 0 where
  pub suits : Suits b s ops
  pub told : AllTrue s.tree ops
  pub marked : Marked ops
  pub in_place : AllInPlace ops
  pub begun : (commit b image_room).number ≡ 4 → ⊥

-- Whatever is found, recovery gives exactly the files from before; or, if the commit goes through and has done its 0x2B, it may give exactly what the commit
-- gives that is not stopped. "Unless given 2": where the output has too few bytes.
abbrev pub LossRule : Type 0
LossRule =
    (b : Bytes) (s : Store) (ops : List Op) (n : ℕ) (c : Bytes) (out : ℕ) → Covered b s ops → Found s n c → ((recover c out).number ≡ 2 → ⊥) →
    (recover c out ≡ answer 0 (settled s.tree))
    ⊎ (((commit b image_room).number ≡ 0) × In remove_log (take n (synced_commit s)) × (recover c out ≡ commit b image_room))

-- Once the commit has done its 0x2E it is the second, and stays so.
abbrev pub KeptRule : Type 0
KeptRule =
    (b : Bytes) (s : Store) (ops : List Op) (n : ℕ) (c : Bytes) (out : ℕ) → Covered b s ops → (commit b image_room).number ≡ 0 →
    In sync_journal (take n (synced_commit s)) → Found s n c → ((recover c out).number ≡ 2 → ⊥) → recover c out ≡ commit b image_room

-- Both for marked Writes alone, in the cut rule's words: the files from before, or those with all writes done.
abbrev pub WritesLossRule : Type 0
WritesLossRule =
    (b : Bytes) (s : Store) (ws : List Write) (n : ℕ) (c : Bytes) (out : ℕ) → Either b s ws → TrulyMarked s.tree ws → Found s n c →
    ((recover c out).number ≡ 2 → ⊥) →
    (recover c out ≡ answer 0 (settled s.tree))
    ⊎ (((commit b image_room).number ≡ 0) × In remove_log (take n (synced_commit s))
    × (recover c out ≡ answer 0 (settled (all_writes_done s.staging ws s.tree))))

abbrev pub WritesKeptRule : Type 0
WritesKeptRule =
    (b : Bytes) (s : Store) (ws : List Write) (n : ℕ) (c : Bytes) (out : ℕ) → Conditions b s ws → TrulyMarked s.tree ws →
    In sync_journal (take n (synced_commit s)) → Found s n c → ((recover c out).number ≡ 2 → ⊥) →
    recover c out ≡ answer 0 (settled (all_writes_done s.staging ws s.tree))
