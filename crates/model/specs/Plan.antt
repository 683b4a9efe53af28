-- The steps of commit (local_storage.rs, `apply_inner`) and of recovery (recovery.rs).
use Rattle.std.specs.Prelude.{ℕ, zero, suc, ◌-◌, List, [], ◌∷◌, ◌++◌, map, reverse, Bool, false, not, ◌&&◌, ◌||◌, length, take, if◌then◌else◌}
use Rattle.std.proofs.Math.Option.{Option, none, some}
use Rattle.basics.specs.Order.{Name}
use Rattle.basics.specs.Map.{Map, look}
use Rattle.basics.specs.Base.{case_option, if_empty, is_some, if_present, if_missing, is_in, any_of}
use Rattle.basics.specs.Name.{backup_name, original_name, strip_tmp}
use Rattle.model.specs.Operation.{Op, write, delete, delete_all, create_collection, delete_collection, copy_collection, target, backup, stood}
use Rattle.model.specs.Log.{Journal, absent, recording, committing, held, journal, ops_of, Ending, whole, truncated, undecodable, too_many, ending_cause}
use Rattle.model.specs.Store.{Store, dirs, files, staging_names, has_backup_files}
use Rattle.model.specs.Step.{Step, rewrite_header, hold_header, sync_staging, sync_log, remove_log, sync_journal, sync_collections, make_directory, rename_file, move_staged, rename_directory, copy_file, remove_file, remove_directory, remove_staging, sync_directory, apply, apply_all, Fault, step_fault}

-- The steps for each element in turn, each element's from the store that stands when its turn comes.
abbrev pub in_turn : {A : Type 0} → (A → Store → List Step) → List A → Store → List Step
in_turn g [] s = []
in_turn g (a ∷ l) s = let xs = g a s in xs ++ in_turn g l (apply_all xs s)

-- The steps of several parts, one behind the other.
abbrev pub run : (Store → List Step) → Store → List Step
run part s = part s

abbrev pub in_sequence : List (Store → List Step) → Store → List Step
in_sequence parts s = in_turn run parts s

-- What an operation does at commit (`apply_operations`). 01, Listings and file steps: "Making a directory that stands, or removing, backing
-- up for a delete or syncing what is missing, is no step." A listing is the directory "as it stands when its walk starts". A copy first
-- backs up and makes its destination; where its source is missing then, the copy of no file is its failing step.
unfoldable pub op_steps : Op → Store → List Step
op_steps (write w) s =
    if_missing (look (w.collection, []) s.tree) (make_directory w.collection ∷ [])
    ++ if_present (look (target w) s.tree) (rename_file w.collection w.key (backup_name w.key) ∷ [])
    ++ move_staged w.staged w.collection w.key ∷ []
op_steps (delete c k) s = if_present (look (c, k) s.tree) (rename_file c k (backup_name k) ∷ [])
op_steps (delete_all c) s = map (λ f. rename_file c f (backup_name f)) (files c s.tree)
op_steps (create_collection c) s = if_missing (look (c, []) s.tree) (make_directory c ∷ [])
op_steps (delete_collection c) s = if_present (look (c, []) s.tree) (rename_directory c (backup_name c) ∷ [])
op_steps (copy_collection a b existed) s =
    in_sequence
    ((λ u. if_present (look (b, []) u.tree) (rename_directory b (backup_name b) ∷ []) ++ make_directory b ∷ [])
    ∷ (λ u. case_option (look (a, []) u.tree) (copy_file a b [] ∷ []) (λ x. map (copy_file a b) (files a u.tree)))
    ∷ []
    )
    s

-- What removes the new artifact of an operation (`remove_new_artifacts`). 02, item 4: the target of a Write is new "exactly if it stands, the
-- mark is 0 and no backup of it stands".
unfoldable pub undo_steps : Op → Store → List Step
undo_steps (write w) s =
    if stood w then [] else if_present (look (target w) s.tree) (if_missing (look (backup w) s.tree) (remove_file w.collection w.key ∷ []))
undo_steps (delete c k) s = []
undo_steps (delete_all c) s = []
undo_steps (create_collection c) s = if_present (look (c, []) s.tree) (if_empty (files c s.tree) (remove_directory c ∷ []) [])
undo_steps (delete_collection c) s = []
undo_steps (copy_collection a b existed) s =
    if existed then [] else if_present (look (b, []) s.tree) (if_missing (look (backup_name b, []) s.tree) (remove_directory b ∷ []))

-- A backup takes the place of its original; a file with the staging extension goes (`restore_bak_files_in_dir`).
unfoldable pub restore_file : Name → Name → Store → List Step
restore_file d f s =
    case_option (original_name f) (if_present (strip_tmp f) (remove_file d f ∷ [])) λ g.
    if_present (look (d, g) s.tree) (remove_file d g ∷ []) ++ rename_file d f g ∷ []

-- A directory that is a backup takes its original's place, its files unvisited; in another each file is (`rollback_partial_commit`).
-- 01, Listings and file steps: "A directory is listed as it stands when its walk starts".
unfoldable pub restore_directory : Name → Store → List Step
restore_directory d s =
    case_option (original_name d) (in_turn (restore_file d) (files d s.tree) s) λ g.
    if_present (look (g, []) s.tree) (remove_directory g ∷ []) ++ rename_directory d g ∷ []

abbrev pub restore_backups : Store → List Step
restore_backups s = in_turn restore_directory (dirs s.tree) s

-- The removal of every backup (`cleanup_backup_files`, `delete_all_backup_files`).
unfoldable pub remove_backup_file : Name → Name → Store → List Step
remove_backup_file d f s = if_present (original_name f) (remove_file d f ∷ [])

unfoldable pub remove_backups_in : Name → Store → List Step
remove_backups_in d s = case_option (original_name d) (in_turn (remove_backup_file d) (files d s.tree) s) λ g. remove_directory d ∷ []

abbrev pub remove_backups : Store → List Step
remove_backups s = in_turn remove_backups_in (dirs s.tree) s

-- The removal of every staging file (`cleanup_staging_dir`).
abbrev pub remove_staging_files : Store → List Step
remove_staging_files s = map remove_staging (staging_names s.staging)

-- The collection that an operation changes.
abbrev pub collection_of : Op → Name
collection_of (write w) = w.collection
collection_of (delete c k) = c
collection_of (delete_all c) = c
collection_of (create_collection c) = c
collection_of (delete_collection c) = c
collection_of (copy_collection a b existed) = b

-- 01, Listings and file steps: "directory syncs in order of first naming": the names that were not seen yet, each once.
unfoldable pub first_namings : List Name → List Name → List Name
first_namings seen [] = []
first_namings seen (n ∷ l) = (if is_in n seen then [] else n ∷ []) ++ first_namings (n ∷ seen) l

unfoldable pub sync_existing : Name → Store → List Step
sync_existing d s = if_present (look (d, []) s.tree) (sync_directory d ∷ [])

-- 01, Listings and file steps: "the first one decides the number"; "A failing step changes nothing and isn't counted".
abbrev pub first_fault : List Step → Store → Option Fault
first_fault [] s = none
first_fault (x ∷ xs) s = case_option (step_fault x s) (first_fault xs (apply x s)) some

abbrev pub steps_before_fault : List Step → Store → List Step
steps_before_fault [] s = []
steps_before_fault (x ∷ xs) s = case_option (step_fault x s) (x ∷ steps_before_fault xs (apply x s)) (λ e. [])

-- The steps of all operations, as if none failed.
abbrev pub operation_steps : List Op → Store → List Step
operation_steps ops s = in_turn op_steps ops s

-- The commit's first failing step, if any.
unfoldable pub commit_fault : Store → Option Fault
commit_fault s = first_fault (operation_steps (ops_of (journal s.log)) (apply rewrite_header s)) (apply rewrite_header s)

-- 01, Listings and file steps: "Commit follows `apply_inner`: mark, syncs, operations, directory syncs in order of first naming, log removal,
-- journal sync, backups, staging." How a commit ends whose operations are all applied.
abbrev pub commit_end : List (Store → List Step)
commit_end = (λ s. sync_collections ∷ remove_log ∷ sync_journal ∷ []) ∷ remove_backups ∷ remove_staging_files ∷ []

-- 02, item 6: "A held commit runs as usual, but in place of removing the log and syncing the journal it rewrites the header with status 0x02, Held
-- (..), syncs the log, and keeps log and backups; it then clears staging".
abbrev pub hold_end : List (Store → List Step)
hold_end = (λ s. sync_collections ∷ hold_header ∷ sync_log ∷ []) ∷ remove_staging_files ∷ []

-- The parts of a commit with this end. After a failing step "the rollback's steps follow, then log removal, journal sync and staging": the new
-- artifacts of all logged operations removed in reverse, the backups restored. 02, item 6: "A held commit that fails rolls back as before."
abbrev pub commit_parts : List (Store → List Step) → List Op → Option Fault → List (Store → List Step)
commit_parts ends ops none =
    (λ s. sync_staging ∷ sync_log ∷ [])
    ∷ operation_steps ops
    ∷ in_turn sync_existing (first_namings [] (map collection_of ops))
    ∷ ends
commit_parts ends ops (some e) =
    (λ s. sync_staging ∷ sync_log ∷ [])
    ∷ (λ s. steps_before_fault (operation_steps ops s) s)
    ∷ in_turn undo_steps (reverse ops)
    ∷ restore_backups
    ∷ (λ s. remove_log ∷ sync_journal ∷ [])
    ∷ remove_staging_files
    ∷ []

-- The plan of a commit with this end: of the ordinary one, and of the held one.
unfoldable pub plan_ending : List (Store → List Step) → Store → List Step
plan_ending ends s = rewrite_header ∷ in_sequence (commit_parts ends (ops_of (journal s.log)) (commit_fault s)) (apply rewrite_header s)

abbrev pub commit_plan : Store → List Step
commit_plan s = plan_ending commit_end s

abbrev pub hold_plan : Store → List Step
hold_plan s = plan_ending hold_end s

abbrev pub without_mark : Store → Store
without_mark s = record { tree = s.tree; staging = s.staging; log = s.log; open_mark = false }

-- 01, Listings and file steps: "The open mark 0x14 goes with commit's last step": where no step is left. So with a held commit's (02, item 6).
abbrev pub without_mark_at_end : ℕ → Store → Store
without_mark_at_end zero s = without_mark s
without_mark_at_end (suc n) s = s

-- The store after the first n steps of a commit with this end: of the ordinary one, and of the held one.
unfoldable pub ending_at : List (Store → List Step) → ℕ → Store → Store
ending_at ends n s = without_mark_at_end (length (plan_ending ends s) - n) (apply_all (take n (plan_ending ends s)) s)

abbrev pub committed_at : ℕ → Store → Store
committed_at n s = ending_at commit_end n s

abbrev pub held_at : ℕ → Store → Store
held_at n s = ending_at hold_end n s

-- `has_new_artifacts`. 01, Corners, recovery.rs: "A Write to an existing key counts as a new artifact, though nothing was done." A marked one does
-- not, where its mark is 1 (02, item 4: "to remove or to count it").
unfoldable pub is_new_artifact : Map → Op → Bool
is_new_artifact t (write w) = not (stood w) && is_some (look (target w) t) && not (is_some (look (backup w) t))
is_new_artifact t (delete c k) = false
is_new_artifact t (delete_all c) = false
is_new_artifact t (create_collection c) = is_some (look (c, []) t)
is_new_artifact t (delete_collection c) = false
is_new_artifact t (copy_collection a b existed) = not existed && is_some (look (b, []) t) && not (is_some (look (backup_name b, []) t))

-- 01, Corners, recovery.rs: "Truncated Committing log and any backup, or any new artifact by `has_new_artifacts`: refusal 13."
-- Sixteen numbers: "11. Recovery from a Committing log meets an undecodable payload. 12. […] a byte after 32 operations."
abbrev pub recover_fault : Journal → Map → Option ℕ
recover_fault absent t = none
recover_fault (recording o e) t = none
recover_fault (committing o whole) t = none
recover_fault (committing o (truncated c)) t = if has_backup_files t || any_of (is_new_artifact t) o then some 13 else none
recover_fault (committing o undecodable) t = some 11
recover_fault (committing o too_many) t = some 12
recover_fault (held o e) t = none

-- 02, item 1: "Recovery also hands that number back when it discards a truncated Committing log, and 0 whenever else it is done; a Recording log
-- is still discarded unread."
abbrev pub discarded_cause : Journal → ℕ
discarded_cause absent = 0
discarded_cause (recording o e) = 0
discarded_cause (committing o e) = ending_cause e
discarded_cause (held o e) = 0

-- A log that counts as absent goes where it stands.
abbrev pub remove_standing_log : Store → List Step
remove_standing_log s = if_present s.log (remove_log ∷ [])

-- 01, Modules in port order: "Tempting and wrong: restoring backups before removing new artifacts; treating an undecodable payload as
-- truncated". Only a whole log is undone; a truncated one that is not refused "is discarded".
abbrev pub undo_parts : List Op → Ending → List (Store → List Step)
undo_parts ops whole = in_turn undo_steps (reverse ops) ∷ restore_backups ∷ []
undo_parts ops (truncated c) = []
undo_parts ops undecodable = []
undo_parts ops too_many = []

-- Recovery by what the log is (`recover`); staging files go in any case, and the log in any but one. 02, item 6: "Recovery that meets Held drops the
-- open mark and clears staging, no more".
abbrev pub recover_parts : Journal → List (Store → List Step)
recover_parts absent = remove_backups ∷ remove_standing_log ∷ remove_staging_files ∷ []
recover_parts (recording ops e) = (λ s. remove_log ∷ []) ∷ remove_staging_files ∷ []
recover_parts (committing ops e) = undo_parts ops e ++ (λ s. remove_log ∷ []) ∷ remove_staging_files ∷ []
recover_parts (held ops e) = remove_staging_files ∷ []

-- 02, item 6: "Revert does what recovery does for a Committing log": what it takes a Held log for.
abbrev pub unheld : Journal → Journal
unheld absent = absent
unheld (recording ops e) = recording ops e
unheld (committing ops e) = committing ops e
unheld (held ops e) = committing ops e

unfoldable pub recover_plan : Store → List Step
recover_plan s = in_sequence (recover_parts (journal s.log)) s

unfoldable pub revert_plan : Store → List Step
revert_plan s = in_sequence (recover_parts (unheld (journal s.log))) s

-- 02, item 6: "Keep drops an open mark, removes the log and syncs the journal, then removes every backup as recovery without a log does; it reads no
-- entry."
unfoldable pub keep_plan : Store → List Step
keep_plan s = in_sequence ((λ u. remove_log ∷ sync_journal ∷ []) ∷ remove_backups ∷ []) s

-- The store after the first n steps of such a plan, and at its end. 01, Listings and file steps: "recovery drops [the open mark] before its first
-- step, so at n = 0 too"; keep and revert do as well.
abbrev pub shut_at : (Store → List Step) → ℕ → Store → Store
shut_at plan n s = apply_all (take n (plan (without_mark s))) (without_mark s)

abbrev pub shut : (Store → List Step) → Store → Store
shut plan s = apply_all (plan (without_mark s)) (without_mark s)

unfoldable pub recovered_at : ℕ → Store → Store
recovered_at n s = shut_at recover_plan n s

unfoldable pub recovered : Store → Store
recovered s = shut recover_plan s

unfoldable pub reverted_at : ℕ → Store → Store
reverted_at n s = shut_at revert_plan n s

unfoldable pub reverted : Store → Store
reverted s = shut revert_plan s

unfoldable pub kept_at : ℕ → Store → Store
kept_at n s = shut_at keep_plan n s

unfoldable pub kept : Store → Store
kept s = shut keep_plan s
