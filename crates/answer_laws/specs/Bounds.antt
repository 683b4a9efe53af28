-- How long the answers are: no image is longer than 19,390 bytes, no key list longer than 8,576, no step field longer than 197 and what names a
-- backup no longer than 138, whatever is lent.
use Rattle.std.specs.Prelude.{◌≡◌, ℕ, zero, suc, ◌+◌, ◌*◌, ◌-◌, ◌≤◌, List, [], ◌∷◌, ◌++◌, Bool, true, false, ◌||◌, length, if◌then◌else◌}
use native.Mathlib.Omega.{arith}
use Rattle.std.proofs.Math.ListN.{get_elem?, length-map}
use Rattle.std.proofs.Common.{length-append}
use Rattle.basics.specs.Limits.{image_room, keys_room, step_room, hit_room}
use Rattle.basics.specs.Order.{Name, Cmp, lt, eq, gt, cmp_name, case_cmp}
use Rattle.basics.specs.Map.{Map}
use Rattle.basics.specs.Base.{Bytes, case_option, if_empty, flat_map}
use Rattle.basics.specs.Name.{lower_byte, lower, is_backup, is_tmp}
use Rattle.basics.specs.Field.{little_endian, encode_field}
use Rattle.model.specs.Store.{Store, files, file_count}
use Rattle.model.specs.Step.{Step, zero_separated, tag_and_names, step_field, commit_number, field_at}
use Rattle.model.specs.Plan.{commit_fault, commit_plan, recover_plan, recovered, without_mark, hold_plan, revert_plan, reverted, keep_plan, kept}
use Rattle.model.specs.Record.{Outcome, begin_transaction, discard, record_write, record_delete, record_delete_keys, record_delete_all, record_create, record_delete_collection, record_copy, key_list}
use Rattle.answers.specs.Answers.{Answer, refusal, answer, image_entry, begin, write, delete, delete_keys, delete_all, create_collection, delete_collection, copy_collection, rollback, commit, recover, commit_step, recover_step, list_keys, find_backup, hold, keep, revert, hold_step, keep_step, revert_step}
use Rattle.basic_laws.specs.Tests.{All, in_all, all_every}
use Rattle.basic_laws.specs.ValidNames.{Sized, Valid, Naming, valid-length, valid_naming, restored_naming}
use Rattle.laws.specs.TreeLaws.{file-size}
use Rattle.laws.specs.StoreLaws.{Good}
use Rattle.laws.specs.LengthLaws.{encode-length}
use Rattle.laws.specs.BackupLaws.{hit-length}
use Rattle.laws.specs.Listings.{listed-file}
use Rattle.laws.specs.StepLaws.{Fits}
use Rattle.laws.specs.RecordLaws.{Gives, begin-keeps, rollback-keeps, write_keeps, delete-keeps, delete-all-keeps, create_keeps, delete-collection-keeps, copy_keeps}
use Rattle.laws.specs.KeySetLaws.{delete-keys-keeps}
use Rattle.laws.specs.WellFormed.{recover-keeps, recovered-keeps, commit-keeps-failed, commit-fits, recover-fits, hold-keeps-failed, hold-fits, keep-keeps, kept-keeps, keep-fits, revert-keeps, reverted-keeps, revert-fits}
use Rattle.answer_laws.specs.EntryLaws.{commit_refusals, recover_refusals, commit_step_refusals, recover_step_refusals, lent-good, on-entry, on-commit, on-recover, on-commit-step, on-recover-step, on-list-keys, on-find-backup, keep_refusals, revert_refusals, keep_step_refusals, revert_step_refusals, on-hold, on-keep, on-revert, on-hold-step, on-keep-step, on-revert-step}

-- What an answer writes fits the outputs that it asks for.
pub record Bounded (a : Answer) : Type 0 where
  pub image : length a.image ≤ image_room
  pub step : length a.step ≤ step_room

-- A step's field: at most three names of at most 64 bytes, parted by zero bytes, behind a tag and a length.
separated_length : (l : List Name) → All Sized l → length (zero_separated l) ≤ 65 * length l - 1
unfolding zero_separated
separated_length [] h = omega arith
separated_length (n ∷ []) h = let v = h.0 in omega arith
separated_length (n ∷ m ∷ r) h =
    let v = h.0 in
    let k = separated_length (m ∷ r) h.1 in
    let a = length-append n (0 ∷ zero_separated (m ∷ r)) in omega arith

few-names : (x : Step) → length (tag_and_names x).1 ≤ 3
unfolding tag_and_names
few-names Step.rewrite_header = omega arith
few-names Step.hold_header = omega arith
few-names Step.sync_staging = omega arith
few-names Step.sync_log = omega arith
few-names Step.remove_log = omega arith
few-names Step.sync_journal = omega arith
few-names Step.sync_collections = omega arith
few-names (Step.make_directory d) = omega arith
few-names (Step.rename_file d a b) = omega arith
few-names (Step.move_staged f d k) = omega arith
few-names (Step.rename_directory a b) = omega arith
few-names (Step.copy_file a b f) = omega arith
few-names (Step.remove_file d f) = omega arith
few-names (Step.remove_directory d) = omega arith
few-names (Step.remove_staging f) = omega arith
few-names (Step.sync_directory d) = omega arith

pub step-length : (x : Step) → Fits x → length (step_field x) ≤ step_room
unfolding step_field encode_field little_endian
step-length x h = let a = separated_length (tag_and_names x).1 h in let b = few-names x in omega arith

field-length : (n : ℕ) (plan : List Step) → All Fits plan → length (case_option (get_elem? plan n) [] step_field) ≤ step_room
field-length n [] h = omega arith
field-length zero (x ∷ plan) h = step-length x h.0
field-length (suc n) (x ∷ plan) h = field-length n plan h.1

field-at-length : (n : ℕ) (plan : List Step) → All Fits plan → length (field_at n plan) ≤ step_room
field-at-length zero plan h = omega arith
field-at-length (suc n) plan h = field-length n plan h

-- The ways to answer.
refused : (l : List ℕ) → All (λ n. Bounded (refusal n)) l
refused l = all_every (λ n. record { image = omega arith; step = omega arith }) l

given : {N : Name → Type 0} → Naming N → (n : ℕ) (s : Store) → Good N s → Bounded (answer n s)
given nm n s g = record { image = encode-length nm s g; step = omega arith }

entry : (f : Store → Outcome) → ((s : Store) → Good Valid s → Gives (f s)) → (b : Bytes) (out : ℕ) → Bounded (image_entry f b out)
entry f k b out = on-entry Bounded f k b out (λ n z. (refused (n ∷ [])).0) (λ s u d e g. given valid_naming 0 u g)

-- The entries.
pub begin-bounded : (b : Bytes) (out : ℕ) → Bounded (begin b out)
unfolding begin
begin-bounded = entry begin_transaction begin-keeps

pub write-bounded : (c k staged : Name) (x : ℕ) (b : Bytes) (out : ℕ) → Bounded (write c k staged x b out)
unfolding write
write-bounded c k staged x = entry (record_write c k staged x) (write_keeps c k staged x)

pub delete-bounded : (c k : Name) (b : Bytes) (out : ℕ) → Bounded (delete c k b out)
unfolding delete
delete-bounded c k = entry (record_delete c k) (delete-keeps c k)

pub delete-keys-bounded : (c : Name) (keys b : Bytes) (out : ℕ) → Bounded (delete_keys c keys b out)
unfolding delete_keys
delete-keys-bounded c keys = entry (record_delete_keys c keys) (delete-keys-keeps c keys)

pub delete-all-bounded : (c : Name) (b : Bytes) (out : ℕ) → Bounded (delete_all c b out)
unfolding delete_all
delete-all-bounded c = entry (record_delete_all c) (delete-all-keeps c)

pub create_collection-bounded : (c : Name) (b : Bytes) (out : ℕ) → Bounded (create_collection c b out)
unfolding create_collection
create_collection-bounded c = entry (record_create c) (create_keeps c)

pub delete-collection-bounded : (c : Name) (b : Bytes) (out : ℕ) → Bounded (delete_collection c b out)
unfolding delete_collection
delete-collection-bounded c = entry (record_delete_collection c) (delete-collection-keeps c)

pub copy_collection-bounded : (a c : Name) (b : Bytes) (out : ℕ) → Bounded (copy_collection a c b out)
unfolding copy_collection
copy_collection-bounded a c = entry (record_copy a c) (copy_keeps a c)

pub rollback-bounded : (b : Bytes) (out : ℕ) → Bounded (rollback b out)
unfolding rollback
rollback-bounded = entry discard rollback-keeps

pub commit-bounded : (b : Bytes) (out : ℕ) → Bounded (commit b out)
commit-bounded b out = on-commit Bounded b out (refused commit_refusals) λ s d. given restored_naming (commit_number (commit_fault s)) _ (commit-keeps-failed s (lent-good b s d) (length (commit_plan s)))

pub recover-bounded : (b : Bytes) (out : ℕ) → Bounded (recover b out)
recover-bounded b out = on-recover Bounded b out (refused recover_refusals) λ s d. given restored_naming 0 (recovered s) (recovered-keeps s (recover-keeps s (lent-good b s d)))

pub commit-step-bounded : (n : ℕ) (b : Bytes) (out stepOut : ℕ) → Bounded (commit_step n b out stepOut)
commit-step-bounded n b out stepOut = on-commit-step Bounded n b out stepOut (refused commit_step_refusals) λ s d.
    let g = lent-good b s d in
    record { image = encode-length restored_naming _ (commit-keeps-failed s g n); step = field-at-length n (commit_plan s) (commit-fits s g) }

pub recover-step-bounded : (n : ℕ) (b : Bytes) (out stepOut : ℕ) → Bounded (recover_step n b out stepOut)
recover-step-bounded n b out stepOut = on-recover-step Bounded n b out stepOut (refused recover_step_refusals) λ s d.
    let g = lent-good b s d in
    record { image = encode-length restored_naming _ (recover-keeps s g n); step = field-at-length n (recover_plan (without_mark s)) (recover-fits s g) }

-- 02, item 6: hold, keep and revert.
pub hold-bounded : (b : Bytes) (out : ℕ) → Bounded (hold b out)
hold-bounded b out = on-hold Bounded b out (refused commit_refusals) λ s d. given restored_naming (commit_number (commit_fault s)) _ (hold-keeps-failed s (lent-good b s d) (length (hold_plan s)))

pub keep-bounded : (b : Bytes) (out : ℕ) → Bounded (keep b out)
keep-bounded b out = on-keep Bounded b out (refused keep_refusals) λ s d. given valid_naming 0 (kept s) (kept-keeps s (keep-keeps s (lent-good b s d)))

pub revert-bounded : (b : Bytes) (out : ℕ) → Bounded (revert b out)
revert-bounded b out = on-revert Bounded b out (refused revert_refusals) λ s d. given restored_naming 0 (reverted s) (reverted-keeps s (revert-keeps s (lent-good b s d)))

pub hold-step-bounded : (n : ℕ) (b : Bytes) (out stepOut : ℕ) → Bounded (hold_step n b out stepOut)
hold-step-bounded n b out stepOut = on-hold-step Bounded n b out stepOut (refused commit_step_refusals) λ s d.
    let g = lent-good b s d in
    record { image = encode-length restored_naming _ (hold-keeps-failed s g n); step = field-at-length n (hold_plan s) (hold-fits s g) }

pub keep-step-bounded : (n : ℕ) (b : Bytes) (out stepOut : ℕ) → Bounded (keep_step n b out stepOut)
keep-step-bounded n b out stepOut = on-keep-step Bounded n b out stepOut (refused keep_step_refusals) λ s d.
    let g = lent-good b s d in
    record { image = encode-length valid_naming _ (keep-keeps s g n); step = field-at-length n (keep_plan (without_mark s)) (keep-fits s g) }

pub revert-step-bounded : (n : ℕ) (b : Bytes) (out stepOut : ℕ) → Bounded (revert_step n b out stepOut)
revert-step-bounded n b out stepOut = on-revert-step Bounded n b out stepOut (refused revert_step_refusals) λ s d.
    let g = lent-good b s d in
    record { image = encode-length restored_naming _ (revert-keeps s g n); step = field-at-length n (revert_plan (without_mark s)) (revert-fits s g) }

-- The key list: at most 128 fields of at most 67 bytes.
files-count : (d : Name) (t : Map) → length (files d t) ≤ file_count t
unfolding files
files-count d [] = omega arith
files-count d (n ∷ r) = go (files-count d r) (cmp_name d n.0.0) n.0.1
  where
    go : length (files d r) ≤ file_count r → (c : Cmp) (f : Name) → length (case_cmp c (files d r) (if_empty f (files d r) (f ∷ files d r)) (files d r)) ≤ if_empty f (file_count r) (suc (file_count r))
    go h lt [] = h
    go h lt (y ∷ ys) = omega arith
    go h eq [] = h
    go h eq (y ∷ ys) = omega arith
    go h gt [] = h
    go h gt (y ∷ ys) = omega arith

abbrev key_field : Name → Bytes
key_field f = if is_backup f || is_tmp f then [] else encode_field (record { tag = 3; value = lower f })

keys_length : (l : List Name) → All Sized l → length (flat_map key_field l) ≤ 67 * length l
keys_length [] h = omega arith
keys_length (f ∷ l) h = go (is_backup f || is_tmp f) (keys_length l h.1)
  where
    go : (t : Bool) → length (flat_map key_field l) ≤ 67 * length l → length ((if t then [] else encode_field (record { tag = 3; value = lower f })) ++ flat_map key_field l) ≤ 67 * suc (length l)
    go true k = omega arith
    go false k =
        let v = h.0 in
        let a = length-append (encode_field (record { tag = 3; value = lower f })) (flat_map key_field l) in
        let b : length (encode_field (record { tag = 3; value = lower f })) ≡ 3 + length f = unfold encode_field little_endian lower in (let m = length-map f lower_byte in omega arith) in
        omega arith

pub list-keys-length : (c : Name) (b : Bytes) (out : ℕ) → length (list_keys c b out).image ≤ keys_room
list-keys-length c b out = on-list-keys (λ a. length a.image ≤ keys_room) c b out (omega arith) λ s d. keys s (lent-good b s d)
  where
    keys : (s : Store) → Good Valid s → length (key_list c s) ≤ keys_room
    keys s g =
        let a : length (key_list c s) ≤ 67 * length (files c s.tree) = unfold key_list in (keys_length (files c s.tree) (in_all Sized (files c s.tree) (λ f i. valid-length f (listed-file s.tree g.tree c f i)))) in
        let k = files-count c s.tree in
        let e = file-size s.tree in
        let m = g.tree.files_fit in omega arith

pub find-backup-length : (b : Bytes) (out : ℕ) → length (find_backup b out).image ≤ hit_room
find-backup-length b out = on-find-backup (λ a. length a.image ≤ hit_room) b out (omega arith) λ s d. hit-length s (lent-good b s d)
