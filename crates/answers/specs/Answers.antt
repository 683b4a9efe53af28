-- What each exported entry answers, from the lent bytes and the lengths of the lent outputs. The contracts of the entries cite these.
use Rattle.std.specs.Prelude.{ℕ, zero, suc, ◌+◌, ◌/◌, ◌%◌, List, [], ◌∷◌, ◌++◌, Bool, false, ◌&&◌, length, drop, get_or, leb, eqb, if◌then◌else◌}
use Rattle.basics.specs.Limits.{image_room, keys_room, step_room, hit_room, log_limit}
use Rattle.basics.specs.Order.{Name}
use Rattle.basics.specs.Map.{Node}
use Rattle.basics.specs.Base.{Bytes, case_option, if_empty, flat_map}
use Rattle.basics.specs.Name.{valid_name}
use Rattle.basics.specs.Field.{encode_fields}
use Rattle.model.specs.Log.{Ending, whole, truncated, undecodable, too_many, ending_cause, valid_header, entries, journal, is_held, write_log}
use Rattle.model.specs.Store.{Store, first_backup, has_pending_work}
use Rattle.model.specs.Image.{hit_fields, encode, decode}
use Rattle.model.specs.Step.{Step, field_at, commit_number}
use Rattle.model.specs.Plan.{commit_fault, commit_end, hold_end, plan_ending, ending_at, unheld, recover_fault, discarded_cause, recover_plan, recovered_at, recovered, revert_plan, reverted_at, reverted, keep_plan, kept_at, kept, without_mark}
use Rattle.model.specs.Record.{Outcome, refuse, give, transaction, begin_transaction, discard, record_write, record_delete, record_delete_keys, record_delete_all, record_create, record_delete_collection, record_copy, key_list}
use Rattle.model.specs.Operation.{Op}

-- The number (0 is done), the bytes written to the output, and those written to the step output.
pub record Answer : Type 0 where
  pub number : ℕ
  pub image : Bytes
  pub step : Bytes

-- 01, Sixteen numbers: "A refusal gives its number alone".
abbrev pub refusal : ℕ → Answer
refusal n = record { number = n; image = []; step = [] }

-- A number with an image.
abbrev pub answer : ℕ → Store → Answer
answer n s = record { number = n; image = encode s; step = [] }

abbrev pub outcome : Outcome → Answer
outcome (refuse n) = refusal n
outcome (give s) = answer 0 s

-- An output after some bytes are written at its front. 01, Sixteen numbers: "the lent output keeps its bytes behind them".
abbrev pub overwritten : Bytes → Bytes → Bytes
overwritten written out = written ++ drop (length written) out

-- 01, Sixteen numbers: "1. The image breaks its layout or a limit." Then 2, where an output has not the room that the entry asks for; then what follows.
abbrev pub on_image : Bytes → Bool → (Store → Answer) → Answer
on_image b room next = case_option (decode b) (refusal 1) λ s. if room then next s else refusal 2

-- An entry from image to image.
abbrev pub image_entry : (Store → Outcome) → Bytes → ℕ → Answer
image_entry f b out = on_image b (leb image_room out) (λ s. outcome (f s))

-- `cda_storage_begin`: 1, 2, 3, 17.
unfoldable pub begin : Bytes → ℕ → Answer
begin = image_entry begin_transaction

-- `cda_storage_write`, with the caller's staging name and number: 1, 2, 4, 5, 6, 10.
unfoldable pub write : Name → Name → Name → ℕ → Bytes → ℕ → Answer
write c k staged x = image_entry (record_write c k staged x)

-- `cda_storage_delete`: 1, 2, 4, 5, 6, 8.
unfoldable pub delete : Name → Name → Bytes → ℕ → Answer
delete c k = image_entry (record_delete c k)

-- `cda_storage_delete_keys`: 1, 2, 4, 6 for the keys' bytes or their count, 5, 6 for a name, 8.
unfoldable pub delete_keys : Name → Bytes → Bytes → ℕ → Answer
delete_keys c keys = image_entry (record_delete_keys c keys)

-- `cda_storage_delete_all`: 1, 2, 4, 5, 6.
unfoldable pub delete_all : Name → Bytes → ℕ → Answer
delete_all c = image_entry (record_delete_all c)

-- `cda_storage_create_collection`: 1, 2, 4, 5, 6, 9.
unfoldable pub create_collection : Name → Bytes → ℕ → Answer
create_collection c = image_entry (record_create c)

-- `cda_storage_delete_collection`: 1, 2, 4, 5, 6, 7.
unfoldable pub delete_collection : Name → Bytes → ℕ → Answer
delete_collection c = image_entry (record_delete_collection c)

-- `cda_storage_copy_collection`: 1, 2, 4, 5, 6, 7, and 6 for the destination.
unfoldable pub copy_collection : Name → Name → Bytes → ℕ → Answer
copy_collection a b = image_entry (record_copy a b)

-- `cda_storage_rollback`: 1, 2, 4.
unfoldable pub rollback : Bytes → ℕ → Answer
rollback = image_entry discard

-- A commit with this end: the ordinary one, and the held one (02, item 6).
unfoldable pub ending_store : List (Store → List Step) → Store → Answer
ending_store ends s = case_option (transaction s) (refusal 4) λ ops. answer (commit_number (commit_fault s)) (ending_at ends (length (plan_ending ends s)) s)

abbrev pub commit_store : Store → Answer
commit_store = ending_store commit_end

abbrev pub hold_store : Store → Answer
hold_store = ending_store hold_end

-- `cda_storage_commit`: 1, 2, 4, and 14 or 15 with the rolled_back image.
unfoldable pub commit : Bytes → ℕ → Answer
commit b out = on_image b (leb image_room out) commit_store

-- `cda_storage_hold`: 1, 2, 4, and 14 or 15 with the rolled_back image.
unfoldable pub hold : Bytes → ℕ → Answer
hold b out = on_image b (leb image_room out) hold_store

unfoldable pub recover_store : Store → Answer
recover_store s = case_option (recover_fault (journal s.log) s.tree) (answer 0 (recovered s)) refusal

-- `cda_storage_recover`: 1, 2, 11, 12, 13.
unfoldable pub recover : Bytes → ℕ → Answer
recover b out = on_image b (leb image_room out) recover_store

-- 02, item 6: "18, keep or revert without a Held log"; then what follows.
abbrev pub if_held : Store → Answer → Answer
if_held s next = if is_held (journal s.log) then next else refusal 18

unfoldable pub keep_store : Store → Answer
keep_store s = if_held s (answer 0 (kept s))

-- `cda_storage_keep`: 1, 2, 18.
unfoldable pub keep : Bytes → ℕ → Answer
keep b out = on_image b (leb image_room out) keep_store

unfoldable pub revert_store : Store → Answer
revert_store s = if_held s (case_option (recover_fault (unheld (journal s.log)) s.tree) (answer 0 (reverted s)) refusal)

-- `cda_storage_revert`: 1, 2, 18, 11, 12, 13.
unfoldable pub revert : Bytes → ℕ → Answer
revert b out = on_image b (leb image_room out) revert_store

-- A number, and how the log broke. 02, item 1: "1 entry header too short, 2 payload missing (length 0 or past the end), 3 checksum wrong"; 0 for neither.
pub record Broke : Type 0 where
  pub number : ℕ
  pub cause : ℕ

-- `cda_storage_recover`: "Recovery also hands that number back when it discards a truncated Committing log, and 0 whenever else it is done".
unfoldable pub recover_cause : Bytes → ℕ → Broke
recover_cause b out = record { number = (recover b out).number; cause = case_option (decode b) 0 λ s. discarded_cause (journal s.log) }

-- `cda_storage_revert`: "Revert does what recovery does for a Committing log" (02, item 6).
unfoldable pub revert_cause : Bytes → ℕ → Broke
revert_cause b out = record { number = (revert b out).number; cause = case_option (decode b) 0 λ s. discarded_cause (unheld (journal s.log)) }

-- The number where a log alone is read: what "doesn't decode" is 11 and "one byte more" 12 (01, Corners, wal.rs), whatever its status; a truncated log is read.
abbrev pub reading_number : Ending → ℕ
reading_number whole = 0
reading_number (truncated c) = 0
reading_number undecodable = 11
reading_number too_many = 12

-- `cda_storage_log_cause`: 1 for a log over the limit, 21 for one without a valid header, 11, 12. 02, item 1: "The log reading shall say which it met".
unfoldable pub log_cause : Bytes → Broke
log_cause l =
    if leb (length l) log_limit then
    (if valid_header l then record { number = reading_number (entries l).end; cause = ending_cause (entries l).end } else record { number = 21; cause = 0 })
    else record { number = 1; cause = 0 }

-- 01, Sixteen numbers: "16. The step number is past the plan's end."
abbrev pub step_answer : ℕ → List Step → Store → Answer
step_answer n plan s = if leb n (length plan) then record { number = 0; image = encode s; step = field_at n plan } else refusal 16

-- An entry that hands back the image after some steps, and a field.
abbrev pub step_entry : (Store → Answer) → Bytes → ℕ → ℕ → Answer
step_entry f b out stepOut = on_image b (leb image_room out && leb step_room stepOut) f

-- `cda_storage_commit_step` and `cda_storage_hold_step`: 1, 2, 4, 16; 01, Sixteen numbers: "step entries never give" 14 and 15.
abbrev pub ending_step : List (Store → List Step) → ℕ → Store → Answer
ending_step ends n s = case_option (transaction s) (refusal 4) λ ops. step_answer n (plan_ending ends s) (ending_at ends n s)

unfoldable pub commit_step : ℕ → Bytes → ℕ → ℕ → Answer
commit_step n b out stepOut = step_entry (ending_step commit_end n) b out stepOut

unfoldable pub hold_step : ℕ → Bytes → ℕ → ℕ → Answer
hold_step n b out stepOut = step_entry (ending_step hold_end n) b out stepOut

-- `cda_storage_recover_step`: 1, 2, 11, 12, 13, 16.
unfoldable pub recover_step : ℕ → Bytes → ℕ → ℕ → Answer
recover_step n b out stepOut =
    step_entry (λ s. case_option (recover_fault (journal s.log) s.tree) (step_answer n (recover_plan (without_mark s)) (recovered_at n s)) refusal) b out stepOut

-- `cda_storage_keep_step`: 1, 2, 18, 16. At n = 0 it says whether a Held log stands.
unfoldable pub keep_step : ℕ → Bytes → ℕ → ℕ → Answer
keep_step n b out stepOut = step_entry (λ s. if_held s (step_answer n (keep_plan (without_mark s)) (kept_at n s))) b out stepOut

-- `cda_storage_revert_step`: 1, 2, 18, 11, 12, 13, 16.
unfoldable pub revert_step : ℕ → Bytes → ℕ → ℕ → Answer
revert_step n b out stepOut =
    step_entry
    (λ s. if_held s (case_option (recover_fault (unheld (journal s.log)) s.tree) (step_answer n (revert_plan (without_mark s)) (reverted_at n s)) refusal))
    b out stepOut

-- `cda_storage_has_pending_work`: 1; else yes or no. 02, item 6: at Held "the pending question says yes": a log stands.
pub record Pending : Type 0 where
  pub number : ℕ
  pub yes? : Bool

unfoldable pub pending : Bytes → Pending
pending b = case_option (decode b) (record { number = 1; yes? = false }) λ s. record { number = 0; yes? = has_pending_work s }

-- `cda_storage_list_keys`: 1, 2, 6. A missing collection reads as empty (01, Modules in port order).
unfoldable pub list_keys : Name → Bytes → ℕ → Answer
list_keys c b out = on_image b (leb keys_room out) λ s. if valid_name c then record { number = 0; image = key_list c s; step = [] } else refusal 6

-- `cda_storage_find_backup`: 1, 2. 02, item 2: the fields of the hit, none where no backup stands.
unfoldable pub find_backup : Bytes → ℕ → Answer
find_backup b out = on_image b (leb hit_room out) λ s. record { number = 0; image = encode_fields (hit_fields (first_backup s.tree)); step = [] }

-- The number where a whole log is asked for. 02, item 12: "Within the walk the first met of truncation (21), 11 and 12 decides, for each status."
abbrev pub whole_number : Ending → ℕ
whole_number whole = 0
whole_number (truncated c) = 21
whole_number undecodable = 11
whole_number too_many = 12

abbrev pub canonical_by : ℕ → List Op → Ending → Answer
canonical_by status ops e = if eqb (whole_number e) 0 then record { number = 0; image = write_log status ops; step = [] } else refusal (whole_number e)

-- `cda_storage_canonical_log`: 1, 2, 21, 11, 12. 02, item 12: "Here 1 means a log over 6,952 bytes and 2 an output shorter than the log. Turned away: 21, no
-- valid header, tested after 2, or truncated."
unfoldable pub canonical_log : Bytes → ℕ → Answer
canonical_log l out =
    if leb (length l) log_limit then
    (if leb (length l) out then (if valid_header l then canonical_by (get_or l 1 0) (entries l).ops (entries l).end else refusal 21) else refusal 2)
    else refusal 1

-- A number of at most so many digits, in decimal.
unfoldable pub decimal : ℕ → ℕ → Bytes
decimal zero n = []
decimal (suc k) n = if leb n 9 then (0x30 + n) ∷ [] else decimal k (n / 10) ++ (0x30 + n % 10) ∷ []

-- 01, Listings and file steps: ""name/" for each directory and "name/file number" in decimal for each file, in image order, a line feed after
-- each line".
unfoldable pub listing_line : Node → Bytes
listing_line n = n.0.0 ++ 0x2F ∷ if_empty n.0.1 [] (n.0.1 ++ 0x20 ∷ decimal 10 n.1) ++ 0x0A ∷ []

-- The listing program: "recovers it and writes "answer " and the number (0 is done); after 0 follow" the lines.
unfoldable pub listing : Bytes → Bytes
listing b =
    0x61 ∷ 0x6E ∷ 0x73 ∷ 0x77 ∷ 0x65 ∷ 0x72 ∷ 0x20 ∷ decimal 2 (recover b image_room).number ++ 0x0A ∷
    case_option (decode b) [] (λ s. case_option (recover_fault (journal s.log) s.tree) (flat_map listing_line (recovered s).tree) (λ n. []))
