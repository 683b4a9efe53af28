-- Demand 1 over calls of the exported entries: every call is answered with 0 or one of the numbers named here, whatever it was lent, and after a
-- refusal every lent buffer is as it was; 14 and 15, given by commit alone, hand back the rolled_back image.
use Rattle.std.specs.Prelude.{◌≡◌, refl, Bool, true, false, List, [], ◌∷◌, ℕ, length, leb, if◌then◌else◌}
use Rattle.std.proofs.Common.{sym, ap, subst, ◌∙◌, inl, inr}
use Rattle.std.proofs.lemmas.Bool.{false≢true}
use Rattle.std.proofs.Math.Option.{Option, none, some}
use Rattle.basics.specs.Limits.{image_room, log_limit}
use Rattle.basics.specs.Order.{Name}
use Rattle.basics.specs.Base.{Bytes, case_option, In}
use Rattle.model.specs.Log.{Journal, absent, recording, committing, held, journal, valid_header, entries}
use Rattle.model.specs.Log.{Ending, whole, truncated, undecodable, too_many, header_short, payload_missing, checksum_wrong, ending_cause}
use Rattle.model.specs.Store.{Store, has_pending_work}
use Rattle.model.specs.Image.{decode}
use Rattle.model.specs.Step.{Fault, fails, full, commit_number}
use Rattle.model.specs.Plan.{commit_fault, unheld, discarded_cause}
use Rattle.answers.specs.Answers.{Answer, Pending, Broke, refusal, outcome, reading_number}
use Rattle.answers.specs.Answers.{begin, write, delete, delete_keys, delete_all, create_collection, delete_collection, copy_collection, rollback, pending, list_keys, find_backup, log_cause, canonical_log}
use Rattle.answers.specs.Answers.{commit, commit_step, hold, hold_step, keep, keep_step, recover, recover_cause, recover_step, revert, revert_cause, revert_step}
use Rattle.answers.specs.Inventory.{inventory}
use Rattle.basic_laws.specs.Tests.{All, in_all}
use Rattle.answer_laws.specs.EntryLaws.{commit_refusals, commit_step_refusals, keep_refusals, keep_step_refusals, recover_refusals, recover_step_refusals, revert_refusals, revert_step_refusals, list_keys_refusals}
use Rattle.answer_laws.specs.EntryLaws.{on-commit, on-commit-step, on-hold, on-hold-step, on-keep, on-keep-step, on-recover, on-recover-step, on-revert, on-revert-step, on-list-keys, on-find-backup, on-inventory}
use Rattle.answer_laws.specs.CanonicalLog.{canonical_refusals, on_canonical}
use Rattle.model.specs.Record.{record_delete_keys}
use Rattle.laws.specs.KeySetLaws.{set-numbers}
use Rattle.answer_laws.specs.KeySets.{on_read}
use Rattle.handover.specs.Contract.{hands_back, Gives, StepGives}
use Rattle.recording.specs.Asking.{asked, entry_of, numbers_of}
use Rattle.recording.specs.Laws.{entry-is, asked_cases}
use Rattle.recording.specs.declared.Asked.{Asked}
use Rattle.recording.specs.declared.Asked.TheVariants.{Begin, Write, Delete, DeleteAll, CreateCollection, DeleteCollection, CopyCollection, Rollback}

-- An answer with one of these numbers, which is that number alone where it hands nothing back.
pub record Answered (l : List ℕ) (a : Answer) : Type 0 where
  pub numbers : In a.number l
  pub alone : hands_back a.number ≡ false → a ≡ refusal a.number

-- After a refusal the lent output and its counter are as they were; so are a step entry's four.
module _ {l : List ℕ} {a : Answer} (w : Answered l a) where
  pub untouched : {n : ℕ} {out out' : Bytes} {written written' : ℕ} → Gives a n out out' written written' → hands_back n ≡ false → (out' ≡ out) × (written' ≡ written)
  untouched g h =
      let e = w.alone (ap hands_back (sym g.number) ∙ h) in
      (g.image ∙ rw e, g.count ∙ rw (ap hands_back (sym g.number) ∙ h))

  pub step-untouched : {n : ℕ} {out out' : Bytes} {written written' : ℕ} {step step' : Bytes} {step_written step_written' : ℕ}
      → StepGives a n out out' written written' step step' step_written step_written' → hands_back n ≡ false
      → ((out' ≡ out) × (written' ≡ written)) × ((step' ≡ step) × (step_written' ≡ step_written))
  step-untouched g h =
      let e = w.alone (ap hands_back (sym g.given.number) ∙ h) in
      (untouched g.given h, (g.field ∙ rw e, g.field_count ∙ rw (ap hands_back (sym g.given.number) ∙ h)))

refused : (l : List ℕ) (n : ℕ) → In n l → Answered l (refusal n)
refused l n i = record { numbers = i; alone = λ h. refl }

refusals : (l : List ℕ) → All (λ n. Answered (0 ∷ l) (refusal n)) l
refusals l = in_all (λ n. Answered (0 ∷ l) (refusal n)) l (λ n i. refused (0 ∷ l) n (inr i))

done : (l : List ℕ) {a : Answer} → a.number ≡ 0 → Answered (0 ∷ l) a
done l e = record { numbers = inl e; alone = λ h. absurd (false≢true (sym h ∙ ap hands_back e)) }

-- The entries that record: 0, 1, 2, and what is asked refuses with.
asked-answers : (op : Asked) (c k f : Name) (b : Bytes) (out : ℕ) → Answered (0 ∷ 1 ∷ 2 ∷ numbers_of op) (entry_of op c k f b out)
asked-answers op c k f b out = subst (Answered (0 ∷ 1 ∷ 2 ∷ numbers_of op)) (sym (entry-is op c k f b out)) (go (decode b) (leb image_room out))
  where
    each : All (λ n. Answered (0 ∷ 1 ∷ 2 ∷ numbers_of op) (refusal n)) (1 ∷ 2 ∷ numbers_of op)
    each = refusals (1 ∷ 2 ∷ numbers_of op)

    go : (o : Option Store) (room : Bool) → Answered (0 ∷ 1 ∷ 2 ∷ numbers_of op) (case_option o (refusal 1) (λ s. if room then outcome (asked op c k f s) else refusal 2))
    go none room = each.0
    go (some s) true = asked_cases (λ o. Answered (0 ∷ 1 ∷ 2 ∷ numbers_of op) (outcome o)) op c k f s each.1.1 (λ u e. done _ refl)
    go (some s) false = each.1.0

pub begin-answers : (b : Bytes) (out : ℕ) → Answered (0 ∷ 1 ∷ 2 ∷ 3 ∷ 17 ∷ []) (begin b out)
begin-answers = asked-answers Begin [] [] []

pub write-answers : (c k staged : Name) (x : ℕ) (b : Bytes) (out : ℕ) → Answered (0 ∷ 1 ∷ 2 ∷ 4 ∷ 5 ∷ 6 ∷ 10 ∷ []) (write c k staged x b out)
write-answers c k staged x = asked-answers (Write x) c k staged

pub delete-answers : (c k : Name) (b : Bytes) (out : ℕ) → Answered (0 ∷ 1 ∷ 2 ∷ 4 ∷ 5 ∷ 6 ∷ 8 ∷ []) (delete c k b out)
delete-answers c k = asked-answers Delete c k []

pub delete-keys-answers : (c : Name) (keys b : Bytes) (out : ℕ) → Answered (0 ∷ 1 ∷ 2 ∷ 4 ∷ 5 ∷ 6 ∷ 8 ∷ []) (delete_keys c keys b out)
unfolding delete_keys
delete-keys-answers c keys b out =
    on_read Among (record_delete_keys c keys) b out each.0 each.1.0 λ s d r.
    set-numbers (λ o. Among (outcome o)) c keys s each.1.1.0 each.1.1.1.0 each.1.1.1.1.0 each.1.1.1.1.1.0 (λ u. done _ refl)
  where
    Among : Answer → Type 0
    Among = Answered (0 ∷ 1 ∷ 2 ∷ 4 ∷ 5 ∷ 6 ∷ 8 ∷ [])

    each : All (λ n. Answered (0 ∷ 1 ∷ 2 ∷ 4 ∷ 5 ∷ 6 ∷ 8 ∷ []) (refusal n)) (1 ∷ 2 ∷ 4 ∷ 5 ∷ 6 ∷ 8 ∷ [])
    each = refusals (1 ∷ 2 ∷ 4 ∷ 5 ∷ 6 ∷ 8 ∷ [])

pub delete-all-answers : (c : Name) (b : Bytes) (out : ℕ) → Answered (0 ∷ 1 ∷ 2 ∷ 4 ∷ 5 ∷ 6 ∷ []) (delete_all c b out)
delete-all-answers c = asked-answers DeleteAll c [] []

pub create_collection-answers : (c : Name) (b : Bytes) (out : ℕ) → Answered (0 ∷ 1 ∷ 2 ∷ 4 ∷ 5 ∷ 6 ∷ 9 ∷ []) (create_collection c b out)
create_collection-answers c = asked-answers CreateCollection c [] []

pub delete-collection-answers : (c : Name) (b : Bytes) (out : ℕ) → Answered (0 ∷ 1 ∷ 2 ∷ 4 ∷ 5 ∷ 6 ∷ 7 ∷ []) (delete_collection c b out)
delete-collection-answers c = asked-answers DeleteCollection c [] []

pub copy_collection-answers : (a c : Name) (b : Bytes) (out : ℕ) → Answered (0 ∷ 1 ∷ 2 ∷ 4 ∷ 5 ∷ 6 ∷ 7 ∷ []) (copy_collection a c b out)
copy_collection-answers a c = asked-answers CopyCollection a [] c

pub rollback-answers : (b : Bytes) (out : ℕ) → Answered (0 ∷ 1 ∷ 2 ∷ 4 ∷ []) (rollback b out)
rollback-answers = asked-answers Rollback [] [] []

-- A commit, held or not: 1, 2, 4; 14 and 15 hand an image back.
early : All (λ n. Answered (0 ∷ 1 ∷ 2 ∷ 4 ∷ 14 ∷ 15 ∷ []) (refusal n)) commit_refusals
early = (refused _ 1 (inr (inl refl)), (refused _ 2 (inr (inr (inl refl))), (refused _ 4 (inr (inr (inr (inl refl)))), tt)))

ended : (q : Option Fault) {image step : Bytes} → Answered (0 ∷ 1 ∷ 2 ∷ 4 ∷ 14 ∷ 15 ∷ []) (record { number = commit_number q; image = image; step = step })
ended none = done _ refl
ended (some fails) = record { numbers = inr (inr (inr (inr (inl refl)))); alone = λ h. absurd (false≢true (sym h)) }
ended (some full) = record { numbers = inr (inr (inr (inr (inr (inl refl))))); alone = λ h. absurd (false≢true (sym h)) }

pub commit-answers : (b : Bytes) (out : ℕ) → Answered (0 ∷ 1 ∷ 2 ∷ 4 ∷ 14 ∷ 15 ∷ []) (commit b out)
commit-answers b out = on-commit (Answered (0 ∷ 1 ∷ 2 ∷ 4 ∷ 14 ∷ 15 ∷ [])) b out early (λ s d. ended (commit_fault s))

pub hold-answers : (b : Bytes) (out : ℕ) → Answered (0 ∷ 1 ∷ 2 ∷ 4 ∷ 14 ∷ 15 ∷ []) (hold b out)
hold-answers b out = on-hold (Answered (0 ∷ 1 ∷ 2 ∷ 4 ∷ 14 ∷ 15 ∷ [])) b out early (λ s d. ended (commit_fault s))

pub commit-step-answers : (n : ℕ) (b : Bytes) (out stepOut : ℕ) → Answered (0 ∷ 1 ∷ 2 ∷ 4 ∷ 16 ∷ []) (commit_step n b out stepOut)
commit-step-answers n b out stepOut =
    on-commit-step (Answered (0 ∷ 1 ∷ 2 ∷ 4 ∷ 16 ∷ [])) n b out stepOut (refusals commit_step_refusals) (λ s d. done _ refl)

pub hold-step-answers : (n : ℕ) (b : Bytes) (out stepOut : ℕ) → Answered (0 ∷ 1 ∷ 2 ∷ 4 ∷ 16 ∷ []) (hold_step n b out stepOut)
hold-step-answers n b out stepOut =
    on-hold-step (Answered (0 ∷ 1 ∷ 2 ∷ 4 ∷ 16 ∷ [])) n b out stepOut (refusals commit_step_refusals) (λ s d. done _ refl)

pub recover-answers : (b : Bytes) (out : ℕ) → Answered (0 ∷ 1 ∷ 2 ∷ 11 ∷ 12 ∷ 13 ∷ []) (recover b out)
recover-answers b out =
    on-recover (Answered (0 ∷ 1 ∷ 2 ∷ 11 ∷ 12 ∷ 13 ∷ [])) b out (refusals recover_refusals) (λ s d. done _ refl)

pub recover-step-answers : (n : ℕ) (b : Bytes) (out stepOut : ℕ) → Answered (0 ∷ 1 ∷ 2 ∷ 11 ∷ 12 ∷ 13 ∷ 16 ∷ []) (recover_step n b out stepOut)
recover-step-answers n b out stepOut =
    on-recover-step (Answered (0 ∷ 1 ∷ 2 ∷ 11 ∷ 12 ∷ 13 ∷ 16 ∷ [])) n b out stepOut (refusals recover_step_refusals) (λ s d. done _ refl)

pub keep-answers : (b : Bytes) (out : ℕ) → Answered (0 ∷ 1 ∷ 2 ∷ 18 ∷ []) (keep b out)
keep-answers b out = on-keep (Answered (0 ∷ 1 ∷ 2 ∷ 18 ∷ [])) b out (refusals keep_refusals) (λ s d. done _ refl)

pub keep-step-answers : (n : ℕ) (b : Bytes) (out stepOut : ℕ) → Answered (0 ∷ 1 ∷ 2 ∷ 18 ∷ 16 ∷ []) (keep_step n b out stepOut)
keep-step-answers n b out stepOut =
    on-keep-step (Answered (0 ∷ 1 ∷ 2 ∷ 18 ∷ 16 ∷ [])) n b out stepOut (refusals keep_step_refusals) (λ s d. done _ refl)

pub revert-answers : (b : Bytes) (out : ℕ) → Answered (0 ∷ 1 ∷ 2 ∷ 18 ∷ 11 ∷ 12 ∷ 13 ∷ []) (revert b out)
revert-answers b out =
    on-revert (Answered (0 ∷ 1 ∷ 2 ∷ 18 ∷ 11 ∷ 12 ∷ 13 ∷ [])) b out (refusals revert_refusals) (λ s d. done _ refl)

pub revert-step-answers : (n : ℕ) (b : Bytes) (out stepOut : ℕ) → Answered (0 ∷ 1 ∷ 2 ∷ 18 ∷ 11 ∷ 12 ∷ 13 ∷ 16 ∷ []) (revert_step n b out stepOut)
revert-step-answers n b out stepOut =
    on-revert-step (Answered (0 ∷ 1 ∷ 2 ∷ 18 ∷ 11 ∷ 12 ∷ 13 ∷ 16 ∷ [])) n b out stepOut (refusals revert_step_refusals) (λ s d. done _ refl)

pub list-keys-answers : (c : Name) (b : Bytes) (out : ℕ) → Answered (0 ∷ 1 ∷ 2 ∷ 6 ∷ []) (list_keys c b out)
list-keys-answers c b out =
    on-list-keys (Answered (0 ∷ 1 ∷ 2 ∷ 6 ∷ [])) c b out (refusals list_keys_refusals) (λ s d. done _ refl)

pub find-backup-answers : (b : Bytes) (out : ℕ) → Answered (0 ∷ 1 ∷ 2 ∷ []) (find_backup b out)
find-backup-answers b out = on-find-backup (Answered (0 ∷ 1 ∷ 2 ∷ [])) b out (refusals (1 ∷ 2 ∷ [])) (λ s d. done _ refl)

pub inventory-answers : (b : Bytes) (out : ℕ) → Answered (0 ∷ 1 ∷ 2 ∷ []) (inventory b out)
inventory-answers b out = on-inventory (Answered (0 ∷ 1 ∷ 2 ∷ [])) b out (refusals (1 ∷ 2 ∷ [])) (λ s d. done _ refl)

pub canonical_log-answers : (l : Bytes) (out : ℕ) → Answered (0 ∷ canonical_refusals) (canonical_log l out)
canonical_log-answers l out = on_canonical (Answered (0 ∷ canonical_refusals)) l out (refusals canonical_refusals) (λ ops. done _ refl)

-- `cda_storage_has_pending_work` answers 0 or 1.
pub pending-answers : (b : Bytes) → In {A = ℕ} (pending b).number (0 ∷ 1 ∷ [])
unfolding pending
pending-answers b = go (decode b)
  where
    go : (o : Option Store) → In {A = ℕ} (case_option {B = Pending} o (record { number = 1; yes? = false }) (λ s. record { number = 0; yes? = has_pending_work s })).number (0 ∷ 1 ∷ [])
    go none = inr (inl refl)
    go (some s) = inl refl

-- A number of these, and 02's item 1: how the log broke is 1, 2 or 3, else 0.
abbrev causes : List ℕ
causes = 0 ∷ 1 ∷ 2 ∷ 3 ∷ []

pub record Told (l : List ℕ) (a : Broke) : Type 0 where
  pub numbers : In a.number l
  pub one : In a.cause causes

ending-causes : (e : Ending) → In {A = ℕ} (ending_cause e) causes
ending-causes whole = inl refl
ending-causes (truncated header_short) = inr (inl refl)
ending-causes (truncated payload_missing) = inr (inr (inl refl))
ending-causes (truncated checksum_wrong) = inr (inr (inr (inl refl)))
ending-causes undecodable = inl refl
ending-causes too_many = inl refl

by-journal : (j : Journal) → In {A = ℕ} (discarded_cause j) causes
by-journal absent = inl refl
by-journal (recording o e) = inl refl
by-journal (committing o e) = ending-causes e
by-journal (held o e) = inl refl

-- What is taken for the log of the store that was read, if one was.
by-store : (f : Journal → Journal) (o : Option Store) → In {A = ℕ} (case_option o 0 (λ s. discarded_cause (f (journal s.log)))) causes
by-store f none = inl refl
by-store f (some s) = by-journal (f (journal s.log))

pub recover_tells : (b : Bytes) (out : ℕ) → Told (0 ∷ 1 ∷ 2 ∷ 11 ∷ 12 ∷ 13 ∷ []) (recover_cause b out)
unfolding recover_cause
recover_tells b out = record { numbers = (recover-answers b out).numbers; one = by-store (λ j. j) (decode b) }

pub revert_tells : (b : Bytes) (out : ℕ) → Told (0 ∷ 1 ∷ 2 ∷ 18 ∷ 11 ∷ 12 ∷ 13 ∷ []) (revert_cause b out)
unfolding revert_cause
revert_tells b out = record { numbers = (revert-answers b out).numbers; one = by-store unheld (decode b) }

pub log-cause_tells : (l : Bytes) → Told (0 ∷ 1 ∷ 11 ∷ 12 ∷ 21 ∷ []) (log_cause l)
unfolding log_cause
log-cause_tells l = go (leb (length l) log_limit) (valid_header l) (entries l).end
  where
    reading : (e : Ending) → In {A = ℕ} (reading_number e) (0 ∷ 1 ∷ 11 ∷ 12 ∷ 21 ∷ [])
    reading whole = inl refl
    reading (truncated c) = inl refl
    reading undecodable = inr (inr (inl refl))
    reading too_many = inr (inr (inr (inl refl)))

    go : (a b : Bool) (e : Ending) → Told (0 ∷ 1 ∷ 11 ∷ 12 ∷ 21 ∷ [])
        (if a then (if b then record { number = reading_number e; cause = ending_cause e } else record { number = 21; cause = 0 }) else record { number = 1; cause = 0 })
    go true true e = record { numbers = reading e; one = ending-causes e }
    go true false e = record { numbers = inr (inr (inr (inr (inl refl)))); one = inl refl }
    go false b e = record { numbers = inr (inl refl); one = inl refl }
