-- Demand 1 over calls of the exported entries, in one statement: whatever a call is lent, it answers with one of the numbers named here, and after a
-- refusal every lent buffer and counter is as it was. 0, and 14 and 15, which commit and hold alone give, hand back the image that the contract says.
use Rattle.std.specs.Prelude.{◌≡◌, true, false, List, [], ◌∷◌, ℕ, length, eqb}
use Rattle.std.proofs.Common.{sym, ap, subst, ◌∙◌}
use Rattle.basics.specs.Order.{Name}
use Rattle.basics.specs.Base.{Bytes, In}
use Rattle.answers.specs.Answers.{Answer, Broke, begin, write, delete, delete_keys, delete_all, create_collection, delete_collection, copy_collection, rollback}
use Rattle.answers.specs.Answers.{commit, commit_step, hold, hold_step, keep, keep_step, recover, recover_cause, recover_step, revert, revert_cause, revert_step}
use Rattle.answers.specs.Answers.{pending, list_keys, find_backup, log_cause, canonical_log}
use Rattle.answers.specs.Inventory.{inventory}
use Rattle.handover.specs.Contract.{hands_back, Gives, StepGives, PendingGives, CauseGives}
use Rattle.cda_storage.specs.Refusals as refusals
use Rattle.cda_storage.specs.Refusals.{Answered, Told}

-- A call with one output: its number is one of these, and after a refusal the output and its counter are as they were.
pub record Keeps (l : List ℕ) (n : ℕ) (out out' : Bytes) (written written' : ℕ) : Type 0 where
  pub number : In n l
  pub left : hands_back n ≡ false → (out' ≡ out) × (written' ≡ written)

-- Every call of an entry that answers a, by the length of the output that it is lent; of a step entry, which is lent two.
abbrev pub Refuses : List ℕ → (ℕ → Answer) → Type 0
Refuses l a = (n : ℕ) (out out' : Bytes) (written written' : ℕ) → Gives (a (length out)) n out out' written written' → Keeps l n out out' written written'

abbrev pub StepRefuses : List ℕ → (ℕ → ℕ → Answer) → Type 0
StepRefuses l a =
    (n : ℕ) (out out' : Bytes) (written written' : ℕ) (step step' : Bytes) (step_written step_written' : ℕ)
    → StepGives (a (length out) (length step)) n out out' written written' step step' step_written step_written'
    → Keeps l n out out' written written' × (hands_back n ≡ false → (step' ≡ step) × (step_written' ≡ step_written))

-- Every call that tells how the log broke: a refusal leaves `cause`, and 0 tells 0, 1, 2 or 3 (02, item 1).
pub record CauseKeeps (l : List ℕ) (n cause cause' : ℕ) : Type 0 where
  pub number : In n l
  pub left : eqb n 0 ≡ false → cause' ≡ cause
  pub told : eqb n 0 ≡ true → In cause' (0 ∷ 1 ∷ 2 ∷ 3 ∷ [])

abbrev pub CauseRefuses : List ℕ → Broke → Type 0
CauseRefuses l a = (n cause cause' : ℕ) → CauseGives a n cause cause' → CauseKeeps l n cause cause'

-- The numbers of each entry: 01, Sixteen numbers, and 02's.
pub record Demand1 : Type 0 where
  pub on_begin : (b : Bytes) → Refuses (0 ∷ 1 ∷ 2 ∷ 3 ∷ 17 ∷ []) (begin b)
  pub on_write : (c k staged : Name) (x : ℕ) (b : Bytes) → Refuses (0 ∷ 1 ∷ 2 ∷ 4 ∷ 5 ∷ 6 ∷ 10 ∷ []) (write c k staged x b)
  pub on_delete : (c k : Name) (b : Bytes) → Refuses (0 ∷ 1 ∷ 2 ∷ 4 ∷ 5 ∷ 6 ∷ 8 ∷ []) (delete c k b)
  pub on_delete_keys : (c : Name) (keys b : Bytes) → Refuses (0 ∷ 1 ∷ 2 ∷ 4 ∷ 5 ∷ 6 ∷ 8 ∷ []) (delete_keys c keys b)
  pub on_delete_all : (c : Name) (b : Bytes) → Refuses (0 ∷ 1 ∷ 2 ∷ 4 ∷ 5 ∷ 6 ∷ []) (delete_all c b)
  pub on_create_collection : (c : Name) (b : Bytes) → Refuses (0 ∷ 1 ∷ 2 ∷ 4 ∷ 5 ∷ 6 ∷ 9 ∷ []) (create_collection c b)
  pub on_delete_collection : (c : Name) (b : Bytes) → Refuses (0 ∷ 1 ∷ 2 ∷ 4 ∷ 5 ∷ 6 ∷ 7 ∷ []) (delete_collection c b)
  pub on_copy_collection : (a c : Name) (b : Bytes) → Refuses (0 ∷ 1 ∷ 2 ∷ 4 ∷ 5 ∷ 6 ∷ 7 ∷ []) (copy_collection a c b)
  pub on_rollback : (b : Bytes) → Refuses (0 ∷ 1 ∷ 2 ∷ 4 ∷ []) (rollback b)
  pub on_commit : (b : Bytes) → Refuses (0 ∷ 1 ∷ 2 ∷ 4 ∷ 14 ∷ 15 ∷ []) (commit b)
  pub on_commit_step : (n : ℕ) (b : Bytes) → StepRefuses (0 ∷ 1 ∷ 2 ∷ 4 ∷ 16 ∷ []) (commit_step n b)
  pub on_hold : (b : Bytes) → Refuses (0 ∷ 1 ∷ 2 ∷ 4 ∷ 14 ∷ 15 ∷ []) (hold b)
  pub on_hold_step : (n : ℕ) (b : Bytes) → StepRefuses (0 ∷ 1 ∷ 2 ∷ 4 ∷ 16 ∷ []) (hold_step n b)
  pub on_keep : (b : Bytes) → Refuses (0 ∷ 1 ∷ 2 ∷ 18 ∷ []) (keep b)
  pub on_keep_step : (n : ℕ) (b : Bytes) → StepRefuses (0 ∷ 1 ∷ 2 ∷ 18 ∷ 16 ∷ []) (keep_step n b)
  pub on_revert : (b : Bytes) → Refuses (0 ∷ 1 ∷ 2 ∷ 18 ∷ 11 ∷ 12 ∷ 13 ∷ []) (revert b)
  pub on_revert_cause : (b : Bytes) (out : ℕ) → CauseRefuses (0 ∷ 1 ∷ 2 ∷ 18 ∷ 11 ∷ 12 ∷ 13 ∷ []) (revert_cause b out)
  pub on_revert_step : (n : ℕ) (b : Bytes) → StepRefuses (0 ∷ 1 ∷ 2 ∷ 18 ∷ 11 ∷ 12 ∷ 13 ∷ 16 ∷ []) (revert_step n b)
  pub on_recover : (b : Bytes) → Refuses (0 ∷ 1 ∷ 2 ∷ 11 ∷ 12 ∷ 13 ∷ []) (recover b)
  pub on_recover_cause : (b : Bytes) (out : ℕ) → CauseRefuses (0 ∷ 1 ∷ 2 ∷ 11 ∷ 12 ∷ 13 ∷ []) (recover_cause b out)
  pub on_recover_step : (n : ℕ) (b : Bytes) → StepRefuses (0 ∷ 1 ∷ 2 ∷ 11 ∷ 12 ∷ 13 ∷ 16 ∷ []) (recover_step n b)
  pub on_list_keys : (c : Name) (b : Bytes) → Refuses (0 ∷ 1 ∷ 2 ∷ 6 ∷ []) (list_keys c b)
  pub on_find_backup : (b : Bytes) → Refuses (0 ∷ 1 ∷ 2 ∷ []) (find_backup b)
  pub on_log_cause : (l : Bytes) → CauseRefuses (0 ∷ 1 ∷ 11 ∷ 12 ∷ 21 ∷ []) (log_cause l)
  pub on_inventory : (b : Bytes) → Refuses (0 ∷ 1 ∷ 2 ∷ []) (inventory b)
  pub on_canonical_log : (l : Bytes) → Refuses (0 ∷ 1 ∷ 2 ∷ 21 ∷ 11 ∷ 12 ∷ []) (canonical_log l)
  pub on_pending : (b : Bytes) (n p p' : ℕ) → PendingGives (pending b) n p p' → In n (0 ∷ 1 ∷ []) × (eqb n 0 ≡ false → p' ≡ p)

keeps : {l : List ℕ} {a : Answer} → Answered l a → {n : ℕ} {out out' : Bytes} {written written' : ℕ} → Gives a n out out' written written' → Keeps l n out out' written written'
keeps {l} w g = record { number = subst (λ (n : ℕ). In n l) (sym g.number) w.numbers; left = refusals.untouched w g }

step_keeps : {l : List ℕ} {a : Answer} → Answered l a → {n : ℕ} {out out' : Bytes} {written written' : ℕ} {step step' : Bytes} {step_written step_written' : ℕ}
    → StepGives a n out out' written written' step step' step_written step_written'
    → Keeps l n out out' written written' × (hands_back n ≡ false → (step' ≡ step) × (step_written' ≡ step_written))
step_keeps w g = (keeps w g.given, λ h. (refusals.step-untouched w g h).1)

cause-keeps : {l : List ℕ} {a : Broke} → Told l a → {n cause cause' : ℕ} → CauseGives a n cause cause' → CauseKeeps l n cause cause'
cause-keeps {l} {a} w {n} g =
    let e : eqb a.number 0 ≡ eqb n 0 = ap (λ (k : ℕ). eqb k 0) (sym g.number) in
    record {
      number = subst (λ (n : ℕ). In n l) (sym g.number) w.numbers;
      left = λ h. g.told ∙ rw (e ∙ h);
      told = λ h. subst (λ (k : ℕ). In k (0 ∷ 1 ∷ 2 ∷ 3 ∷ [])) (sym (g.told ∙ rw (e ∙ h))) w.one;
    }

pub demand_1 : Demand1
demand_1 = record {
  on_begin = λ b k out out' w w' g. keeps (refusals.begin-answers b _) g;
  on_write = λ c key staged x b k out out' w w' g. keeps (refusals.write-answers c key staged x b _) g;
  on_delete = λ c key b k out out' w w' g. keeps (refusals.delete-answers c key b _) g;
  on_delete_keys = λ c keys b k out out' w w' g. keeps (refusals.delete-keys-answers c keys b _) g;
  on_delete_all = λ c b k out out' w w' g. keeps (refusals.delete-all-answers c b _) g;
  on_create_collection = λ c b k out out' w w' g. keeps (refusals.create_collection-answers c b _) g;
  on_delete_collection = λ c b k out out' w w' g. keeps (refusals.delete-collection-answers c b _) g;
  on_copy_collection = λ a c b k out out' w w' g. keeps (refusals.copy_collection-answers a c b _) g;
  on_rollback = λ b k out out' w w' g. keeps (refusals.rollback-answers b _) g;
  on_commit = λ b k out out' w w' g. keeps (refusals.commit-answers b _) g;
  on_commit_step = λ n b k out out' w w' step step' sw sw' g. step_keeps (refusals.commit-step-answers n b _ _) g;
  on_hold = λ b k out out' w w' g. keeps (refusals.hold-answers b _) g;
  on_hold_step = λ n b k out out' w w' step step' sw sw' g. step_keeps (refusals.hold-step-answers n b _ _) g;
  on_keep = λ b k out out' w w' g. keeps (refusals.keep-answers b _) g;
  on_keep_step = λ n b k out out' w w' step step' sw sw' g. step_keeps (refusals.keep-step-answers n b _ _) g;
  on_revert = λ b k out out' w w' g. keeps (refusals.revert-answers b _) g;
  on_revert_cause = λ b out k c c' g. cause-keeps (refusals.revert_tells b out) g;
  on_revert_step = λ n b k out out' w w' step step' sw sw' g. step_keeps (refusals.revert-step-answers n b _ _) g;
  on_recover = λ b k out out' w w' g. keeps (refusals.recover-answers b _) g;
  on_recover_cause = λ b out k c c' g. cause-keeps (refusals.recover_tells b out) g;
  on_recover_step = λ n b k out out' w w' step step' sw sw' g. step_keeps (refusals.recover-step-answers n b _ _) g;
  on_list_keys = λ c b k out out' w w' g. keeps (refusals.list-keys-answers c b _) g;
  on_find_backup = λ b k out out' w w' g. keeps (refusals.find-backup-answers b _) g;
  on_log_cause = λ l k c c' g. cause-keeps (refusals.log-cause_tells l) g;
  on_inventory = λ b k out out' w w' g. keeps (refusals.inventory-answers b _) g;
  on_canonical_log = λ l k out out' w w' g. keeps (refusals.canonical_log-answers l _) g;
  on_pending = λ b k p p' g. (
    subst (λ (n : ℕ). In n (0 ∷ 1 ∷ [])) (sym g.number) (refusals.pending-answers b),
    λ h. g.answer ∙ rw (ap (λ (n : ℕ). eqb n 0) (sym g.number) ∙ h),
  );
}
