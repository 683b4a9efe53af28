-- What holds of an entry's answer, by the ways in which it can answer: a refusal, with one of its numbers, or what it hands back.
use Rattle.std.specs.Prelude.{◌≡◌, refl, ℕ, Bool, false, ◌&&◌, ◌||◌, length, if◌then◌else◌}
use Rattle.std.proofs.Common.{sym, arith, inl, inr}
use mathlib.Core.List.{List, [], ◌∷◌}
use Rattle.std.proofs.Math.Option.{Option, none, some}
use Rattle.std.proofs.Math.Bool.{true}
use Rattle.std.proofs.Math.Dec.{leb}
use Rattle.basics.specs.Limits.{image_room, keys_room, step_room, hit_room}
use Rattle.basics.specs.Order.{Name}
use Rattle.basics.specs.Map.{Map}
use Rattle.basics.specs.Base.{Bytes, case_option, any_of, In}
use Rattle.basics.specs.Name.{valid_name}
use Rattle.basics.specs.Field.{encode_fields}
use Rattle.model.specs.Log.{Journal, absent, recording, committing, journal, whole, truncated, undecodable, too_many, held, is_held}
use Rattle.model.specs.Store.{Store, has_backup_files, first_backup}
use Rattle.model.specs.Image.{hit_fields, encode, decode}
use Rattle.model.specs.Step.{Step, Fault, fails, full, commit_number, field_at}
use Rattle.model.specs.Plan.{commit_fault, commit_plan, committed_at, is_new_artifact, recover_fault, recover_plan, recovered_at, recovered, without_mark, commit_end, hold_end, plan_ending, ending_at, hold_plan, held_at, unheld, revert_plan, reverted_at, reverted, keep_plan, kept_at, kept}
use Rattle.model.specs.Record.{Outcome, refuse, give, transaction, key_list}
use Rattle.answers.specs.Answers.{Answer, refusal, answer, outcome, on_image, image_entry, commit, recover_store, recover, step_answer, commit_step, recover_step, list_keys, find_backup, ending_store, hold, if_held, keep_store, keep, revert_store, revert, ending_step, hold_step, keep_step, revert_step, step_entry}
use Rattle.answers.specs.Inventory.{inventory_text, in_room, inventory}
use Rattle.basic_laws.specs.MapLaws.{none≢some, some_inj}
use Rattle.basic_laws.specs.Tests.{All, all_in}
use Rattle.laws.specs.ImageLaws.{decode-only}
use Rattle.basic_laws.specs.ValidNames.{Valid}
use Rattle.laws.specs.StoreLaws.{Good, good}
use Rattle.laws.specs.RecordLaws.{Gives}

-- An image that is read holds a well-formed store.
pub lent-good : (b : Bytes) (s : Store) → decode b ≡ some s → Good Valid s
lent-good b s d = good s (decode-only b s d).1

-- Commit's number is 0 where no step fails.
pub no-fault : (q : Option Fault) → commit_number q ≡ 0 → q ≡ none
no-fault none e = refl
no-fault (some fails) e = absurd (omega arith)
no-fault (some full) e = absurd (omega arith)

-- The numbers with which entries refuse.
abbrev pub commit_refusals : List ℕ
commit_refusals = 1 ∷ 2 ∷ 4 ∷ []

abbrev pub recover_refusals : List ℕ
recover_refusals = 1 ∷ 2 ∷ 11 ∷ 12 ∷ 13 ∷ []

abbrev pub commit_step_refusals : List ℕ
commit_step_refusals = 1 ∷ 2 ∷ 4 ∷ 16 ∷ []

abbrev pub recover_step_refusals : List ℕ
recover_step_refusals = 1 ∷ 2 ∷ 11 ∷ 12 ∷ 13 ∷ 16 ∷ []

abbrev pub list_keys_refusals : List ℕ
list_keys_refusals = 1 ∷ 2 ∷ 6 ∷ []

abbrev pub find_backup_refusals : List ℕ
find_backup_refusals = 1 ∷ 2 ∷ []

pub recover-numbers : (l : List ℕ) (j : Journal) (t : Map) (n : ℕ) → recover_fault j t ≡ some n → In n (11 ∷ 12 ∷ 13 ∷ l)
recover-numbers l absent t n e = none≢some e
recover-numbers l (recording o x) t n e = none≢some e
recover-numbers l (committing o whole) t n e = none≢some e
recover-numbers l (committing o (truncated c)) t n e = go (has_backup_files t || any_of (is_new_artifact t) o) e
  where
    go : (c : Bool) → if◌then◌else◌ c (some 13) none ≡ some n → In n (11 ∷ 12 ∷ 13 ∷ l)
    go true e = inr (inr (inl (sym (some_inj e))))
    go false e = none≢some e
recover-numbers l (committing o undecodable) t n e = inl (sym (some_inj e))
recover-numbers l (committing o too_many) t n e = inr (inl (sym (some_inj e)))
recover-numbers l (held o x) t n e = none≢some e

abbrev pub keep_refusals : List ℕ
keep_refusals = 1 ∷ 2 ∷ 18 ∷ []

abbrev pub revert_refusals : List ℕ
revert_refusals = 1 ∷ 2 ∷ 18 ∷ 11 ∷ 12 ∷ 13 ∷ []

abbrev pub keep_step_refusals : List ℕ
keep_step_refusals = 1 ∷ 2 ∷ 18 ∷ 16 ∷ []

abbrev pub revert_step_refusals : List ℕ
revert_step_refusals = 1 ∷ 2 ∷ 18 ∷ 11 ∷ 12 ∷ 13 ∷ 16 ∷ []

-- What a step entry hands back where the step number is within the plan.
abbrev pub at_step : ℕ → List Step → Store → Answer
at_step n plan s = record { number = 0; image = encode s; step = field_at n plan }

module _ (P : Answer → Type 0) where
  -- P holds of these refusals.
  abbrev pub Refusals : List ℕ → Type 0
  Refusals l = All (λ n. P (refusal n)) l

  on-image : (b : Bytes) (room : Bool) (next : Store → Answer) → Refusals (1 ∷ 2 ∷ []) → ((s : Store) → decode b ≡ some s → P (next s)) → P (on_image b room next)
  on-image b room next r h = go (decode b) refl room
    where
      go : (o : Option Store) → decode b ≡ o → (t : Bool) → P (case_option o (refusal 1) (λ s. if t then next s else refusal 2))
      go none d t = r.0
      go (some s) d true = h s d
      go (some s) d false = r.1.0

  on_option : {A : Type 0} (o : Option A) (x : Answer) (next : A → Answer) → (o ≡ none → P x) → ((a : A) → o ≡ some a → P (next a)) → P (case_option o x next)
  on_option none x next p h = p refl
  on_option (some a) x next p h = h a refl

  on_test : (t : Bool) (x y : Answer) → P x → P y → P (if t then x else y)
  on_test true x y p q = p
  on_test false x y p q = q

  -- An entry from image to image, by what its function gives.
  pub on-entry : (f : Store → Outcome) → ((s : Store) → Good Valid s → Gives (f s)) → (b : Bytes) (out : ℕ) → ((n : ℕ) → (n ≡ 0 → ⊥) → P (refusal n)) →
      ((s u : Store) → decode b ≡ some s → f s ≡ give u → Good Valid u → P (answer 0 u)) → P (image_entry f b out)
  on-entry f k b out p h = on-image b (leb image_room out) (λ s. outcome (f s)) (p 1 (omega arith), (p 2 (omega arith), tt)) (λ s d. go s d (f s) refl (k s (lent-good b s d)))
    where
      go : (s : Store) → decode b ≡ some s → (o : Outcome) → f s ≡ o → Gives o → P (outcome o)
      go s d (refuse n) e g = p n g
      go s d (give u) e g = h s u d e g

  -- A commit with either end.
  on-ending : (ends : List (Store → List Step)) (b : Bytes) (out : ℕ) → Refusals commit_refusals →
      ((s : Store) → decode b ≡ some s → P (answer (commit_number (commit_fault s)) (ending_at ends (length (plan_ending ends s)) s))) → P (on_image b (leb image_room out) (ending_store ends))
  unfolding ending_store
  on-ending ends b out r h = on-image b (leb image_room out) (ending_store ends) (r.0, (r.1.0, tt)) λ s d.
      on_option (transaction s) (refusal 4) (λ ops. answer (commit_number (commit_fault s)) (ending_at ends (length (plan_ending ends s)) s)) (λ e. r.1.1.0) (λ ops e. h s d)

  pub on-commit : (b : Bytes) (out : ℕ) → Refusals commit_refusals →
      ((s : Store) → decode b ≡ some s → P (answer (commit_number (commit_fault s)) (committed_at (length (commit_plan s)) s))) → P (commit b out)
  unfolding commit
  on-commit b out r h = on-ending commit_end b out r h

  pub on-hold : (b : Bytes) (out : ℕ) → Refusals commit_refusals →
      ((s : Store) → decode b ≡ some s → P (answer (commit_number (commit_fault s)) (held_at (length (hold_plan s)) s))) → P (hold b out)
  unfolding hold
  on-hold b out r h = on-ending hold_end b out r h

  pub on-keep : (b : Bytes) (out : ℕ) → Refusals keep_refusals → ((s : Store) → decode b ≡ some s → P (answer 0 (kept s))) → P (keep b out)
  unfolding keep keep_store
  on-keep b out r h = on-image b (leb image_room out) keep_store (r.0, (r.1.0, tt)) λ s d. on_test (is_held (journal s.log)) (answer 0 (kept s)) (refusal 18) (h s d) r.1.1.0

  pub on-revert : (b : Bytes) (out : ℕ) → Refusals revert_refusals → ((s : Store) → decode b ≡ some s → P (answer 0 (reverted s))) → P (revert b out)
  unfolding revert revert_store
  on-revert b out r h =
      on-image b (leb image_room out) revert_store (r.0, (r.1.0, tt)) λ s d.
      on_test (is_held (journal s.log)) _ (refusal 18)
      (on_option (recover_fault (unheld (journal s.log)) s.tree) (answer 0 (reverted s)) refusal (λ e. h s d) (λ n e. all_in (λ n. P (refusal n)) (11 ∷ 12 ∷ 13 ∷ []) r.1.1.1 n (recover-numbers [] (unheld (journal s.log)) s.tree n e)))
      r.1.1.0

  pub on-recover : (b : Bytes) (out : ℕ) → Refusals recover_refusals → ((s : Store) → decode b ≡ some s → P (answer 0 (recovered s))) → P (recover b out)
  unfolding recover recover_store
  on-recover b out r h = on-image b (leb image_room out) recover_store (r.0, (r.1.0, tt)) λ s d.
      on_option (recover_fault (journal s.log) s.tree) (answer 0 (recovered s)) refusal (λ e. h s d) (λ n e. all_in (λ n. P (refusal n)) (11 ∷ 12 ∷ 13 ∷ []) r.1.1 n (recover-numbers [] (journal s.log) s.tree n e))

  -- The step entries.
  on-ending-step : (ends : List (Store → List Step)) (n : ℕ) (b : Bytes) (out stepOut : ℕ) → Refusals commit_step_refusals → ((s : Store) → decode b ≡ some s → P (at_step n (plan_ending ends s) (ending_at ends n s))) → P (step_entry (ending_step ends n) b out stepOut)
  on-ending-step ends n b out stepOut r h = on-image b (leb image_room out && leb step_room stepOut) (ending_step ends n) (r.0, (r.1.0, tt)) λ s d.
      on_option (transaction s) (refusal 4) (λ ops. step_answer n (plan_ending ends s) (ending_at ends n s)) (λ e. r.1.1.0) λ ops e.
      on_test (leb n (length (plan_ending ends s))) (at_step n (plan_ending ends s) (ending_at ends n s)) (refusal 16) (h s d) r.1.1.1.0

  pub on-commit-step : (n : ℕ) (b : Bytes) (out stepOut : ℕ) → Refusals commit_step_refusals → ((s : Store) → decode b ≡ some s → P (at_step n (commit_plan s) (committed_at n s))) → P (commit_step n b out stepOut)
  unfolding commit_step
  on-commit-step n b out stepOut r h = on-ending-step commit_end n b out stepOut r h

  pub on-hold-step : (n : ℕ) (b : Bytes) (out stepOut : ℕ) → Refusals commit_step_refusals → ((s : Store) → decode b ≡ some s → P (at_step n (hold_plan s) (held_at n s))) → P (hold_step n b out stepOut)
  unfolding hold_step
  on-hold-step n b out stepOut r h = on-ending-step hold_end n b out stepOut r h

  pub on-keep-step : (n : ℕ) (b : Bytes) (out stepOut : ℕ) → Refusals keep_step_refusals → ((s : Store) → decode b ≡ some s → P (at_step n (keep_plan (without_mark s)) (kept_at n s))) → P (keep_step n b out stepOut)
  unfolding keep_step
  on-keep-step n b out stepOut r h = on-image b (leb image_room out && leb step_room stepOut) (λ s. if_held s (step_answer n (keep_plan (without_mark s)) (kept_at n s))) (r.0, (r.1.0, tt)) λ s d.
      on_test (is_held (journal s.log)) (step_answer n (keep_plan (without_mark s)) (kept_at n s)) (refusal 18)
      (on_test (leb n (length (keep_plan (without_mark s)))) (at_step n (keep_plan (without_mark s)) (kept_at n s)) (refusal 16) (h s d) r.1.1.1.0) r.1.1.0

  pub on-revert-step : (n : ℕ) (b : Bytes) (out stepOut : ℕ) → Refusals revert_step_refusals → ((s : Store) → decode b ≡ some s → P (at_step n (revert_plan (without_mark s)) (reverted_at n s))) → P (revert_step n b out stepOut)
  unfolding revert_step
  on-revert-step n b out stepOut r h =
      on-image b (leb image_room out && leb step_room stepOut) (λ s. if_held s (case_option (recover_fault (unheld (journal s.log)) s.tree) (step_answer n (revert_plan (without_mark s)) (reverted_at n s)) refusal)) (r.0, (r.1.0, tt)) λ s d.
      on_test (is_held (journal s.log)) _ (refusal 18)
      (on_option (recover_fault (unheld (journal s.log)) s.tree) (step_answer n (revert_plan (without_mark s)) (reverted_at n s)) refusal
      (λ e. on_test (leb n (length (revert_plan (without_mark s)))) (at_step n (revert_plan (without_mark s)) (reverted_at n s)) (refusal 16) (h s d) r.1.1.1.1.1.1.0)
      (λ m e. all_in (λ m. P (refusal m)) (11 ∷ 12 ∷ 13 ∷ 16 ∷ []) r.1.1.1 m (recover-numbers (16 ∷ []) (unheld (journal s.log)) s.tree m e)))
      r.1.1.0

  pub on-recover-step : (n : ℕ) (b : Bytes) (out stepOut : ℕ) → Refusals recover_step_refusals → ((s : Store) → decode b ≡ some s → P (at_step n (recover_plan (without_mark s)) (recovered_at n s))) → P (recover_step n b out stepOut)
  unfolding recover_step
  on-recover-step n b out stepOut r h = on-image b (leb image_room out && leb step_room stepOut) (λ s. case_option (recover_fault (journal s.log) s.tree) (step_answer n (recover_plan (without_mark s)) (recovered_at n s)) refusal) (r.0, (r.1.0, tt)) λ s d.
      on_option (recover_fault (journal s.log) s.tree) (step_answer n (recover_plan (without_mark s)) (recovered_at n s)) refusal
      (λ e. on_test (leb n (length (recover_plan (without_mark s)))) (at_step n (recover_plan (without_mark s)) (recovered_at n s)) (refusal 16) (h s d) r.1.1.1.1.1.0)
      (λ m e. all_in (λ m. P (refusal m)) (11 ∷ 12 ∷ 13 ∷ 16 ∷ []) r.1.1 m (recover-numbers (16 ∷ []) (journal s.log) s.tree m e))

  -- The key list.
  pub on-list-keys : (c : Name) (b : Bytes) (out : ℕ) → Refusals list_keys_refusals → ((s : Store) → decode b ≡ some s → P (record { number = 0; image = key_list c s; step = [] })) → P (list_keys c b out)
  unfolding list_keys
  on-list-keys c b out r h = on-image b (leb keys_room out) (λ s. if valid_name c then record { number = 0; image = key_list c s; step = [] } else refusal 6) (r.0, (r.1.0, tt)) λ s d.
      on_test (valid_name c) (record { number = 0; image = key_list c s; step = [] }) (refusal 6) (h s d) r.1.1.0

  -- The search for a backup.
  pub on-find-backup : (b : Bytes) (out : ℕ) → Refusals find_backup_refusals → ((s : Store) → decode b ≡ some s → P (record { number = 0; image = encode_fields (hit_fields (first_backup s.tree)); step = [] })) → P (find_backup b out)
  unfolding find_backup
  on-find-backup b out r h = on-image b (leb hit_room out) (λ s. record { number = 0; image = encode_fields (hit_fields (first_backup s.tree)); step = [] }) (r.0, (r.1.0, tt)) h

  -- The inventory.
  pub on-inventory : (b : Bytes) (out : ℕ) → Refusals (1 ∷ 2 ∷ []) → ((s : Store) → decode b ≡ some s → P (record { number = 0; image = inventory_text s.tree; step = [] })) → P (inventory b out)
  unfolding inventory
  on-inventory b out r h = on-image b true (λ s. in_room (inventory_text s.tree) out) r λ s d.
      on_test (leb (length (inventory_text s.tree)) out) (record { number = 0; image = inventory_text s.tree; step = [] }) (refusal 2) (h s d) r.1.0
