-- Commit and recovery as runs, and what their answers read off a run: model Plan and Answers.
use Rattle.std.specs.Prelude.{◌≡◌, refl, Bool, true, false, take, drop, ltb, if◌then◌else◌}
use Rattle.std.proofs.Math.Path.{sym, ap}
use Rattle.std.proofs.Common.{◌∙◌, ltb-true, ltb-false}
use mathlib.Core.List.{List, ◌∷◌, ◌++◌}
use Rattle.std.proofs.Math.Option.{Option, none, some}
use Prim.Native.Nat.{ℕ, suc, ◌-◌, ◌≤◌}
use native.Mathlib.Omega.{arith}
use Rattle.std.proofs.Math.ListN.{length}
use Rattle.std.proofs.Math.Seq.{take-length}
use Rattle.basics.specs.Base.{case_option}
use Rattle.model.specs.Operation.{Op}
use Rattle.model.specs.Log.{journal, ops_of}
use Rattle.model.specs.Store.{Store}
use Rattle.model.specs.Step as model
use Rattle.model.specs.Step.{Step, rewrite_header, sync_staging, sync_log, apply, step_field, Fault, fails, full, commit_number, field_at}
use Rattle.model.specs.Plan as plan
use Rattle.model.specs.Plan.{plan_ending, ending_at, hold_plan, held_at, revert_plan, reverted_at, reverted, keep_plan, kept_at, kept, in_sequence, operation_steps, first_fault, steps_before_fault, commit_fault, commit_parts, commit_plan, without_mark, without_mark_at_end, committed_at, recover_plan, recovered_at, recovered, shut_at, shut}
use Rattle.plans.specs.Machine.{apply_all, seq, Does}
use Rattle.plans.specs.Runs.{Run, fault_in, up_to, cut, or_else}
use Rattle.plans.proofs.Endings.{Ends, before, decide, ends_as}
use Rattle.plans.specs.Runs.{Cut, Whole}
use Rattle.plans.specs.ModelPlans.{commit_start, end_behind, commit_end, hold_end, commit_undo, fault, plain, careful, apply-all, turn-of, first-fault, before-fault, no-fault}

-- Operations that may fail, and one of two ends behind them, as the model's parts in sequence.
module _ (p : Store → List Step) (fs gs : List (Store → List Step)) (u : Store) where
  some_way : (cut_at : List Step) (rest : List (Store → List Step)) → up_to apply fault (p u) u ≡ cut_at → seq apply (cut apply fault p) (in_sequence rest) u ≡ cut_at ++ in_sequence rest (model.apply_all cut_at u)
  some_way xs rest e = turn-of (cut apply fault p) (λ s. refl) u ∙ ap (λ (ys : List Step). ys ++ in_sequence rest (model.apply_all ys u)) e

  or_else_lem : (o : Option Fault) → first_fault (p u) u ≡ o → or_else apply fault p (in_sequence fs) (in_sequence gs) u ≡ case_option o (in_sequence (p ∷ fs) u) (λ e. in_sequence ((λ s. steps_before_fault (p s) s) ∷ gs) u)
  unfolding or_else
  or_else_lem none e = rw (first-fault (p u) u ∙ ap commit_number e) (some_way (p u) fs (before-fault (p u) u ∙ no-fault (p u) u e))
  or_else_lem (some fails) e = rw (first-fault (p u) u ∙ ap commit_number e) (some_way (steps_before_fault (p u) u) gs (before-fault (p u) u))
  or_else_lem (some full) e = rw (first-fault (p u) u ∙ ap commit_number e) (some_way (steps_before_fault (p u) u) gs (before-fault (p u) u))

syncs-idle : (u : Store) → apply sync_log (apply sync_staging u) ≡ u
unfolding apply
syncs-idle u = refl

module _ (ends : List (Store → List Step)) (s : Store) where
  abbrev ops : List Op
  ops = ops_of (journal s.log)

  abbrev tries : Store → List Step
  tries = or_else apply fault (operation_steps ops) (end_behind ends ops) (commit_undo ops)

  abbrev u : Store
  u = apply rewrite_header s

  commit-plan : seq apply commit_start tries s ≡ plan_ending ends s
  unfolding seq plan_ending commit_fault
  commit-plan = ap (λ (v : Store). rewrite_header ∷ sync_staging ∷ sync_log ∷ tries v) (syncs-idle u) ∙ ap (λ (xs : List Step). rewrite_header ∷ xs) (go (commit_fault s) refl)
    where
      at : (o : Option Fault) → commit_fault s ≡ o → tries u ≡ case_option o (in_sequence (drop 1 (commit_parts ends ops none)) u) (λ e. in_sequence (drop 1 (commit_parts ends ops (some fails))) u)
      at o e = or_else_lem (operation_steps ops) (drop 2 (commit_parts ends ops none)) (drop 2 (commit_parts ends ops (some fails))) u o e

      go : (o : Option Fault) → commit_fault s ≡ o → sync_staging ∷ sync_log ∷ tries u ≡ in_sequence (commit_parts ends ops o) u
      go none e = ap (λ (xs : List Step). sync_staging ∷ sync_log ∷ xs) (at none e ∙ ap (in_sequence (drop 1 (commit_parts ends ops none))) (sym (syncs-idle u)))
      go (some f) e = ap (λ (xs : List Step). sync_staging ∷ sync_log ∷ xs) (at (some f) e ∙ ap (in_sequence (drop 1 (commit_parts ends ops (some fails)))) (sym (syncs-idle u)))

  commit-fault : fault_in apply fault (operation_steps ops (apply_all apply (commit_start s) s)) (apply_all apply (commit_start s) s) ≡ commit_number (commit_fault s)
  unfolding commit_fault
  commit-fault = ap (λ (v : Store). fault_in apply fault (operation_steps ops v) v) (syncs-idle u) ∙ first-fault (operation_steps ops u) u

-- A commit with either end: the start, the operations carefully, and one of two ends by the refusal.
pub ending-commits : (ends : List (Store → List Step)) {a b c d : Run Store Step} → let ops : List Op = ops_of (journal a.store.log) in
    Does plain commit_start a b → b.refusal ≡ 0 → Does careful (operation_steps ops) b c → (c.refusal ≡ 0 → Does plain (end_behind ends ops) c d) → ((c.refusal ≡ 0 → ⊥) → Does plain (commit_undo ops) c d)
    → Ends apply (plan_ending ends) (λ s. commit_number (commit_fault s)) a d
ending-commits ends {a} {b} {c} {d} p z q f g =
    let ops : List Op = ops_of (journal a.store.log) in
    ends_as apply (before apply p (decide apply fault (end_behind ends ops) (commit_undo ops) q z f g)) (commit-plan ends a.store) (commit-fault ends a.store)

pub commits : {a b c d : Run Store Step} → let ops : List Op = ops_of (journal a.store.log) in
    Does plain commit_start a b → b.refusal ≡ 0 → Does careful (operation_steps ops) b c → (c.refusal ≡ 0 → Does plain (commit_end ops) c d) → ((c.refusal ≡ 0 → ⊥) → Does plain (commit_undo ops) c d)
    → Ends apply commit_plan (λ s. commit_number (commit_fault s)) a d
commits p z q f g = ending-commits plan.commit_end p z q f g

pub holds : {a b c d : Run Store Step} → let ops : List Op = ops_of (journal a.store.log) in
    Does plain commit_start a b → b.refusal ≡ 0 → Does careful (operation_steps ops) b c → (c.refusal ≡ 0 → Does plain (hold_end ops) c d) → ((c.refusal ≡ 0 → ⊥) → Does plain (commit_undo ops) c d)
    → Ends apply hold_plan (λ s. commit_number (commit_fault s)) a d
holds p z q f g = ending-commits plan.hold_end p z q f g

-- What the answers read off a run that was cut after n steps, or came to its end. 01, Listings and file steps: "The open mark 0x14 goes with
-- commit's last step": where the run did not stop.
pub field-at : {plan : List Step} {n : ℕ} {s : Store} {b : Run Store Step} → Cut apply plan n s b → (k : ℕ) → n ≡ suc k → n ≤ length plan → field_at n plan ≡ step_field b.last
field-at {plan} {n} {s} {b} c k e h = rw e (rw (c.last k e h))

mark-at : (n l : ℕ) (stopped : Bool) → stopped ≡ ltb n l → (v : Store) → without_mark_at_end (l - n) v ≡ (if stopped then v else without_mark v)
mark-at n l true e v =
    let h = ltb-true n l (sym e) in
    let k : l - n ≡ suc (l - n - 1) = omega arith in
    rw k
mark-at n l false e v =
    let h = ltb-false n l (sym e) in
    let k : l - n ≡ 0 = omega arith in
    rw k

module _ (s : Store) {b : Run Store Step} where
  ending-cut : (ends : List (Store → List Step)) {n : ℕ} → Cut apply (plan_ending ends s) n s b → ending_at ends n s ≡ (if b.stopped then b.store else without_mark b.store)
  unfolding ending_at
  ending-cut ends {n} c =
      let e : model.apply_all (take n (plan_ending ends s)) s ≡ b.store = sym (c.store ∙ apply-all (take n (plan_ending ends s)) s) in
      ap (without_mark_at_end (length (plan_ending ends s) - n)) e ∙ mark-at n (length (plan_ending ends s)) b.stopped c.stopped b.store

  ending-whole : (ends : List (Store → List Step)) → Whole apply (plan_ending ends s) s b → ending_at ends (length (plan_ending ends s)) s ≡ without_mark b.store
  unfolding ending_at
  ending-whole ends w =
      let l : ℕ = length (plan_ending ends s) in
      let k : l - l ≡ 0 = omega arith in
      rw (k, take-length (plan_ending ends s)) (ap without_mark (sym (w.store ∙ apply-all (plan_ending ends s) s)))

  pub committed-cut : {n : ℕ} → Cut apply (commit_plan s) n s b → committed_at n s ≡ (if b.stopped then b.store else without_mark b.store)
  committed-cut c = ending-cut plan.commit_end c

  pub committed-whole : Whole apply (commit_plan s) s b → committed_at (length (commit_plan s)) s ≡ without_mark b.store
  committed-whole w = ending-whole plan.commit_end w

  pub held_cut : {n : ℕ} → Cut apply (hold_plan s) n s b → held_at n s ≡ (if b.stopped then b.store else without_mark b.store)
  held_cut c = ending-cut plan.hold_end c

  pub held_whole : Whole apply (hold_plan s) s b → held_at (length (hold_plan s)) s ≡ without_mark b.store
  held_whole w = ending-whole plan.hold_end w

  -- Recovery, revert and keep.
  shut-cut : (plan : Store → List Step) {n : ℕ} → Cut apply (plan (without_mark s)) n (without_mark s) b → shut_at plan n s ≡ b.store
  shut-cut plan {n} c = sym (c.store ∙ apply-all (take n (plan (without_mark s))) (without_mark s))

  shut-whole : (plan : Store → List Step) → Whole apply (plan (without_mark s)) (without_mark s) b → shut plan s ≡ b.store
  shut-whole plan w = sym (w.store ∙ apply-all (plan (without_mark s)) (without_mark s))

  pub recovered-cut : {n : ℕ} → Cut apply (recover_plan (without_mark s)) n (without_mark s) b → recovered_at n s ≡ b.store
  unfolding recovered_at
  recovered-cut c = shut-cut recover_plan c

  pub recovered-whole : Whole apply (recover_plan (without_mark s)) (without_mark s) b → recovered s ≡ b.store
  unfolding recovered
  recovered-whole w = shut-whole recover_plan w

  pub reverted-cut : {n : ℕ} → Cut apply (revert_plan (without_mark s)) n (without_mark s) b → reverted_at n s ≡ b.store
  unfolding reverted_at
  reverted-cut c = shut-cut revert_plan c

  pub reverted-whole : Whole apply (revert_plan (without_mark s)) (without_mark s) b → reverted s ≡ b.store
  unfolding reverted
  reverted-whole w = shut-whole revert_plan w

  pub kept-cut : {n : ℕ} → Cut apply (keep_plan (without_mark s)) n (without_mark s) b → kept_at n s ≡ b.store
  unfolding kept_at
  kept-cut c = shut-cut keep_plan c

  pub kept_whole : Whole apply (keep_plan (without_mark s)) (without_mark s) b → kept s ≡ b.store
  unfolding kept
  kept_whole w = shut-whole keep_plan w
