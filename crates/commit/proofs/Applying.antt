-- `apply_inner`: the operations' names, the start, and what the run comes to.
use Rattle.std.specs.Prelude.{Option, None, Some}
use mathlib.Core.Path.{◌≡◌, sym, ap, subst, ◌∙◌}
use mathlib.Core.List.{List, map}
use Prim.Native.Nat.{ℕ}
use Rattle.basics.specs.Base.{Bytes}
use Rattle.model.specs.Operation.{Op}
use Rattle.model.specs.Log.{journal, ops_of}
use Rattle.model.specs.Store as model
use Rattle.model.specs.Step.{apply, commit_number}
use Rattle.model.specs.Plan.{operation_steps, commit_fault, plan_ending}
use Rattle.basic_laws.specs.Tests.{All}
use Rattle.laws.specs.OperationLaws.{ValidOp, journal-valid}
use Rattle.refusals.specs.Numbers.{number_if}
use Rattle.refusals.specs.declared.Refusal.{Refusal}
use Rattle.store.specs.Stores.{log_bytes, store_of}
use Rattle.store.specs.declared.Store.{Store}
use Rattle.plans.proofs.RunLaws.{refusal-kept}
use Rattle.plans.proofs.Endings.{Ends}
use Rattle.plans.specs.Runs.{Cut, Whole}
use Rattle.plans.proofs.Budget.{limited_prefix, unlimited_whole}
use Rattle.plans.specs.ModelPlans.{plain, careful}
use Rattle.plans.specs.ModelPlans.{commit_start, end_behind, commit_undo}
use Rattle.plans.proofs.ModelAnswers.{ending-commits}
use Rattle.steps.specs.declared.Run.{Run}
use Rattle.steps.specs.CodeRuns.{ModelRun, run_of, limited_by, left_of, SoundRun, Fresh, Follows}
use Rattle.steps.proofs.Running.{some-number}
use Rattle.transaction.specs.Operations.{op_of}
use Rattle.transaction.specs.declared.Operation.{Operation}
use Rattle.commit.specs.declared.End.{End}
use Rattle.commit.specs.Commits.{end_of, Commits}

module _ (src : Bytes) (s : Store) (ops : List Operation) (o : map (op_of src) ops ≡ ops_of (journal (log_bytes src s.log))) where
  -- Every operation of a log has valid names.
  pub read-valid : All ValidOp (map (op_of src) ops)
  read-valid = subst (All ValidOp) (sym o) (journal-valid (log_bytes src s.log))

  module _ (end : End) {budget : Option ℕ} {start begun tried : Run} (f : Fresh s budget start) (p : Follows plain src commit_start start begun) (q : Follows careful src (operation_steps (map (op_of src) ops)) begun tried) where
    started : store_of src start.store ≡ store_of src s
    started = ap (store_of src) f.store

    ops-read : map (op_of src) ops ≡ ops_of (journal (log_bytes src start.store.log))
    ops-read = o ∙ ap (λ (t : Store). ops_of (journal (log_bytes src t.log))) (sym f.store)

    no-refusal : number_if begun.refusal ≡ 0
    no-refusal = ap (λ (r : ModelRun). r.refusal) p.does.ran ∙ refusal-kept apply (commit_start (store_of src start.store)) (run_of src start) ∙ ap number_if f.refusal

    ended : (r : Run) → (number_if tried.refusal ≡ 0 → Follows plain src (end_behind (end_of end) (map (op_of src) ops)) tried r) → ((number_if tried.refusal ≡ 0 → ⊥) → Follows plain src (commit_undo (map (op_of src) ops)) tried r)
        → Ends apply (plan_ending (end_of end)) (λ u. commit_number (commit_fault u)) (run_of src start) (run_of src r)
    ended r g h =
        ending-commits (end_of end) p.does no-refusal (subst (λ (l : List Op). Follows careful src (operation_steps l) begun tried) ops-read q).does
        (λ z. (subst (λ (l : List Op). Follows plain src (end_behind (end_of end) l) tried r) ops-read (g z)).does)
        (λ z. (subst (λ (l : List Op). Follows plain src (commit_undo l) tried r) ops-read (h z)).does)

    comes_to : (r : Run) → SoundRun src r → Ends apply (plan_ending (end_of end)) (λ u. commit_number (commit_fault u)) (run_of src start) (run_of src r) → Commits end src s budget r
    comes_to r g e = record {
      sound = g;
      cut = λ n l. subst (λ (v : model.Store). Cut apply (plan_ending (end_of end) v) n v (run_of src r)) started (limited_prefix apply e f.stopped n (ap limited_by (f.budget ∙ l)) (ap left_of (f.budget ∙ l)));
      whole = all_done;
      number = λ l. e.number (all_done l).stopped ∙ ap (λ (v : model.Store). commit_number (commit_fault v)) started;
    }
      where
        all_done : budget ≡ None → Whole apply (plan_ending (end_of end) (store_of src s)) (store_of src s) (run_of src r)
        all_done l = subst (λ (v : model.Store). Whole apply (plan_ending (end_of end) v) v (run_of src r)) started (unlimited_whole apply e f.stopped (ap limited_by (f.budget ∙ l)))

    -- Where no step failed, and where one did.
    pub finished : {r : Run} → tried.refusal ≡ None → Follows plain src (end_behind (end_of end) (map (op_of src) ops)) tried r → Commits end src s budget r
    finished {r} z d = comes_to r d.sound (ended r (λ h. d) (λ h. absurd (h (ap number_if z))))

    pub rolled_back : {r : Run} → (x : Refusal) × (tried.refusal ≡ Some x) → Follows plain src (commit_undo (map (op_of src) ops)) tried r → Commits end src s budget r
    rolled_back {r} z d = comes_to r d.sound (ended r (λ h. absurd (some-number z.0 (sym (ap number_if z.1) ∙ h))) (λ h. d))
