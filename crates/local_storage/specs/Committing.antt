-- What `commit` answers.
use Rattle.std.specs.Prelude.{◌≡◌, true, ℕ, suc, ◌≤◌, length, leb, eqb, Option, None, Some, Result, Ok, Err}
use Rattle.std.proofs.Math.Option.{none}
use Rattle.basics.specs.Base.{Bytes, is_some}
use Rattle.model.specs.Step.{step_field, commit_number, field_at}
use Rattle.model.specs.Plan.{commit_fault, plan_ending, ending_at}
use Rattle.model.specs.Record.{transaction}
use Rattle.refusals.specs.Numbers.{number_of, number_if}
use Rattle.refusals.specs.declared.Refusal.{Refusal}
use Rattle.store.specs.Stores.{store_of}
use Rattle.store.specs.declared.Store.{Store}
use Rattle.steps.specs.Steps.{step_of}
use Rattle.steps.specs.CodeRuns.{SoundRun, left_of}
use Rattle.steps.specs.declared.Run.{Run}
use Rattle.commit.specs.Commits.{end_of}
use Rattle.commit.specs.declared.End.{End}
use Rattle.local_storage.specs.declared.Committed.{Committed}

-- Where a transaction is found: 14, 15 or 0, with the store that the plan makes. With a budget of n the store after n steps and the field of step n;
-- 01, Sixteen numbers, "16. The step number is past the plan's end": where some of the n steps are left.
pub record Ended (end : End) (src : Bytes) (s : Store) (budget : Option ℕ) (r : Run) : Type 0 where
  pub number : budget ≡ None → number_if r.refusal ≡ commit_number (commit_fault (store_of src s))
  pub whole : budget ≡ None → store_of src r.store ≡ ending_at (end_of end) (length (plan_ending (end_of end) (store_of src s))) (store_of src s)
  pub cut : (n : ℕ) → budget ≡ Some n → store_of src r.store ≡ ending_at (end_of end) n (store_of src s)
  pub past : (n : ℕ) → budget ≡ Some n → leb n (length (plan_ending (end_of end) (store_of src s))) ≡ eqb (left_of r.budget) 0
  pub field : (n k : ℕ) → budget ≡ Some n → n ≡ suc k → n ≤ length (plan_ending (end_of end) (store_of src s)) → field_at n (plan_ending (end_of end) (store_of src s)) ≡ step_field (step_of src r.last)

-- 01, Sixteen numbers: 4 where no transaction is found; then the store is the one that came in.
abbrev pub Found : End → Bytes → Store → Option ℕ → Run → Result (Unit {0}) Refusal → Type 0
Found end src s budget r (Ok u) = (is_some (transaction (store_of src s)) ≡ true) × Ended end src s budget r
Found end src s budget r (Err e) = ((transaction (store_of src s) ≡ none) × (number_of e ≡ 4)) × (r.store ≡ s)

pub record Commits (end : End) (src : Bytes) (s : Store) (budget : Option ℕ) (r : Committed) : Type 0 where
  pub sound : SoundRun src r.run
  pub found : Found end src s budget r.run r.found
