-- What `apply_inner` answers.
use Rattle.std.specs.Prelude.{◌≡◌, List, ℕ, Option, None, Some}
use Rattle.basics.specs.Base.{Bytes}
use Rattle.model.specs.Step.{Step, apply, commit_number}
use Rattle.model.specs.Plan.{commit_end, hold_end, commit_fault, plan_ending}
use Rattle.model.specs.Store as model
use Rattle.refusals.specs.Numbers.{number_if}
use Rattle.store.specs.Stores.{store_of}
use Rattle.store.specs.declared.Store.{Store}
use Rattle.plans.specs.Runs.{Cut, Whole}
use Rattle.steps.specs.declared.Run.{Run}
use Rattle.steps.specs.CodeRuns.{run_of, SoundRun}
use Rattle.commit.specs.declared.End.{End}
use Rattle.commit.specs.declared.End.TheVariants.{Remove, Hold}

-- How a commit ends: the ordinary one, and the held one (02, item 6).
abbrev pub end_of : End → List (model.Store → List Step)
end_of Remove = commit_end
end_of Hold = hold_end

-- A run that did commit's plan: its first n steps where it had a budget of n, else all, with the number of the step that failed, 0 for none.
-- `committed-cut`, `held_cut` and the laws beside them, of crate plans, give the model's stores.
pub record Commits (end : End) (src : Bytes) (s : Store) (budget : Option ℕ) (r : Run) : Type 0 where
  pub sound : SoundRun src r
  pub cut : (n : ℕ) → budget ≡ Some n → Cut apply (plan_ending (end_of end) (store_of src s)) n (store_of src s) (run_of src r)
  pub whole : budget ≡ None → Whole apply (plan_ending (end_of end) (store_of src s)) (store_of src s) (run_of src r)
  pub number : budget ≡ None → number_if r.refusal ≡ commit_number (commit_fault (store_of src s))
