-- What a `Run` stands for, and what the code does with one.
use Rattle.std.specs.Prelude.{◌≡◌, List, Bool, true, false, ℕ, Option, None, Some}
use Rattle.std.proofs.Math.Option.{some}
use Rattle.basics.specs.Base.{Bytes}
use Rattle.model.specs.Store as model
use Rattle.model.specs.Step as step
use Rattle.model.specs.Step.{step_fault, fails}
use Rattle.refusals.specs.Numbers.{number_if}
use Rattle.store.specs.Stores.{store_of}
use Rattle.store.specs.declared.Store.{Store}
use Rattle.plans.specs.Machine.{Machine, Does, single}
use Rattle.plans.specs.Runs as plans
use Rattle.plans.specs.ModelPlans.{careful}
use Rattle.steps.specs.declared.Run.{Run}
use Rattle.steps.specs.Steps.{step_of, SoundStep, Fits}

abbrev pub ModelRun : Type 0
ModelRun = plans.Run model.Store step.Step

-- A budget as the model has it: whether there is one, and what is left of it.
abbrev pub limited_by : Option ℕ → Bool
limited_by None = false
limited_by (Some n) = true

abbrev pub left_of : Option ℕ → ℕ
left_of None = 0
left_of (Some n) = n

abbrev pub run_of : Bytes → Run → ModelRun
run_of src w = record {
  store = store_of src w.store;
  limited = limited_by w.budget;
  left = left_of w.budget;
  stopped = w.stopped;
  last = step_of src w.last;
  refusal = number_if w.refusal;
}

-- What every run that the code holds meets.
pub record SoundRun (src : Bytes) (w : Run) : Type 0 where
  pub fits : Fits src w.store
  pub last : SoundStep src w.last

-- What `new` answers.
pub record Fresh (s : Store) (b : Option ℕ) (w : Run) : Type 0 where
  pub sound : (src : Bytes) → Fits src s → SoundRun src w
  pub store : w.store ≡ s
  pub budget : w.budget ≡ b
  pub stopped : w.stopped ≡ false
  pub refusal : w.refusal ≡ None

-- A run does the steps of a plan, with the plain machine or the careful one.
pub record Follows (m : Machine model.Store step.Step ModelRun) (src : Bytes) (plan : model.Store → List step.Step) (a b : Run) : Type 0 where
  pub sound : SoundRun src b
  pub does : Does m plan (run_of src a) (run_of src b)

-- What `refuse` answers: it does any one step that fails with 14.
pub record Refuses (src : Bytes) (a b : Run) : Type 0 where
  pub sound : SoundRun src a → SoundRun src b
  pub does : (x : step.Step) → step_fault x (store_of src a.store) ≡ some fails → Does careful (single x) (run_of src a) (run_of src b)
