-- What `recover`, `revert` and `keep` answer.
use Rattle.std.specs.Prelude.{◌≡◌, List, [], ℕ, take, drop, Option, None, Some, Result, Ok, Err, if◌then◌else◌}
use Rattle.std.proofs.Math.Option as maths
use Rattle.std.proofs.Math.Option.{none, some}
use Rattle.basics.specs.Base.{Bytes, case_option}
use Rattle.model.specs.Log.{Journal, is_held, journal}
use Rattle.model.specs.Store as model
use Rattle.model.specs.Step.{Step, apply}
use Rattle.model.specs.Plan.{in_sequence, without_mark, recover_fault, discarded_cause, recover_parts, recover_plan, unheld, revert_plan, keep_plan}
use Rattle.refusals.specs.Numbers.{number_of}
use Rattle.refusals.specs.declared.Refusal.{Refusal}
use Rattle.store.specs.Stores.{store_of}
use Rattle.store.specs.declared.LogRef.{LogRef}
use Rattle.store.specs.declared.Store.{Store}
use Rattle.plans.specs.Runs.{Cut, Whole}
use Rattle.steps.specs.declared.Run.{Run}
use Rattle.steps.specs.CodeRuns.{run_of, SoundRun, Fresh}
use Rattle.wal.specs.Logs.{cause_if}
use Rattle.recovery.specs.declared.Recovered.{Recovered}

-- The bytes of such a log.
abbrev pub log_part : Bytes → Option LogRef → Bytes
log_part src None = []
log_part src (Some l) = take l.len (drop l.start src)

-- The number of a refusal, 0 for none.
abbrev pub refusal_of : maths.Option ℕ → ℕ
refusal_of o = case_option o 0 (λ n. n)

-- Work on a store as a stopped run left it: why it is refused, the cause of the truncated log that it discards, its steps.
pub record Work : Type 0 where
  pub fault : maths.Option ℕ
  pub cause : ℕ
  pub steps : List Step

-- Recovery, where the log is taken for this one.
abbrev pub recovery_from : Journal → model.Store → Work
recovery_from j s = record { fault = recover_fault j s.tree; cause = discarded_cause j; steps = in_sequence (recover_parts j) (without_mark s) }

abbrev pub recovery : model.Store → Work
recovery s = record { fault = recover_fault (journal s.log) s.tree; cause = discarded_cause (journal s.log); steps = recover_plan (without_mark s) }

-- 02, item 6: revert and keep; "18, keep or revert without a Held log".
abbrev pub if_held : model.Store → maths.Option ℕ → maths.Option ℕ
if_held s fault = if is_held (journal s.log) then fault else some 18

abbrev pub reverting : model.Store → Work
reverting s = record {
  fault = if_held s (recover_fault (unheld (journal s.log)) s.tree);
  cause = discarded_cause (unheld (journal s.log));
  steps = revert_plan (without_mark s);
}

abbrev pub keeping : model.Store → Work
keeping s = record { fault = if_held s none; cause = 0; steps = keep_plan (without_mark s) }

-- A run of which no step is done, on a store whose open mark is dropped.
pub record Begun (src : Bytes) (s : Store) (budget : Option ℕ) (r : Run) : Type 0 where
  pub sound : SoundRun src r
  pub tree : r.store.tree ≡ s.tree
  pub store : store_of src r.store ≡ without_mark (store_of src s)
  pub fresh : Fresh r.store budget r

-- A run that did these steps: the first n where it had a budget of n, else all. `done_at` and `done-is` (RecoveryLaws) give the model's stores.
pub record Ran (steps : List Step) (src : Bytes) (s : Store) (budget : Option ℕ) (r : Run) : Type 0 where
  pub sound : SoundRun src r
  pub cut : (n : ℕ) → budget ≡ Some n → Cut apply steps n (without_mark (store_of src s)) (run_of src r)
  pub whole : budget ≡ None → Whole apply steps (without_mark (store_of src s)) (run_of src r)

pub record Done (w : Work) (src : Bytes) (s : Store) (budget : Option ℕ) (r : Recovered) : Type 0 where
  pub allowed : w.fault ≡ none
  pub cause : cause_if r.cause ≡ w.cause
  pub ran : Ran w.steps src s budget r.run

-- 01, Sixteen numbers: 11, 12 and 13, or the plan; 02, item 1: the cause; item 6: 18.
abbrev pub Recovers : Work → Bytes → Store → Option ℕ → Result Recovered Refusal → Type 0
Recovers w src s budget (Ok r) = Done w src s budget r
Recovers w src s budget (Err e) = w.fault ≡ some (number_of e)
