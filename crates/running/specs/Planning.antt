-- What an entry answers that runs a plan, by the plan that it names.
use Rattle.std.specs.Prelude.{◌≡◌, true, false, ℕ, Option, None, Some, Result, Ok, Err}
use Rattle.basics.specs.Base.{Bytes, case_option}
use Rattle.model.specs.Log.{journal}
use Rattle.model.specs.Store as model
use Rattle.model.specs.Plan.{commit_end, hold_end, unheld, recover_fault, discarded_cause, recover_plan, recovered_at, revert_plan, reverted_at, keep_plan, kept_at, without_mark}
use Rattle.answers.specs.Answers.{Answer, Broke, refusal, answer, step_answer, if_held}
use Rattle.answers.specs.Answers.{commit_store, hold_store, recover_store, revert_store, keep_store, commit, hold, recover, recover_cause, revert, revert_cause, keep}
use Rattle.answers.specs.Answers.{ending_step, commit_step, hold_step, recover_step, revert_step, keep_step}
use Rattle.refusals.specs.Numbers.{number_of, number_if}
use Rattle.refusals.specs.declared.Refusal.{Refusal}
use Rattle.store.specs.Stores.{store_of}
use Rattle.store.specs.declared.Store.{Store}
use Rattle.steps.specs.CodeRuns.{SoundRun}
use Rattle.wal.specs.Logs.{cause_if}
use Rattle.wal.specs.declared.Cause.{Cause}
use Rattle.commit.specs.declared.End.{End}
use Rattle.commit.specs.declared.End.TheVariants as end
use Rattle.recovery.specs.declared.Recovered.{Recovered}
use Rattle.handover.specs.Contract.{hands_back, Gives, CauseGives, Part, before, after}
use Rattle.handover.specs.Opening.{stepped}
use Rattle.running.specs.declared.Planned.{Planned}
use Rattle.running.specs.declared.Planned.TheVariants.{Commit, Hold, Recover, Revert, Keep}
use Rattle.running.specs.declared.Ran.{Ran}
use Rattle.running.specs.declared.HandedBack.{HandedBack}

-- The whole plan, and its first n steps.
abbrev pub plan_store : Planned → model.Store → Answer
plan_store Commit = commit_store
plan_store Hold = hold_store
plan_store Recover = recover_store
plan_store Revert = revert_store
plan_store Keep = keep_store

abbrev pub plan_at : Planned → ℕ → model.Store → Answer
plan_at Commit n = ending_step commit_end n
plan_at Hold n = ending_step hold_end n
plan_at Recover n = λ s. case_option (recover_fault (journal s.log) s.tree) (step_answer n (recover_plan (without_mark s)) (recovered_at n s)) refusal
plan_at Revert n = λ s.
    if_held s (case_option (recover_fault (unheld (journal s.log)) s.tree) (step_answer n (revert_plan (without_mark s)) (reverted_at n s)) refusal)
plan_at Keep n = λ s. if_held s (step_answer n (keep_plan (without_mark s)) (kept_at n s))

-- How the log broke that the plan discards. A commit discards none, and keep reads none.
abbrev pub plan_cause : Planned → model.Store → ℕ
plan_cause Commit s = 0
plan_cause Hold s = 0
plan_cause Recover s = discarded_cause (journal s.log)
plan_cause Revert s = discarded_cause (unheld (journal s.log))
plan_cause Keep s = 0

-- The entries of the model's Answers.
abbrev pub plan_entry : Planned → Bytes → ℕ → Answer
plan_entry Commit = commit
plan_entry Hold = hold
plan_entry Recover = recover
plan_entry Revert = revert
plan_entry Keep = keep

abbrev pub plan_broke : Planned → Bytes → ℕ → Broke
plan_broke Commit b out = record { number = (commit b out).number; cause = 0 }
plan_broke Hold b out = record { number = (hold b out).number; cause = 0 }
plan_broke Recover b out = recover_cause b out
plan_broke Revert b out = revert_cause b out
plan_broke Keep b out = record { number = (keep b out).number; cause = 0 }

abbrev pub plan_step_entry : Planned → ℕ → Bytes → ℕ → ℕ → Answer
plan_step_entry Commit = commit_step
plan_step_entry Hold = hold_step
plan_step_entry Recover = recover_step
plan_step_entry Revert = revert_step
plan_step_entry Keep = keep_step

-- A commit that ends in one of its two ways.
abbrev pub commit_of : End → Planned
commit_of end.Remove = Commit
commit_of end.Hold = Hold

-- What recovery, revert or keep leaves.
abbrev pub ran_of : Recovered → Ran
ran_of r = record { run = r.run; refusal = None; cause = r.cause }

-- A plan that is refused: nothing is handed back.
pub record RefusedWith (p : Planned) (image : Bytes) (s : Store) (budget : Option ℕ) (e : Refusal) : Type 0 where
  pub whole : budget ≡ None → plan_store p (store_of image s) ≡ refusal (number_of e)
  pub cut : (n : ℕ) → budget ≡ Some n → plan_at p n (store_of image s) ≡ refusal (number_of e)
  pub alone : hands_back (number_of e) ≡ false

-- A plan that was run.
pub record Leaves (p : Planned) (image : Bytes) (s : Store) (budget : Option ℕ) (r : Ran) : Type 0 where
  pub cause : cause_if r.cause ≡ plan_cause p (store_of image s)
  pub sound : SoundRun image r.run
  pub whole : budget ≡ None → plan_store p (store_of image s) ≡ answer (number_if r.refusal) (store_of image r.run.store)
  pub cut : (n : ℕ) → budget ≡ Some n → plan_at p n (store_of image s) ≡ stepped image r.run n
  pub told : budget ≡ None → hands_back (number_if r.refusal) ≡ true

-- What `run` answers.
abbrev pub Runs : Planned → Bytes → Store → Option ℕ → Result Ran Refusal → Type 0
Runs p image s budget (Ok r) = Leaves p image s budget r
Runs p image s budget (Err e) = RefusedWith p image s budget e

-- What a call of a whole plan tells: its number, the counter and the cause, of those that were. How the log broke is told where no step failed.
abbrev pub cause_after : Option Refusal → Option Cause → ℕ → ℕ
cause_after None c was = cause_if c
cause_after (Some e) c was = was

abbrev pub number_back : Result HandedBack Refusal → ℕ
number_back (Ok h) = number_if h.refusal
number_back (Err e) = number_of e

abbrev pub written_back : Result HandedBack Refusal → ℕ → ℕ
written_back (Ok h) was = h.written
written_back (Err e) was = was

abbrev pub cause_back : Result HandedBack Refusal → ℕ → ℕ
cause_back (Ok h) was = cause_after h.refusal h.cause was
cause_back (Err e) was = was

-- Such a call, whatever the counter and the cause were.
abbrev pub Ends : Answer → Broke → Result HandedBack Refusal → Part Bytes → Type 0
Ends a b r out =
    (written cause : ℕ) → Gives a (number_back r) (before out) (after out) written (written_back r written) × CauseGives b (number_back r) cause (cause_back r cause)
