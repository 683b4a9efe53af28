-- 02, item 1: "What recovery decides is the same for all three." Two stores with the same directories, files and staging files and with a
-- truncated Committing log of the same operations, each broken in its own way: recovery gives both the same answer but for the cause.
use Rattle.std.specs.Prelude.{◌≡◌, ℕ, suc, false, take}
use Rattle.std.proofs.Common.{sym, ap₂, ◌∙◌}
use mathlib.Core.List.{List, ◌∷◌, append-nil}
use Rattle.std.proofs.Math.Option.{none, some}
use Rattle.basics.specs.Map.{Map}
use Rattle.basics.specs.Base.{Bytes}
use Rattle.model.specs.Operation.{Op}
use Rattle.model.specs.Log.{Cause, truncated, committing, journal, cause_number}
use Rattle.model.specs.Store.{Store}
use Rattle.model.specs.Image.{decode}
use Rattle.model.specs.Step.{Step, remove_log, apply, apply_all}
use Rattle.model.specs.Plan.{recover_fault, recover_plan, recovered_at, recovered, remove_staging_files, without_mark}
use Rattle.answers.specs.Answers.{recover_store, recover, recover_step, recover_cause}

pub record BrokenAlike (s u : Store) : Type 0 where
  pub tree : s.tree ≡ u.tree
  pub staging : s.staging ≡ u.staging
  pub ops : List Op
  pub one : Cause
  pub other : Cause
  pub log : journal s.log ≡ committing ops (truncated one)
  pub other-log : journal u.log ≡ committing ops (truncated other)

-- What is left of a store once its log is discarded, and what recovery does.
abbrev unlogged : Map → Map → Store
unlogged t g = record { tree = t; staging = g; log = none; open_mark = false }

abbrev discarding : Map → Map → List Step
discarding t g = remove_log ∷ remove_staging_files (unlogged t g)

module _ (s : Store) (ops : List Op) (c : Cause) (e : journal s.log ≡ committing ops (truncated c)) where
  discards : recover_plan (without_mark s) ≡ discarding s.tree s.staging
  unfolding recover_plan apply
  discards = rw (e, append-nil (remove_staging_files (unlogged s.tree s.staging)))

  discarded-at : (n : ℕ) → recovered_at (suc n) s ≡ apply_all (take n (remove_staging_files (unlogged s.tree s.staging))) (unlogged s.tree s.staging)
  unfolding recovered_at apply
  discarded-at n = rw discards

  discarded : recovered s ≡ apply_all (remove_staging_files (unlogged s.tree s.staging)) (unlogged s.tree s.staging)
  unfolding recovered apply
  discarded = rw discards

module _ {s u : Store} (a : BrokenAlike s u) where
  same-fault : recover_fault (journal s.log) s.tree ≡ recover_fault (journal u.log) u.tree
  same-fault = rw (a.log, a.other-log, a.tree)

  same-plan : recover_plan (without_mark s) ≡ recover_plan (without_mark u)
  same-plan = discards s a.ops a.one a.log ∙ ap₂ discarding a.tree a.staging ∙ sym (discards u a.ops a.other a.other-log)

  same_end : recovered s ≡ recovered u
  same_end = discarded s a.ops a.one a.log ∙ ap₂ (λ (t g : Map). apply_all (remove_staging_files (unlogged t g)) (unlogged t g)) a.tree a.staging ∙ sym (discarded u a.ops a.other a.other-log)

  -- After each step, the log's removal on; before that each has its own log.
  same_at : (n : ℕ) → recovered_at (suc n) s ≡ recovered_at (suc n) u
  same_at n =
      discarded-at s a.ops a.one a.log n
      ∙ ap₂ (λ (t g : Map). apply_all (take n (remove_staging_files (unlogged t g))) (unlogged t g)) a.tree a.staging
      ∙ sym (discarded-at u a.ops a.other a.other-log n)

  -- The two as images: recovery's answer is the same, and so is each step's; the causes are what they are.
  module _ (b d : Bytes) (p : decode b ≡ some s) (q : decode d ≡ some u) where
    pub same-recovery : (out : ℕ) → recover b out ≡ recover d out
    unfolding recover recover_store
    same-recovery out = rw (p, q, same-fault, same_end)

    pub same_step : (n out stepOut : ℕ) → recover_step (suc n) b out stepOut ≡ recover_step (suc n) d out stepOut
    unfolding recover_step
    same_step n out stepOut = rw (p, q, same-fault, same-plan, same_at n)

    pub own-causes : (out : ℕ) → ((recover_cause b out).cause ≡ cause_number a.one) × ((recover_cause d out).cause ≡ cause_number a.other)
    unfolding recover_cause
    own-causes out = (rw (p, a.log), rw (q, a.other-log))
