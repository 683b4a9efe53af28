-- What callers of `recover`, `revert` and `keep` read off an answer.
use Rattle.std.specs.Prelude.{◌≡◌, refl, ℕ, suc, ◌≤◌, length, take, None, Some}
use Rattle.std.proofs.Common.{sym, ◌∙◌}
use Rattle.basics.specs.Base.{Bytes}
use Rattle.model.specs.Step.{step_field, field_at}
use Rattle.model.specs.Step as model
use Rattle.model.specs.Plan.{without_mark}
use Rattle.store.specs.Stores.{store_of}
use Rattle.store.specs.declared.Store.{Store}
use Rattle.plans.specs.ModelPlans.{apply-all}
use Rattle.plans.proofs.ModelAnswers.{field-at}
use Rattle.steps.specs.Steps.{step_of}
use Rattle.recovery.specs.declared.Recovered.{Recovered}
use Rattle.recovery.specs.Recoveries.{Work, Done}

-- The store that the steps make, and the field of the step that was done last.
module _ {w : Work} {src : Bytes} {s : Store} where
  pub done-is : {r : Recovered} → Done w src s None r → model.apply_all w.steps (without_mark (store_of src s)) ≡ store_of src r.run.store
  done-is c = sym ((c.ran.whole refl).store ∙ apply-all w.steps (without_mark (store_of src s)))

  module _ {n : ℕ} {r : Recovered} (c : Done w src s (Some n) r) where
    pub done_at : model.apply_all (take n w.steps) (without_mark (store_of src s)) ≡ store_of src r.run.store
    done_at = sym ((c.ran.cut n refl).store ∙ apply-all (take n w.steps) (without_mark (store_of src s)))

    pub last-field : (k : ℕ) → n ≡ suc k → n ≤ length w.steps → field_at n w.steps ≡ step_field (step_of src r.run.last)
    last-field k e h = field-at (c.ran.cut n refl) k e h
