-- One step of a run in each of its ways, as the code takes it.
use mathlib.Core.Path.{◌≡◌, refl, sym, ap, ◌∙◌}
use Rattle.std.proofs.Math.Option as maths
use Rattle.std.proofs.Math.Option.{none, some}
use mathlib.Core.Bool.{true, false, false≢true}
use lib.Dec.{eqb}
use borrow.Author.Tests.{eqb-true}
use Rattle.std.specs.Option.{option_eq}
use mathlib.Core.Logic.{◌⊎◌, inl, inr}
use Prim.Native.Nat.{ℕ, ◌-◌}
use native.Mathlib.Omega.{arith}
use Rattle.basics.specs.Base.{Bytes}
use Rattle.model.specs.Step.{apply, Fault, fails, full, step_fault, commit_number}
use Rattle.std.specs.Prelude.{Option, None, Some, Result, Ok, Err, option_map, is_some}
use Rattle.refusals.specs.Numbers.{number_of, number_if, told}
use Rattle.refusals.specs.declared.Refusal.{Refusal}
use Rattle.refusals.specs.declared.Refusal.TheVariants.{StepFailed}
use Rattle.store.specs.Stores.{store_of}
use Rattle.store.specs.declared.Store.{Store}
use Rattle.steps.specs.declared.Run.{Run}
use Rattle.plans.specs.Machine.{single}
use Rattle.plans.proofs.MachineLaws as laws
use Rattle.plans.proofs.RunLaws.{plain-lawful, careful-lawful, over-stopped, over-refused, not-over, halts, steps, refuses, passes}
use Rattle.plans.specs.ModelPlans.{plain, careful, fault}
use Rattle.steps.specs.declared.Step.{Step}
use Rattle.steps.specs.Steps.{step_of, SoundStep, Allowed, Applied}
use Rattle.steps.specs.CodeRuns.{run_of, limited_by, left_of, SoundRun, Follows, Refuses}
use Rattle.steps.proofs.Room.{allowed}

-- A test of a budget or a refusal that says what it is.
pub none_left : (o : Option ℕ) → option_eq eqb o (Some 0) ≡ true → o ≡ Some 0
none_left None e = absurd (false≢true e)
none_left (Some n) e = ap Some (eqb-true n 0 e)

pub some_left : {o : Option ℕ} → option_eq eqb o (Some 0) ≡ false → o ≡ Some 0 → ⊥
some_left h e = false≢true (sym h ∙ ap (λ o. option_eq eqb o (Some 0)) e)

pub not-refused : (o : Option Refusal) → is_some o ≡ false → o ≡ None
not-refused None e = refl
not-refused (Some r) e = absurd (false≢true (sym e))

pub refused-by : (o : Option Refusal) → is_some o ≡ true → (r : Refusal) × (o ≡ Some r)
refused-by None e = absurd (false≢true e)
refused-by (Some r) e = (r, refl)

-- No refusal has the number 0.
pub some-number : (r : Refusal) → number_of r ≡ 0 → ⊥
some-number r e = grind arith

module _ {src : Bytes} {run : Run} {x : Step} (s : SoundRun src run) (q : SoundStep src x) where
  -- The plain machine: stopped; due with none left; done.
  pub stopped : run.stopped ≡ true → Follows plain src (single (step_of src x)) run run
  stopped h = record { sound = s; does = laws.stays (plain-lawful apply) h }

  module _ (h : run.stopped ≡ false) where
    pub halted : run.budget ≡ Some 0 → Follows plain src (single (step_of src x)) run (record { store = run.store; budget = run.budget; stopped = true; refusal = run.refusal; last = run.last })
    halted e = record {
      sound = record { fits = s.fits; last = s.last };
      does = laws.step (plain-lawful apply) (step_of src x) (halts apply (step_of src x) (run_of src run) h (ap limited_by e) (ap left_of e));
    }

    pub done : {next : Store} {b : Option ℕ} → Applied src x run.store next → b ≡ option_map (λ n. n - 1) run.budget → (run.budget ≡ Some 0 → ⊥)
        → Follows plain src (single (step_of src x)) run (record { store = next; budget = b; stopped = run.stopped; refusal = run.refusal; last = x })
    done {next} {b} a e n = record {
      sound = record { fits = a.fits; last = q };
      does = laws.step (plain-lawful apply) (step_of src x)
          ((λ i. record { store = a.same i; limited = (ap limited_by e ∙ limits run.budget) i; left = (ap left_of e ∙ lefts run.budget) i; stopped = h i; last = step_of src x; refusal = number_if run.refusal })
          ∙ steps apply (step_of src x) (run_of src run) h (goes-on run.budget n));
    }
      where
        limits : (o : Option ℕ) → limited_by (option_map (λ n. n - 1) o) ≡ limited_by o
        limits None = refl
        limits (Some n) = refl

        lefts : (o : Option ℕ) → left_of (option_map (λ n. n - 1) o) ≡ left_of o - 1
        lefts None = refl
        lefts (Some n) = refl

        goes-on : (o : Option ℕ) → (o ≡ Some 0 → ⊥) → ((limited_by o ≡ true) × (left_of o ≡ 0 → ⊥)) ⊎ (limited_by o ≡ false)
        goes-on None n = inr refl
        goes-on (Some k) n = inl (refl, λ z. n (ap Some z))

  -- The careful machine: stopped or refused before.
  pub ended : run.stopped ≡ true → Follows careful src (single (step_of src x)) run run
  ended h = record { sound = s; does = laws.stays (careful-lawful apply fault) (over-stopped (run_of src run) h) }

  pub failed : {r : Refusal} → run.refusal ≡ Some r → Follows careful src (single (step_of src x)) run run
  failed {r} e = record { sound = s; does = laws.stays (careful-lawful apply fault) (over-refused (run_of src run) (λ z. some-number r (sym (ap number_if e) ∙ z))) }

  -- A step that fails, and one that does not.
  module _ (h : run.stopped ≡ false) (z : run.refusal ≡ None) {A : Type 0} {o : Result A Refusal} (e : told o ≡ fault (step_of src x) (store_of src run.store)) where
    pub fails_now : {r : Refusal} → o ≡ Err r → Follows careful src (single (step_of src x)) run (record { store = run.store; budget = run.budget; stopped = run.stopped; refusal = Some r; last = run.last })
    fails_now {r} k = record {
      sound = record { fits = s.fits; last = s.last };
      does = laws.step (careful-lawful apply fault) (step_of src x)
          ((λ i. record { store = store_of src run.store; limited = limited_by run.budget; left = left_of run.budget; stopped = run.stopped; last = step_of src run.last; refusal = (sym (ap told k) ∙ e) i })
          ∙ refuses apply fault (step_of src x) (run_of src run) (not-over (run_of src run) h (ap number_if z)) (λ w. some-number r (sym (ap told k) ∙ e ∙ w)));
    }

    pub may_go : {a : A} → o ≡ Ok a → Allowed (step_of src x) (store_of src run.store)
    may_go k = allowed (step_of src x) (store_of src run.store) (go (step_fault (step_of src x) (store_of src run.store)) (sym e ∙ ap told k))
      where
        go : (o : maths.Option Fault) → commit_number o ≡ 0 → o ≡ none
        go none w = refl
        go (some fails) w = absurd (omega arith)
        go (some full) w = absurd (omega arith)

    pub goes : {r : Run} {a : A} → o ≡ Ok a → Follows plain src (single (step_of src x)) run r → Follows careful src (single (step_of src x)) run r
    goes k f = record {
      sound = f.sound;
      does = laws.step (careful-lawful apply fault) (step_of src x) (f.does.ran ∙ passes apply fault (step_of src x) (run_of src run) (not-over (run_of src run) h (ap number_if z)) (sym e ∙ ap told k));
    }

-- `refuse`: over before, or refused with 14.
module _ {src : Bytes} {run : Run} where
  pub stopped-before : run.stopped ≡ true → Refuses src run run
  stopped-before h = record { sound = λ s. s; does = λ x e. laws.stays (careful-lawful apply fault) (over-stopped (run_of src run) h) }

  pub refused-before : {r : Refusal} → run.refusal ≡ Some r → Refuses src run run
  refused-before {r} h = record { sound = λ s. s; does = λ x e. laws.stays (careful-lawful apply fault) (over-refused (run_of src run) (λ z. some-number r (sym (ap number_if h) ∙ z))) }

  pub refused_now : run.stopped ≡ false → run.refusal ≡ None → Refuses src run (record { store = run.store; budget = run.budget; stopped = run.stopped; refusal = Some StepFailed; last = run.last })
  refused_now h z = record {
    sound = λ s. record { fits = s.fits; last = s.last };
    does = λ x e.
        let k : 14 ≡ fault x (store_of src run.store) = sym (ap commit_number e) in
        laws.step (careful-lawful apply fault) x
        ((λ i. record { store = store_of src run.store; limited = limited_by run.budget; left = left_of run.budget; stopped = run.stopped; last = step_of src run.last; refusal = k i })
        ∙ refuses apply fault x (run_of src run) (not-over (run_of src run) h (ap number_if z)) (λ w. let v = k ∙ w in omega arith));
  }
