-- The model's plans as plans of these machines: model Step and Plan.
use Rattle.std.specs.Prelude.{◌≡◌, refl, List, [], ◌∷◌, ◌++◌, map, ℕ, eqb, drop, if◌then◌else◌}
use Rattle.std.proofs.Common.{ap, ◌∙◌, arith}
use Rattle.std.proofs.Math.Option.{Option, none, some}
use Rattle.basics.specs.Base.{case_option}
use Rattle.model.specs.Operation.{Op}
use Rattle.model.specs.Store.{Store}
use Rattle.model.specs.Step as model
use Rattle.model.specs.Step.{Step, rewrite_header, sync_staging, sync_log, apply, Fault, fails, full, step_fault, commit_number}
use Rattle.model.specs.Plan as plan
use Rattle.model.specs.Plan.{commit_parts, in_turn, in_sequence, first_fault, steps_before_fault}
use Rattle.plans.specs.Machine.{Machine, apply_all, single, seq, seq_over}
use Rattle.plans.specs.Runs as runs
use Rattle.plans.specs.Runs.{Run, fault_in, up_to}

-- The number that a step fails with, 0 for none.
abbrev pub fault : Step → Store → ℕ
fault x s = commit_number (step_fault x s)

-- The two machines over the model's stores and steps.
abbrev pub plain : Machine Store Step (Run Store Step)
plain = runs.plain apply

abbrev pub careful : Machine Store Step (Run Store Step)
careful = runs.careful apply fault

-- The model's definitions are instances of those over any stores and steps.
pub apply-all : (xs : List Step) (s : Store) → apply_all apply xs s ≡ model.apply_all xs s
apply-all [] s = refl
apply-all (x ∷ xs) s = apply-all xs (apply x s)

-- One turn of a walk.
pub turn-of : (f : Store → List Step) {rest others : Store → List Step} → ((u : Store) → rest u ≡ others u) → (s : Store) → seq apply f rest s ≡ f s ++ others (model.apply_all (f s) s)
unfolding seq
turn-of f {rest} {others} h s = ap (λ (u : Store). f s ++ rest u) (apply-all (f s) s) ∙ ap (λ (xs : List Step). f s ++ xs) (h (model.apply_all (f s) s))

pub in_turn_lem : {A : Type 0} (g : A → Store → List Step) (l : List A) (s : Store) → seq_over apply g l s ≡ in_turn g l s
in_turn_lem g [] s = refl
in_turn_lem g (a ∷ l) s = turn-of (g a) (in_turn_lem g l) s

-- Plans of one step each, whatever the store.
pub in_turn-single : {A : Type 0} (h : A → Step) (l : List A) (s : Store) → in_turn (λ a. single (h a)) l s ≡ map h l
in_turn-single h [] s = refl
in_turn-single h (a ∷ l) s = ap (λ (xs : List Step). h a ∷ xs) (in_turn-single h l (apply (h a) s))

pub in_sequence_lem : (f : Store → List Step) (fs : List (Store → List Step)) (s : Store) → seq apply f (in_sequence fs) s ≡ in_sequence (f ∷ fs) s
in_sequence_lem f fs s = turn-of f (λ u. refl) s

pub first-fault : (xs : List Step) (s : Store) → fault_in apply fault xs s ≡ commit_number (first_fault xs s)
first-fault [] s = refl
first-fault (x ∷ xs) s = go (step_fault x s) (first-fault xs (apply x s))
  where
    go : (o : Option Fault) → fault_in apply fault xs (apply x s) ≡ commit_number (first_fault xs (apply x s)) → (if eqb (commit_number o) 0 then fault_in apply fault xs (apply x s) else commit_number o) ≡ commit_number (case_option o (first_fault xs (apply x s)) some)
    go none ih = ih
    go (some fails) ih = refl
    go (some full) ih = refl

pub before-fault : (xs : List Step) (s : Store) → up_to apply fault xs s ≡ steps_before_fault xs s
before-fault [] s = refl
before-fault (x ∷ xs) s = go (step_fault x s) (before-fault xs (apply x s))
  where
    go : (o : Option Fault) → up_to apply fault xs (apply x s) ≡ steps_before_fault xs (apply x s) → (if eqb (commit_number o) 0 then x ∷ up_to apply fault xs (apply x s) else []) ≡ case_option o (x ∷ steps_before_fault xs (apply x s)) (λ e. [])
    go none ih = ap (λ (ys : List Step). x ∷ ys) ih
    go (some fails) ih = refl
    go (some full) ih = refl

-- Where no step fails, all come before the fault.
pub no-fault : (xs : List Step) (s : Store) → first_fault xs s ≡ none → steps_before_fault xs s ≡ xs
no-fault [] s e = refl
no-fault (x ∷ xs) s e = go (step_fault x s) e (λ h. no-fault xs (apply x s) h)
  where
    go : (o : Option Fault) → case_option o (first_fault xs (apply x s)) some ≡ none → (first_fault xs (apply x s) ≡ none → steps_before_fault xs (apply x s) ≡ xs) → case_option o (x ∷ steps_before_fault xs (apply x s)) (λ e. []) ≡ x ∷ xs
    go none e ih = ap (λ (ys : List Step). x ∷ ys) (ih e)
    go (some f) e ih = let z : ◌≡◌ {A = ℕ} 0 1 = cc in absurd (let no : ⊥ = omega arith in no)

-- Commit's steps before the operations, and those behind them, where no step of theirs failed and where one did.
abbrev pub commit_start : Store → List Step
commit_start s = rewrite_header ∷ sync_staging ∷ sync_log ∷ []

abbrev pub end_behind : List (Store → List Step) → List Op → Store → List Step
end_behind ends ops = in_sequence (drop 2 (commit_parts ends ops none))

abbrev pub commit_end : List Op → Store → List Step
commit_end ops = end_behind plan.commit_end ops

-- 02, item 6: a held commit's.
abbrev pub hold_end : List Op → Store → List Step
hold_end ops = end_behind plan.hold_end ops

-- Where one failed it is the same for both.
abbrev pub commit_undo : List Op → Store → List Step
commit_undo ops = in_sequence (drop 2 (commit_parts plan.commit_end ops (some fails)))
