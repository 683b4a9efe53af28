-- Runs that follow plans, put together: the laws of machines for the code's runs.
use mathlib.Core.Path.{◌≡◌, refl, sym, ap, ◌∙◌}
use mathlib.Core.List.{List, [], ◌∷◌, ◌++◌, reverse, append-nil, append_assoc}
use mathlib.Core.Bool.{true}
use Rattle.basics.specs.Base.{Bytes}
use Rattle.model.specs.Store.{Store}
use Rattle.model.specs.Step.{Step, apply}
use Rattle.model.specs.Operation.{Op}
use Rattle.model.specs.Plan.{in_turn, in_sequence, undo_steps, restore_backups}
use Rattle.plans.specs.Machine.{Machine, Lawful, apply_all, single, seq}
use Rattle.plans.proofs.MachineLaws as machines
use Rattle.plans.proofs.MachineLaws.{idle, like, and_then}
use Rattle.plans.specs.ModelPlans.{plain, turn-of, in_sequence_lem}
use Rattle.plans.proofs.RunLaws.{plain-lawful}
use Rattle.steps.specs.declared.Run.{Run}
use Rattle.steps.specs.CodeRuns.{ModelRun, run_of, SoundRun, Follows}
use Rattle.recovery.specs.Walks.{undo_all}

-- The machine of recovery, whose steps cannot fail.
abbrev pub lawful : Lawful plain
lawful = plain-lawful apply

module _ {m : Machine Store Step ModelRun} (l : Lawful m) {src : Bytes} where
  -- No step is due.
  pub stays : {f : Store → List Step} {a : Run} → SoundRun src a → f (m.store (run_of src a)) ≡ [] → Follows m src f a a
  stays s e = record { sound = s; does = like l (idle l) (sym e) }

  -- Another plan with the same steps.
  pub follows_as : {f g : Store → List Step} {a b : Run} → Follows m src f a b → f (m.store (run_of src a)) ≡ g (m.store (run_of src a)) → Follows m src g a b
  follows_as p e = record { sound = p.sound; does = like l p.does e }

  pub follows_then : {f g : Store → List Step} {a b c : Run} → Follows m src f a b → Follows m src g b c → Follows m src (seq m.apply f g) a c
  follows_then p q = record { sound = q.sound; does = and_then l p.does q.does }

-- One step, and then others that do not depend on the store.
pub step_then : {src : Bytes} {x : Step} {a b c : Run} → Follows plain src (single x) a b → (xs : List Step) → Follows plain src (λ s. xs) b c → Follows plain src (λ s. x ∷ xs) a c
unfolding seq
step_then p xs q = follows_as lawful (follows_then lawful p q) refl

-- A run that has stopped does no step of any plan.
pub rests : {src : Bytes} {f : Store → List Step} {run : Run} → run.stopped ≡ true → SoundRun src run → Follows plain src f run run
rests h s = record { sound = s; does = machines.stays lawful h }

-- The parts of a plan one behind the other.
module _ {src : Bytes} {f : Store → List Step} {a b : Run} (p : Follows plain src f a b) where
  pub last-part : Follows plain src (in_sequence (f ∷ [])) a b
  last-part = follows_as lawful p (sym (append-nil (f _)))

  pub part_then : (fs : List (Store → List Step)) {c : Run} → Follows plain src (in_sequence fs) b c → Follows plain src (in_sequence (f ∷ fs)) a c
  part_then fs q = follows_as lawful (follows_then lawful p q) (in_sequence_lem f fs _)

apply_append : (xs ys : List Step) (s : Store) → apply_all apply (xs ++ ys) s ≡ apply_all apply ys (apply_all apply xs s)
apply_append [] ys s = refl
apply_append (x ∷ xs) ys s = apply_append xs ys (apply x s)

seq-seq : (f g h : Store → List Step) (s : Store) → seq apply (seq apply f g) h s ≡ seq apply f (seq apply g h) s
unfolding seq
seq-seq f g h s =
    let u : Store = apply_all apply (f s) s in
    append_assoc (f s) (g u) (h (apply_all apply (f s ++ g u) s)) ∙ ap (λ (v : Store). f s ++ (g u ++ h v)) (apply_append (f s) (g u) s)

-- Operations undone, and then the parts that follow: in recovery, and in a commit that failed.
pub undone_then : {src : Bytes} (ops : List Op) {a b c : Run} → Follows plain src (undo_all ops) a b → (fs : List (Store → List Step)) → Follows plain src (in_sequence fs) b c
    → Follows plain src (in_sequence (in_turn undo_steps (reverse ops) ∷ restore_backups ∷ fs)) a c
unfolding undo_all
undone_then ops p fs q =
    follows_as lawful (follows_then lawful p q)
    (seq-seq (in_turn undo_steps (reverse ops)) restore_backups (in_sequence fs) _ ∙ turn-of (in_turn undo_steps (reverse ops)) (λ u. in_sequence_lem restore_backups fs u) _)
