-- The operations that were read from the log: a search through them, and the walk from the last to the first.
use mathlib.Core.Path.{◌≡◌, refl, sym, ap, ◌∙◌}
use mathlib.Core.List.{List, [], ◌∷◌, ◌++◌, map, reverse, reverse_aux-append}
use mathlib.Core.Bool.{Bool, ◌||◌}
use Rattle.std.specs.List.{list_any}
use Prim.Native.Nat.{ℕ, suc, ◌+◌, ◌<◌}
use native.Mathlib.Numerals.{add-one}
use native.Mathlib.Omega.{arith}
use lib.ListN.{length, drop, get_or, length-map, get_or-map}
use lib.Seq.{drop-cons}
use Rattle.basics.specs.Base.{Bytes, any_of}
use Rattle.model.specs.Operation.{Op}
use Rattle.model.specs.Store.{Store}
use Rattle.model.specs.Step.{Step, apply}
use Rattle.model.specs.Plan.{in_turn}
use Rattle.plans.specs.Machine.{seq_over, Going}
use Rattle.plans.proofs.MachineLaws.{begin, turn, goes_as, finish}
use Rattle.plans.specs.ModelPlans.{plain, in_turn_lem}
use Rattle.store.proofs.Lists.{all_get_d}
use Rattle.steps.specs.declared.Run.{Run}
use Rattle.steps.specs.CodeRuns.{run_of, SoundRun, Follows}
use Rattle.transaction.specs.Operations.{op_of, SoundOp}
use Rattle.transaction.specs.declared.Operation.{Operation}
use Rattle.basic_laws.specs.Tests.{All}
use Rattle.transaction.proofs.Lists.{map-append}
use Rattle.recovery.proofs.Follow.{lawful, follows_as}

-- Operations, each with its names in the bytes.
module _ (src : Bytes) (ops : List Operation) (i : ℕ) (d : Operation) (h : i < length ops) where
  pub op-at : All (SoundOp src) ops → SoundOp src (get_or ops i d)
  op-at s = all_get_d (SoundOp src) ops i d s h

  -- What is left from the operation at i on.
  pub read-rest : drop i (map (op_of src) ops) ≡ op_of src (get_or ops i d) ∷ drop (i + 1) (map (op_of src) ops)
  read-rest =
      drop-cons (map (op_of src) ops) i (op_of src d) (omega (arith, length-map ops (op_of src)))
      ∙ ap (λ (o : Op). o ∷ drop (suc i) (map (op_of src) ops)) (get_or-map (op_of src) ops i d)
      ∙ ap (λ (j : ℕ). op_of src (get_or ops i d) ∷ drop j (map (op_of src) ops)) (sym (add-one i))

pub all-split : {A : Type 0} (P : A → Type 0) (l : List A) (a : A) → All P (l ++ a ∷ []) → All P l × P a
all-split P [] a h = (tt, h.0)
all-split P (b ∷ l) a h = let q = all-split P l a h.1 in ((h.0, q.0), q.1)

-- `has_new_artifacts`: one of the operations passes where one of what they say does.
pub any-map : {A B : Type 0} (p : B → Bool) (f : A → B) (l : List A) → list_any (λ a. p (f a)) l ≡ any_of p (map f l)
any-map p f [] = refl
any-map p f (a ∷ l) = ap (λ (b : Bool). p (f a) || b) (any-map p f l)

-- `remove_new_artifacts`: these operations are left, from the first on.
module _ (g : Op → Store → List Step) where
  pub record Back (src : Bytes) (ops : List Operation) (start now : Run) (left : List Operation) : Type 0 where
    pub left-sound : All (SoundOp src) left
    pub sound : SoundRun src now
    pub going : Going plain (seq_over apply g (reverse (map (op_of src) ops))) (seq_over apply g (reverse (map (op_of src) left))) (run_of src start) (run_of src now)

  pub back_start : {src : Bytes} {ops : List Operation} {run : Run} → All (SoundOp src) ops → SoundRun src run → Back src ops run run ops
  back_start s r = record { left-sound = s; sound = r; going = begin lawful }

  module _ {src : Bytes} {ops left : List Operation} {start now : Run} (b : Back src ops start now left) where
    pub back_end : left ≡ [] → Follows plain src (in_turn g (reverse (map (op_of src) ops))) start now
    back_end e =
        follows_as lawful
        (record { sound = b.sound; does = finish lawful (goes_as lawful b.going (ap (λ (l : List Operation). seq_over apply g (reverse (map (op_of src) l)) (run_of src now).store) e)) })
        (in_turn_lem g (reverse (map (op_of src) ops)) _)

    module _ (front : List Operation) (op : Operation) (e : left ≡ front ++ op ∷ []) where
      pub op-before : SoundOp src op
      op-before = (all-split (SoundOp src) front op (rw e at b.left-sound)).1

      pub back-next : {next : Run} → Follows plain src (g (op_of src op)) now next → Back src ops start next front
      back-next p =
          let q : map (op_of src) left ≡ map (op_of src) front ++ op_of src op ∷ [] = rw e (map-append (op_of src) front (op ∷ [])) in
          let r : reverse (map (op_of src) left) ≡ op_of src op ∷ reverse (map (op_of src) front) = ap reverse q ∙ reverse_aux-append (map (op_of src) front) (op_of src op ∷ []) [] in
          record {
            left-sound = (all-split (SoundOp src) front op (rw e at b.left-sound)).0;
            sound = p.sound;
            going = turn lawful (goes_as lawful b.going (ap (λ (q : List Op). seq_over apply g q (run_of src now).store) r)) p.does;
          }
