-- Loops that do one step for each file of a directory, and the loop through the operations.
use mathlib.Core.Path.{◌≡◌, ap, subst, ◌∙◌}
use mathlib.Core.List.{List, map}
use Prim.Native.Nat.{ℕ, ◌+◌, ◌≤◌, ◌<◌}
use native.Mathlib.Omega.{arith}
use lib.ListN.{length, drop, get_or, length-map, get_or-map, drop_of_length-le}
use Rattle.basics.specs.Order.{Name}
use Rattle.basics.specs.Base.{Bytes}
use Rattle.basics.specs.Name.{backup_name}
use Rattle.model.specs.Operation.{Op}
use Rattle.model.specs.Store.{Store, files}
use Rattle.model.specs.Step.{Step, rename_file, apply}
use Rattle.model.specs.Plan.{op_steps, operation_steps}
use Rattle.laws.specs.OperationLaws.{ValidOp}
use Rattle.basic_laws.specs.Tests.{All}
use Rattle.plans.specs.Machine.{single, seq_over, Going}
use Rattle.plans.proofs.MachineLaws.{begin, turn, goes_as, finish}
use Rattle.plans.specs.ModelPlans.{careful, in_turn_lem, in_turn-single}
use Rattle.spans.specs.declared.NameRef.{NameRef}
use Rattle.fixed_vec.specs.FixedVec.{FixedVec}
use Rattle.store.specs.Tables.{map_of}
use Rattle.store.proofs.Lists.{all_get_d}
use Rattle.store.proofs.Listed.{no_name}
use Rattle.steps.specs.Steps.{FileName}
use Rattle.steps.specs.declared.Run.{Run}
use Rattle.steps.specs.CodeRuns.{run_of, SoundRun, Follows}
use Rattle.steps.proofs.FileNames.{listed-named}
use Rattle.transaction.specs.Operations.{op_of, SoundOp}
use Rattle.transaction.specs.declared.Operation.{Operation}
use Rattle.recovery.proofs.Follow.{follows_as}
use Rattle.recovery.proofs.Over.{Over, end}
use Rattle.recovery.proofs.Entries.{op-at, read-rest}
use Rattle.operations.proofs.Careful.{lawful}

-- One step for each file.
abbrev pub each : (Name → Step) → Name → Store → List Step
each h f = single (h f)

abbrev pub back_up_file : Name → Name → Step
back_up_file d f = rename_file d f (backup_name f)

module _ {src : Bytes} {run now : Run} {listing : FixedVec NameRef} {i : ℕ} (h : Name → Step) (d : Name) (w : Over lawful src (each h) listing (files d (map_of src run.store.tree)) run now i) where
  -- The name at i is not empty.
  pub each-name : {r : NameRef} → r ≡ get_or listing.items i no_name → i < length listing.items → FileName src r
  each-name e l = listed-named d (map_of src run.store.tree) w.lists e l

  pub each-end : length listing.items ≤ i → Follows careful src (λ s. map h (files d s.tree)) run now
  each-end l = follows_as lawful (end lawful w l) (in_turn_lem (each h) (files d (map_of src run.store.tree)) _ ∙ in_turn-single h (files d (map_of src run.store.tree)) _)

-- `apply_operations`: the first i operations are done.
pub record Ahead (src : Bytes) (ops : List Operation) (start now : Run) (i : ℕ) : Type 0 where
  pub held : All (SoundOp src) ops
  pub valid : All ValidOp (map (op_of src) ops)
  pub sound : SoundRun src now
  pub going : Going careful (seq_over apply op_steps (map (op_of src) ops)) (seq_over apply op_steps (drop i (map (op_of src) ops))) (run_of src start) (run_of src now)

pub ahead-start : {src : Bytes} {ops : List Operation} {run : Run} → All (SoundOp src) ops → All ValidOp (map (op_of src) ops) → SoundRun src run → Ahead src ops run run 0
ahead-start s v r = record { held = s; valid = v; sound = r; going = begin lawful }

module _ {src : Bytes} {ops : List Operation} {start now : Run} {i : ℕ} (a : Ahead src ops start now i) where
  rest_as : (l : List Op) → drop i (map (op_of src) ops) ≡ l → Going careful (seq_over apply op_steps (map (op_of src) ops)) (seq_over apply op_steps l) (run_of src start) (run_of src now)
  rest_as l e = goes_as lawful a.going (ap (λ (q : List Op). seq_over apply op_steps q (run_of src now).store) e)

  pub ahead-end : length ops ≤ i → Follows careful src (operation_steps (map (op_of src) ops)) start now
  ahead-end h =
      follows_as lawful
      (record { sound = a.sound; does = finish lawful (rest_as _ (drop_of_length-le (map (op_of src) ops) {i = i} (omega (arith, length-map ops (op_of src))))) })
      (in_turn_lem op_steps (map (op_of src) ops) _)

  module _ (d : Operation) (h : i < length ops) where
    pub op-ahead : SoundOp src (get_or ops i d) × ValidOp (op_of src (get_or ops i d))
    op-ahead = (op-at src ops i d h a.held, subst ValidOp (get_or-map (op_of src) ops i d) (all_get_d ValidOp (map (op_of src) ops) i (op_of src d) a.valid (omega (arith, length-map ops (op_of src)))))

    pub ahead-next : {next : Run} → Follows careful src (op_steps (op_of src (get_or ops i d))) now next → Ahead src ops start next (i + 1)
    ahead-next p = record { held = a.held; valid = a.valid; sound = p.sound; going = turn lawful (rest_as _ (read-rest src ops i d h)) p.does }
