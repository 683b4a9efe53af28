-- The plans of the operations, made of the plans of the small functions.
use mathlib.Core.Path.{◌≡◌, refl, sym, ap, ◌∙◌}
use mathlib.Core.List.{List, [], ◌∷◌, ◌++◌, append-nil}
use mathlib.Core.Option.{Option, none, some}
use mathlib.Core.Bool.{Bool}
use Prim.Native.Nat.{ℕ}
use Rattle.basics.specs.Order.{Name, Key}
use Rattle.basics.specs.Map.{look}
use Rattle.basics.specs.Base.{Bytes, if_present, if_missing}
use Rattle.basics.specs.Name.{backup_name}
use Rattle.model.specs.Operation.{write, delete, delete_all, create_collection, delete_collection, copy_collection}
use Rattle.model.specs.Store.{Store}
use Rattle.model.specs.Step.{Step, make_directory, rename_file, move_staged, apply}
use Rattle.model.specs.Plan.{op_steps}
use Rattle.basic_laws.specs.MapLaws.{look-put-other}
use Rattle.plans.specs.Machine.{apply_all, single, seq}
use Rattle.plans.specs.ModelPlans.{careful, turn-of}
use Rattle.steps.specs.declared.Run.{Run}
use Rattle.steps.specs.CodeRuns.{Follows}
use Rattle.recovery.proofs.Follow.{follows_as, follows_then}
use Rattle.operations.specs.Parts.{back_up_standing, back_up_standing_dir, make_missing, back_up_all}
use Rattle.operations.proofs.Careful.{lawful}
use Rattle.operations.proofs.Picks.{copy_source}

module _ (s : Store) where
  -- Making a directory changes nothing at a file's place, whose name is not empty.
  kept-alike : (c k : Name) → (k ≡ [] → ⊥) → back_up_standing c k (apply_all apply (make_missing c s) s) ≡ back_up_standing c k s
  unfolding back_up_standing make_missing apply
  kept-alike c k h = go (look (c, []) s.tree)
    where
      back : Option ℕ → List Step
      back o = if_present o (rename_file c k (backup_name k) ∷ [])

      go : (o : Option ℕ) → back (look (c, k) (apply_all apply (if_missing o (make_directory c ∷ [])) s).tree) ≡ back (look (c, k) s.tree)
      go none = ap back (look-put-other (c, []) (c, k) 0 s.tree (λ e. h (ap (λ (q : Key). q.1) e)))
      go (some x) = refl

  pub by-write : (c k f : Name) (mark : Option Bool) → (k ≡ [] → ⊥) →
      seq apply (seq apply (make_missing c) (back_up_standing c k)) (single (move_staged f c k)) s ≡ op_steps (write (record { collection = c; key = k; staged = f; mark = mark })) s
  by-write c k f mark h = unfold seq in (ap (λ (xs : List Step). (make_missing c s ++ xs) ++ move_staged f c k ∷ []) (kept-alike c k h) ∙ (unfold op_steps make_missing back_up_standing in refl))

  pub by-delete : (c k : Name) → back_up_standing c k s ≡ op_steps (delete c k) s
  unfolding back_up_standing op_steps
  by-delete c k = refl

  pub by-delete-all : (c : Name) → back_up_all c s ≡ op_steps (delete_all c) s
  unfolding back_up_all op_steps
  by-delete-all c = refl

  pub by_create : (c : Name) → make_missing c s ≡ op_steps (create_collection c) s
  unfolding make_missing op_steps
  by_create c = refl

  pub by-delete-collection : (c : Name) → back_up_standing_dir c s ≡ op_steps (delete_collection c) s
  unfolding back_up_standing_dir op_steps
  by-delete-collection c = refl

  by_copy : (a b : Name) (existed : Bool) → seq apply (seq apply (back_up_standing_dir b) (single (make_directory b))) (copy_source a b) s ≡ op_steps (copy_collection a b existed) s
  by_copy a b existed =
      turn-of (seq apply (back_up_standing_dir b) (single (make_directory b))) {others = λ u. copy_source a b u ++ []} (λ u. sym (append-nil (copy_source a b u))) s
      ∙ (unfold seq back_up_standing_dir copy_source op_steps in refl)

-- A copy: its destination is backed up and made, and then what its source asks for.
pub copied : (a b : Name) {src : Bytes} {run kept made r : Run} → Follows careful src (back_up_standing_dir b) run kept → Follows careful src (single (make_directory b)) kept made → Follows careful src (copy_source a b) made r
    → (existed : Bool) → Follows careful src (op_steps (copy_collection a b existed)) run r
copied a b p q w existed = follows_as lawful (follows_then lawful (follows_then lawful p q) w) (by_copy _ a b existed)
