-- Each arm of `fault`: 01, Sixteen numbers, 14 and 15.
use Rattle.std.specs.Prelude.{if◌then◌else◌}
use mathlib.Core.Path.{◌≡◌, refl, sym, ap, ◌∙◌}
use mathlib.Core.List.{List, [], ◌∷◌}
use mathlib.Core.Option.{Option, none, some}
use mathlib.Core.Bool.{Bool, true, false}
use Prim.Native.Nat.{ℕ, ◌≤◌, ◌<◌}
use native.Mathlib.Omega.{arith}
use lib.ListN.{length}
use borrow.Author.Tests.{lt-ltb, le-ltb}
use Rattle.basics.specs.Limits.{name_limit, dir_limit}
use Rattle.basics.specs.Order.{Name}
use Rattle.basics.specs.Map.{look}
use Rattle.basics.specs.Base.{Bytes, case_option, if_empty}
use Rattle.model.specs.Store.{dirs, files}
use Rattle.model.specs.Step.{name_too_long, new_file, step_fault, fails, commit_number}
use Rattle.spans.specs.Spans.{name_of, Sound}
use Rattle.spans.specs.declared.NameRef.{NameRef}
use Rattle.spans.proofs.Parts.{length-name, empty-name}
use Rattle.store.specs.Tables.{map_of, Counted}
use Rattle.store.specs.Stores.{store_of, SoundStore}
use Rattle.store.specs.declared.Store.{Store}
use Rattle.store.specs.declared.Counts.{Counts}
use Rattle.plans.specs.ModelPlans.{fault}
use Rattle.steps.specs.declared.Step.{Step}
use Rattle.steps.specs.declared.Step.TheVariants as code
use Rattle.steps.specs.Steps.{step_of, SoundStep}
use Rattle.steps.proofs.Arms.{names_of}
use Rattle.steps.proofs.Applying.{empty}

-- A name that the code holds is not too long.
fitting : {src : Bytes} {r : NameRef} → Sound src r → name_too_long (name_of src r) ≡ none
fitting {src} {r} s = let l = length-name s in let k = s.room in rw (le-ltb name_limit (length (name_of src r)) (omega arith))

module _ {src : Bytes} {s : Store} {x : Step} (p : SoundStore src s × SoundStep src x) where
  -- The number for a step in its arm.
  by_arm : {y : Step} {n : ℕ} → x ≡ y → n ≡ fault (step_of src y) (store_of src s) → n ≡ fault (step_of src x) (store_of src s)
  by_arm e h = h ∙ ap (λ (z : Step). fault (step_of src z) (store_of src s)) (sym e)

  module _ {c : Counts} {d : NameRef} (e : x ≡ code.MakeDirectory d) (k : Counted (map_of src s.tree) c) where
    pub few-dirs : c.dirs < dir_limit → 0 ≡ fault (step_of src x) (store_of src s)
    unfolding step_of step_fault
    few-dirs l = let f = k.dirs in by_arm e (rw (lt-ltb (length (dirs (map_of src s.tree))) dir_limit (omega arith)))

    pub many-dirs : dir_limit ≤ c.dirs → 15 ≡ fault (step_of src x) (store_of src s)
    unfolding step_of step_fault
    many-dirs l = let f = k.dirs in by_arm e (rw (le-ltb (length (dirs (map_of src s.tree))) dir_limit (omega arith)))

  pub target : {a b : NameRef} {q : Bool} → x ≡ code.RenameDirectory a b → q ≡ if_empty (files (name_of src b) (map_of src s.tree)) true false → (if q then 0 else 14) ≡ fault (step_of src x) (store_of src s)
  unfolding step_of step_fault
  target {b = b} e h = by_arm e (rw (h, fitting (names_of p.1 e).1) (go (files (name_of src b) (map_of src s.tree))))
    where
      go : (l : List Name) → (if if_empty l true false then 0 else 14) ≡ commit_number (if_empty l none (some fails))
      go [] = refl
      go (f ∷ l) = refl

  -- Where the look found o.
  module _ {o : Option ℕ} {n : ℕ} where
    pub copies : {a b f : NameRef} → x ≡ code.CopyFile a b f → o ≡ look (name_of src a, name_of src f) (map_of src s.tree)
        → n ≡ commit_number (case_option o (some fails) (λ y. new_file (name_of src b, name_of src f) (map_of src s.tree))) → n ≡ fault (step_of src x) (store_of src s)
    unfolding step_of step_fault
    copies e l q = by_arm e (rw l at q)

    pub moves : {f d k : NameRef} → x ≡ code.MoveStaged f d k → o ≡ look (name_of src empty, name_of src f) (map_of src s.staging)
        → n ≡ commit_number (case_option o (some fails) (λ y. new_file (name_of src d, name_of src k) (map_of src s.tree))) → n ≡ fault (step_of src x) (store_of src s)
    unfolding step_of step_fault
    moves e l q = by_arm e (rw (l, (empty-name src).same) at q)

-- The other steps do not fail.
pub never : {src : Bytes} {s : Store} (x : Step) → SoundStore src s × SoundStep src x → ((d : NameRef) → x ≡ code.MakeDirectory d → ⊥) → ((f d k : NameRef) → x ≡ code.MoveStaged f d k → ⊥)
    → ((a b : NameRef) → x ≡ code.RenameDirectory a b → ⊥) → ((a b f : NameRef) → x ≡ code.CopyFile a b f → ⊥) → 0 ≡ fault (step_of src x) (store_of src s)
unfolding step_of step_fault
never code.RewriteHeader p m s r c = refl
never code.HoldHeader p m s r c = refl
never code.SyncStaging p m s r c = refl
never code.SyncLog p m s r c = refl
never code.RemoveLog p m s r c = refl
never code.SyncJournal p m s r c = refl
never code.SyncCollections p m s r c = refl
never (code.MakeDirectory d) p m s r c = absurd (m d refl)
never (code.RenameFile d a b) p m s r c = rw (fitting p.1.names.1.1.sound)
never (code.MoveStaged f d k) p m s r c = absurd (s f d k refl)
never (code.RenameDirectory a b) p m s r c = absurd (r a b refl)
never (code.CopyFile a b f) p m s r c = absurd (c a b f refl)
never (code.RemoveFile d f) p m s r c = refl
never (code.RemoveDirectory d) p m s r c = refl
never (code.RemoveStaging f) p m s r c = refl
never (code.SyncDirectory d) p m s r c = refl
