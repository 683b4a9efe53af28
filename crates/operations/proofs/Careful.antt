-- The machine of commit, whose steps may fail; the steps that fail with 14 and are not made.
use mathlib.Core.Path.{◌≡◌, refl, sym}
use mathlib.Core.List.{List, []}
use mathlib.Core.Option.{Option, none, some}
use mathlib.Core.Bool.{true, false, false≢true}
use Prim.Native.Nat.{ℕ, ◌<◌}
use lib.ListN.{length}
use borrow.Author.Tests.{lt-ltb}
use Rattle.basics.specs.Limits.{name_limit}
use Rattle.basics.specs.Order.{Name}
use Rattle.basics.specs.Map.{look}
use Rattle.basics.specs.Base.{Bytes, case_option, is_some}
use Rattle.model.specs.Store.{Store}
use Rattle.model.specs.Step.{Step, rename_file, rename_directory, copy_file, apply, fails, name_too_long, new_file, step_fault}
use Rattle.store.specs.Stores.{store_of}
use Rattle.plans.specs.Machine.{Lawful, single}
use Rattle.plans.proofs.MachineLaws.{stays}
use Rattle.plans.specs.ModelPlans.{fault, careful}
use Rattle.plans.proofs.RunLaws.{careful-lawful, over-stopped}
use Rattle.steps.specs.declared.Run.{Run}
use Rattle.steps.specs.CodeRuns.{run_of, SoundRun, Follows, Refuses}

abbrev pub lawful : Lawful careful
lawful = careful-lawful apply fault

-- A run that has stopped follows every plan.
pub stopped : {src : Bytes} {plan : Store → List Step} {run : Run} → SoundRun src run → run.stopped ≡ true → Follows careful src plan run run
stopped {src} {plan} {run} s h = record { sound = s; does = stays lawful (over-stopped (run_of src run) h) }

pub refused : {src : Bytes} {a b : Run} → SoundRun src a → Refuses src a b → (x : Step) → step_fault x (store_of src a.store) ≡ some fails → Follows careful src (single x) a b
refused s w x e = record { sound = w.sound s; does = w.does x e }

-- 01, Sixteen numbers, 14: "backup name over 64 bytes".
too_long : (n : Name) → name_limit < length n → name_too_long n ≡ some fails
too_long n h = rw (lt-ltb name_limit (length n) h)

module _ (s : Store) where
  pub long-file : (d a b : Name) → name_limit < length b → step_fault (rename_file d a b) s ≡ some fails
  unfolding step_fault
  long-file d a b h = too_long b h

  pub long-dir : (a b : Name) → name_limit < length b → step_fault (rename_directory a b) s ≡ some fails
  unfolding step_fault
  long-dir a b h = rw (too_long b h)

  -- "a copy's source missing"
  pub no_source : (a b : Name) → is_some (look (a, []) s.tree) ≡ false → step_fault (copy_file a b []) s ≡ some fails
  unfolding step_fault
  no_source a b h = go (look (a, []) s.tree) h
    where
      go : (o : Option ℕ) → is_some o ≡ false → case_option o (some fails) (λ x. new_file (b, []) s.tree) ≡ some fails
      go none h = refl
      go (some x) h = absurd (false≢true (sym h))
