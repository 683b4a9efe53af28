-- Loops over a listing: the names as they stood where the walk starts, and what is done at each in turn.
use mathlib.Core.Path.{◌≡◌, ap, ◌∙◌}
use mathlib.Core.List.{List}
use Prim.Native.Nat.{ℕ, ◌+◌, ◌≤◌, ◌<◌}
use native.Mathlib.Omega.{arith}
use lib.ListN.{length, drop, get_or}
use Rattle.basics.specs.Order.{Name}
use Rattle.basics.specs.Base.{Bytes}
use Rattle.model.specs.Store.{Store, dirs, files, staging_names}
use Rattle.model.specs.Step.{Step, remove_staging}
use Rattle.model.specs.Plan.{in_turn, remove_staging_files}
use Rattle.plans.specs.Machine.{Machine, Lawful, single, seq_over, Going}
use Rattle.plans.proofs.MachineLaws.{begin, turn, goes_as, finish}
use Rattle.plans.specs.ModelPlans.{plain, in_turn_lem, in_turn-single}
use Rattle.spans.specs.Spans.{name_of, Sound}
use Rattle.spans.specs.declared.NameRef.{NameRef}
use Rattle.fixed_vec.specs.FixedVec.{FixedVec}
use Rattle.store.specs.Tables.{map_of, Lists}
use Rattle.store.proofs.Listed.{no_name, listed-end, listed-sound, listed-rest}
use Rattle.steps.specs.declared.Run.{Run}
use Rattle.steps.specs.CodeRuns.{ModelRun, run_of, SoundRun, Follows}
use Rattle.recovery.specs.Walks.{over_files}
use Rattle.recovery.proofs.Follow.{lawful, follows_as}

module _ {m : Machine Store Step ModelRun} (l : Lawful m) where
  -- The first i names of a listing are done.
  pub record Over (src : Bytes) (g : Name → Store → List Step) (listing : FixedVec NameRef) (names : List Name) (start now : Run) (i : ℕ) : Type 0 where
    pub lists : Lists src listing names
    pub sound : SoundRun src now
    pub within : i ≤ length listing.items
    pub going : Going m (seq_over m.apply g names) (seq_over m.apply g (drop i names)) (run_of src start) (run_of src now)

  pub over-start : {src : Bytes} {g : Name → Store → List Step} {listing : FixedVec NameRef} {names : List Name} {run : Run} → Lists src listing names → SoundRun src run → Over src g listing names run run 0
  over-start s r = record { lists = s; sound = r; within = omega arith; going = begin l }

  module _ {src : Bytes} {g : Name → Store → List Step} {listing : FixedVec NameRef} {names : List Name} {start now : Run} {i : ℕ} (w : Over src g listing names start now i) where
    pub end : length listing.items ≤ i → Follows m src (seq_over m.apply g names) start now
    end h = record {
      sound = w.sound;
      does = finish l (goes_as l w.going (ap (λ (r : List Name). seq_over m.apply g r (m.store (run_of src now))) (listed-end w.lists h)));
    }

    -- The name at i.
    module _ {r : NameRef} (e : r ≡ get_or listing.items i no_name) (h : i < length listing.items) where
      pub name : Sound src r
      name = listed-sound w.lists e h

      pub done : {next : Run} → Follows m src (g (name_of src r)) now next → Over src g listing names start next (i + 1)
      done p = record {
        lists = w.lists;
        sound = p.sound;
        within = omega arith;
        going = turn l (goes_as l w.going (ap (λ (k : List Name). seq_over m.apply g k (m.store (run_of src now))) (listed-rest w.lists e h))) p.does;
      }

-- A walk through the tree, or through the staging files, of the run that it started with.
module _ {src : Bytes} {run now : Run} {listing : FixedVec NameRef} {i : ℕ} where
  pub files-end : (g : Name → Name → Store → List Step) (d : Name) → Over lawful src (g d) listing (files d (map_of src run.store.tree)) run now i → length listing.items ≤ i → Follows plain src (over_files g d) run now
  unfolding over_files
  files-end g d w h = follows_as lawful (end lawful w h) (in_turn_lem (g d) (files d (map_of src run.store.tree)) _)

  pub dirs-end : (g : Name → Store → List Step) → Over lawful src g listing (dirs (map_of src run.store.tree)) run now i → length listing.items ≤ i → Follows plain src (λ s. in_turn g (dirs s.tree) s) run now
  dirs-end g w h = follows_as lawful (end lawful w h) (in_turn_lem g (dirs (map_of src run.store.tree)) _)

  pub staging-end : Over lawful src (λ f. single (remove_staging f)) listing (staging_names (map_of src run.store.staging)) run now i → length listing.items ≤ i → Follows plain src remove_staging_files run now
  staging-end w h = follows_as lawful (end lawful w h) (in_turn_lem (λ f. single (remove_staging f)) (staging_names (map_of src run.store.staging)) _ ∙ in_turn-single remove_staging (staging_names (map_of src run.store.staging)) _)
