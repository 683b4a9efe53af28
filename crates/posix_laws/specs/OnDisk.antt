-- Commit and recovery on disk: every call of every step succeeds, and after each step the disk is the disk of the
-- store that the definitions name.
use Rattle.std.specs.Prelude.{◌≡◌, Bool, true, false, length, take, if◌then◌else◌}
use Rattle.std.proofs.Math.Path.{refl, ap}
use Rattle.std.proofs.Common.{sym, ◌∙◌}
use Prim.Native.Nat.{ℕ, zero, suc, ◌-◌}
use mathlib.Core.List.{List, [], ◌∷◌, ◌++◌}
use Rattle.std.proofs.Math.Option.{none, some}
use Rattle.std.proofs.lemmas.Bool.{false≢true}
use Rattle.basics.specs.Order.{Name}
use Rattle.basics.specs.Base.{Bytes}
use Rattle.model.specs.Operation.{Op}
use Rattle.model.specs.Log.{Journal, absent, recording, committing, journal, ops_of, held, is_held}
use Rattle.model.specs.Store.{Store, files}
use Rattle.model.specs.Image.{decode}
use Rattle.model.specs.Step.{Step, rename_file, apply, apply_all, tag_and_names}
use Rattle.model.specs.Plan.{commit_plan, recover_plan, without_mark, without_mark_at_end, committed_at, recovered_at, plan_ending, ending_at, commit_end, hold_end, hold_plan, held_at, revert_plan, reverted_at, keep_plan, kept_at, shut_at}
use Rattle.model.specs.Record.{recorded_ops, transaction, other_case}
use Rattle.posix.specs.Posix.{Directory, Result, ok, and_then, calls}
use Rattle.posix.specs.Disk.{disk, step_calls}
use Rattle.basic_laws.specs.MapLaws.{none≢some}
use Rattle.basic_laws.specs.Tests.{All, all_imp}
use Rattle.laws.specs.ImageLaws.{decode-only}
use Rattle.basic_laws.specs.ValidNames.{Valid, Restored, valid_naming, restored_naming, valid_restores}
use Rattle.laws.specs.OperationLaws.{made-valid, journal-valid}
use Rattle.laws.specs.StoreLaws.{Good, good}
use Rattle.laws.specs.Listings.{files_in, files-named}
use Rattle.laws.specs.RecordLaws.{other_in}
use Rattle.laws.specs.Runs.{Runs, runs_map}
use Rattle.laws.specs.StepLaws.{Sound}
use Rattle.laws.specs.PlanLaws.{recover_runs, ending_runs, revert_runs, keep_runs, commit-end-keeps, hold-end-keeps}
use Rattle.posix_laws.specs.DiskLaws.{Done, step-done}
use Rattle.posix_laws.specs.ReadySteps.{AllReady, good_fair}
use Rattle.posix_laws.specs.PlainNames.{Plain, plan-names}
use Rattle.posix_laws.specs.DiskPlans.{Present, log-there, recover-ready, commit-ready, revert-ready, keep-ready, hold-ready}
use Rattle.posix_laws.specs.Ready.{IsName, LogStands}
use Rattle.laws.specs.PartLaws.{Keeps, sound-names}

-- Each step of a plan, in its turn: all its calls succeed and do what it does.
abbrev pub EachDone : (ℕ → Bytes) → List Step → Store → Type 0
EachDone bytes [] s = Unit {0}
EachDone bytes (x ∷ xs) s = Done bytes x s × EachDone bytes xs (apply x s)

-- The calls of a plan's steps, each step's from the disk that it finds.
unfoldable pub plan_run : List Step → Directory → Result Directory
plan_run [] t = ok t
plan_run (x ∷ xs) t = and_then (calls (step_calls x t) t) (plan_run xs)

-- All that is said of a plan on disk.
pub record OnDisk (bytes : ℕ → Bytes) (xs : List Step) (s : Store) : Type 0 where
  pub done : EachDone bytes xs s
  pub plain : All (λ x. All Plain (tag_and_names x).1) xs

module _ (bytes : ℕ → Bytes) where
  each-done : (N : Name → Type 0) (pre xs : List Step) (s : Store) → Runs (Sound N) pre xs s → AllReady xs s → EachDone bytes xs s
  each-done N pre [] s h r = tt
  each-done N pre (x ∷ xs) s h r = (step-done bytes s h.0.good x r.0, each-done N (pre ++ x ∷ []) xs (apply x s) h.1 r.1)

  on-disk : (xs : List Step) (s : Store) → Runs (Sound Restored) [] xs s → AllReady xs s → OnDisk bytes xs s
  on-disk xs s h r = record { done = each-done Restored [] xs s h r; plain = plan-names [] xs s h r }

  -- So any number of them.
  pub plan_run_lem : (xs : List Step) (s : Store) → EachDone bytes xs s → (n : ℕ) → plan_run (take n xs) (disk bytes s) ≡ ok (disk bytes (apply_all (take n xs) s))
  unfolding plan_run
  plan_run_lem [] s h zero = refl
  plan_run_lem [] s h (suc n) = refl
  plan_run_lem (x ∷ xs) s h zero = refl
  plan_run_lem (x ∷ xs) s h (suc n) = rw h.0 (plan_run_lem xs (apply x s) h.1 n)

  -- The rename that recording a Delete makes at once.
  pub case_done : {N : Name → Type 0} (c k f : Name) (s : Store) → Good N s → IsName k → other_case k (files c s.tree) ≡ some f → Done bytes (rename_file c f k) s
  case_done c k f s g z e = let i = other_in k (files c s.tree) f e in step-done bytes s g (rename_file c f k) ((files-named c s.tree f i, files_in c f s.tree i), z)

  -- The open mark is not on disk.
  mark-aside : (m : ℕ) (s : Store) → disk bytes (without_mark_at_end m s) ≡ disk bytes s
  unfolding disk
  mark-aside zero s = refl
  mark-aside (suc m) s = refl

  module _ (b : Bytes) (s : Store) (d : decode b ≡ some s) where
    well : Good Valid s
    well = good s (decode-only b s d).1

    well-unmarked : Good Valid (without_mark s)
    well-unmarked = record { tree = well.tree; staging = well.staging; log = well.log }

    -- A plan that starts without the open mark, by number of steps.
    shut-on-disk : (plan : Store → List Step) → OnDisk bytes (plan (without_mark s)) (without_mark s)
        → (n : ℕ) → plan_run (take n (plan (without_mark s))) (disk bytes s) ≡ ok (disk bytes (shut_at plan n s))
    shut-on-disk plan h n = ap (plan_run (take n (plan (without_mark s)))) (sym (mark-aside zero s)) ∙ plan_run_lem (plan (without_mark s)) (without_mark s) h.done n

    -- Recovery of every store that decode accepts.
    recover-run : Runs (Sound Restored) [] (recover_plan (without_mark s)) (without_mark s)
    recover-run = recover_runs valid_naming restored_naming valid_restores.kept (without_mark s) well-unmarked (λ ops e. valid_restores)

    pub recover-on-disk : OnDisk bytes (recover_plan (without_mark s)) (without_mark s)
    recover-on-disk = on-disk (recover_plan (without_mark s)) (without_mark s) recover-run (recover-ready (without_mark s) (good_fair (without_mark s) well-unmarked))

    pub recovered-on-disk : (n : ℕ) → plan_run (take n (recover_plan (without_mark s))) (disk bytes s) ≡ ok (disk bytes (recovered_at n s))
    unfolding recovered_at
    recovered-on-disk n = shut-on-disk recover_plan recover-on-disk n

    -- Revert; and keep where a Held log stands, as its entry asks. (So does revert's, but here it needs none.)
    pub revert-on-disk : OnDisk bytes (revert_plan (without_mark s)) (without_mark s)
    revert-on-disk =
        on-disk (revert_plan (without_mark s)) (without_mark s)
        (revert_runs valid_naming restored_naming valid_restores.kept (without_mark s) well-unmarked valid_restores)
        (revert-ready (without_mark s) (good_fair (without_mark s) well-unmarked))

    pub reverted-on-disk : (n : ℕ) → plan_run (take n (revert_plan (without_mark s))) (disk bytes s) ≡ ok (disk bytes (reverted_at n s))
    unfolding reverted_at
    reverted-on-disk n = shut-on-disk revert_plan revert-on-disk n

    module _ (e : is_held (journal s.log) ≡ true) where
      held-present : (j : Journal) → is_held j ≡ true → Present j
      held-present absent e = absurd (false≢true e)
      held-present (recording o x) e = tt
      held-present (committing o x) e = tt
      held-present (held o x) e = tt

      held-stands : LogStands (without_mark s)
      held-stands = log-there s.log (journal s.log) refl (held-present (journal s.log) e)

      pub keep-on-disk : OnDisk bytes (keep_plan (without_mark s)) (without_mark s)
      keep-on-disk =
          on-disk (keep_plan (without_mark s)) (without_mark s)
          (runs_map (Sound Valid) (Sound Restored) (sound-names valid_restores.kept) [] (keep_plan (without_mark s)) (without_mark s)
          (keep_runs valid_naming restored_naming valid_restores.kept (without_mark s) well-unmarked))
          (keep-ready (without_mark s) (good_fair (without_mark s) well-unmarked) held-stands)

      pub kept-on-disk : (n : ℕ) → plan_run (take n (keep_plan (without_mark s))) (disk bytes s) ≡ ok (disk bytes (kept_at n s))
      unfolding kept_at
      kept-on-disk n = shut-on-disk keep_plan keep-on-disk n

    -- Commit and hold of every transaction, whether a step of it fails or not.
    module _ (ops : List Op) (e : transaction s ≡ some ops) where
      recorded : (t : Bool) (j : Journal) → if◌then◌else◌ t (recorded_ops j) none ≡ some ops → Present j
      recorded true absent e = none≢some e
      recorded true (recording o x) e = tt
      recorded true (committing o x) e = tt
      recorded true (held o x) e = tt
      recorded false j e = none≢some e

      log-stands : LogStands s
      unfolding transaction
      log-stands = log-there s.log (journal s.log) refl (recorded s.open_mark (journal s.log) e)

      module _ (ends : List (Store → List Step)) (k : All (Keeps Valid) ends) (r : AllReady (plan_ending ends s) s) where
        ending-on-disk : OnDisk bytes (plan_ending ends s) s
        ending-on-disk =
            on-disk (plan_ending ends s) s
            (ending_runs valid_naming restored_naming valid_restores.kept s well ends k (all_imp made-valid (ops_of (journal s.log)) (journal-valid s.log)) (λ x p. valid_restores))
            r

        ended-on-disk : (n : ℕ) → plan_run (take n (plan_ending ends s)) (disk bytes s) ≡ ok (disk bytes (ending_at ends n s))
        unfolding ending_at
        ended-on-disk n =
            plan_run_lem (plan_ending ends s) s ending-on-disk.done n ∙ ap ok (sym (mark-aside (length (plan_ending ends s) - n) (apply_all (take n (plan_ending ends s)) s)))

      committing_ready : AllReady (commit_plan s) s
      committing_ready = commit-ready s (good_fair s well) log-stands

      pub commit-on-disk : OnDisk bytes (commit_plan s) s
      commit-on-disk = ending-on-disk commit_end (commit-end-keeps valid_naming) committing_ready

      pub committed-on-disk : (n : ℕ) → plan_run (take n (commit_plan s)) (disk bytes s) ≡ ok (disk bytes (committed_at n s))
      committed-on-disk n = ended-on-disk commit_end (commit-end-keeps valid_naming) committing_ready n

      holding-ready : AllReady (hold_plan s) s
      holding-ready = hold-ready s (good_fair s well) log-stands

      pub hold-on-disk : OnDisk bytes (hold_plan s) s
      hold-on-disk = ending-on-disk hold_end (hold-end-keeps valid_naming) holding-ready

      pub held-on-disk : (n : ℕ) → plan_run (take n (hold_plan s)) (disk bytes s) ≡ ok (disk bytes (held_at n s))
      held-on-disk n = ended-on-disk hold_end (hold-end-keeps valid_naming) holding-ready n
