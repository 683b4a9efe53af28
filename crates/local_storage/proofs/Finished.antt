-- `commit`, held or not, as an answer: the operations of the open transaction, and what the run did.
use Rattle.std.specs.Prelude.{if◌then◌else◌, Option, None, Some, Ok, Err}
use mathlib.Core.Path.{◌≡◌, refl, sym, ap, ◌∙◌}
use mathlib.Core.Bool.{Bool, true, false}
use Prim.Native.Nat.{ℕ}
use lib.ListN.{length}
use lib.Dec.{leb, eqb}
use borrow.Author.Tests.{eqb-true, eqb-false}
use Rattle.basics.specs.Base.{Bytes, is_some}
use Rattle.model.specs.Log.{journal, ops_of}
use Rattle.model.specs.Store as model
use Rattle.model.specs.Step.{Step, apply}
use Rattle.model.specs.Plan.{plan_ending, ending_at, without_mark}
use Rattle.laws.specs.LogLaws.{found-whole}
use Rattle.refusals.specs.declared.Refusal.TheVariants.{NoTransaction}
use Rattle.store.specs.Stores.{store_of, log_bytes}
use Rattle.store.specs.declared.Store.{Store}
use Rattle.plans.proofs.MachineLaws.{clash}
use Rattle.plans.specs.Runs as plans
use Rattle.plans.specs.Runs.{Cut, Whole}
use Rattle.plans.proofs.Budget.{past, not-past}
use Rattle.plans.proofs.ModelAnswers.{committed-cut, committed-whole, held_cut, held_whole, field-at}
use Rattle.steps.specs.Steps.{Fits}
use Rattle.steps.specs.CodeRuns.{left_of, Fresh}
use Rattle.steps.specs.declared.Run.{Run}
use Rattle.wal.specs.Logs.{ops_read}
use Rattle.wal.specs.declared.WalRead.{WalRead}
use Rattle.commit.specs.Commits as inner
use Rattle.commit.specs.Commits.{end_of}
use Rattle.commit.specs.declared.End.{End}
use Rattle.commit.specs.declared.End.TheVariants.{Remove, Hold}
use Rattle.local_storage.specs.Recording.{Opens}
use Rattle.local_storage.specs.Committing.{Commits}

abbrev with_no_mark : Store → Store
with_no_mark s = record { tree = s.tree; staging = s.staging; log = s.log; open_mark = false }

abbrev with_store : Store → Run → Run
with_store s r = record { store = s; budget = r.budget; stopped = r.stopped; refusal = r.refusal; last = r.last }

-- What the run of a commit comes to, by how it ends.
module _ (s : model.Store) {b : plans.Run model.Store Step} where
  at_cut : (end : End) {n : ℕ} → Cut apply (plan_ending (end_of end) s) n s b → ending_at (end_of end) n s ≡ (if b.stopped then b.store else without_mark b.store)
  at_cut Remove c = committed-cut s c
  at_cut Hold c = held_cut s c

  at-end : (end : End) → Whole apply (plan_ending (end_of end) s) s b → ending_at (end_of end) (length (plan_ending (end_of end) s)) s ≡ without_mark b.store
  at-end Remove w = committed-whole s w
  at-end Hold w = held_whole s w

-- 4.
pub nothing_open : {src : Bytes} {s : Store} {budget : Option ℕ} {r : Run} (end : End) → Fits src s → Opens src (store_of src s) None → Fresh s budget r → Commits end src s budget (record { run = r; found = Err NoTransaction })
nothing_open {src} end f w n = record { sound = n.sound src f; found = ((sym w.same, refl), n.store) }

-- What was read are the operations of the log.
pub ops_open : {src : Bytes} (s : Store) {t : WalRead} → Opens src (store_of src s) (Some t) → ops_read src t ≡ ops_of (journal (log_bytes src s.log))
ops_open {src} s {t} w = sym (ap ops_of (found-whole (store_of src s) (ops_read src t) (sym w.same)))

module _ {src : Bytes} {s : Store} {t : WalRead} (w : Opens src (store_of src s) (Some t)) {end : End} {budget : Option ℕ} {r : Run} (c : inner.Commits end src s budget r) where
  -- 16: what is left of the budget tells whether n is past the plan's end.
  some_left : (n : ℕ) → budget ≡ Some n → leb n (length (plan_ending (end_of end) (store_of src s))) ≡ eqb (left_of r.budget) 0
  some_left n l = go (eqb (left_of r.budget) 0) refl
    where
      go : (b : Bool) → eqb (left_of r.budget) 0 ≡ b → leb n (length (plan_ending (end_of end) (store_of src s))) ≡ b
      go true e = not-past apply (c.cut n l) (eqb-true (left_of r.budget) 0 e)
      go false e = past apply (c.cut n l) (eqb-false (left_of r.budget) 0 e)

  answers : (u : Store) → Fits src u → (budget ≡ None → store_of src u ≡ ending_at (end_of end) (length (plan_ending (end_of end) (store_of src s))) (store_of src s)) → ((n : ℕ) → budget ≡ Some n → store_of src u ≡ ending_at (end_of end) n (store_of src s)) →
      Commits end src s budget (record { run = with_store u r; found = Ok tt })
  answers u f p q = record {
    sound = record { fits = f; last = c.sound.last };
    found = (ap is_some (sym w.same), record { number = c.number; whole = p; cut = q; past = some_left; field = λ n k e. field-at (c.cut n e) k });
  }

  -- 01, Listings and file steps: "The open mark 0x14 goes with commit's last step".
  pub mark-stays : r.stopped ≡ true → Commits end src s budget (record { run = r; found = Ok tt })
  mark-stays e = answers r.store c.sound.fits (λ l. clash e (c.whole l).stopped) (λ n l. sym (at_cut (store_of src s) end (c.cut n l) ∙ rw e))

  pub mark-goes : r.stopped ≡ false → Commits end src s budget (record { run = with_store (with_no_mark r.store) r; found = Ok tt })
  mark-goes e =
      answers (with_no_mark r.store) (record { sound = record { tree = c.sound.fits.sound.tree; staging = c.sound.fits.sound.staging; log = c.sound.fits.sound.log }; within = c.sound.fits.within })
      (λ l. sym (at-end (store_of src s) end (c.whole l))) (λ n l. sym (at_cut (store_of src s) end (c.cut n l) ∙ rw e))
