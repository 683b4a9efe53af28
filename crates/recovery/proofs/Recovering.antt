-- `recover`, `revert` and `keep`: the start, the plan, and what the run comes to.
use Rattle.std.specs.Prelude.{if◌then◌else◌, Option, None, Some, Result, Ok, Err}
use Rattle.std.proofs.Math.Option as maths
use Rattle.std.proofs.Math.Option.{none, some}
use mathlib.Core.Path.{◌≡◌, refl, sym, ap, subst, ◌∙◌}
use mathlib.Core.List.{List}
use mathlib.Core.Bool.{Bool, true, false, ◌||◌}
use Prim.Native.Nat.{ℕ}
use native.Mathlib.Omega.{arith}
use Rattle.basics.specs.Map.{Map}
use Rattle.basics.specs.Base.{Bytes, any_of}
use Rattle.basics.specs.declared.Status.{Status}
use Rattle.basics.specs.declared.Status.TheVariants.{Recording, Committing, Held}
use Rattle.model.specs.Operation.{Op}
use Rattle.model.specs.Log.{Entries, Journal, committing, held, is_held, Ending, whole, truncated, undecodable, too_many, entries, journal}
use Rattle.model.specs.Store as model
use Rattle.model.specs.Store.{has_backup_files}
use Rattle.model.specs.Step.{Step, apply}
use Rattle.model.specs.Plan.{in_sequence, is_new_artifact, recover_parts, recover_fault, discarded_cause, recover_plan, unheld, revert_plan, keep_plan, without_mark}
use Rattle.refusals.specs.Numbers.{number_of}
use Rattle.refusals.specs.declared.Refusal.{Refusal}
use Rattle.store.specs.declared.LogRef.{LogRef}
use Rattle.store.specs.declared.Store.{Store}
use Rattle.store.specs.Tables.{map_of}
use Rattle.store.specs.Stores.{log_bytes, store_of}
use Rattle.plans.specs.Runs.{Cut, Whole}
use Rattle.plans.proofs.Budget.{plainly, limited_prefix, unlimited_whole}
use Rattle.plans.specs.ModelPlans.{plain}
use Rattle.steps.specs.Steps.{Fits}
use Rattle.steps.specs.declared.Run.{Run}
use Rattle.steps.specs.CodeRuns.{run_of, limited_by, left_of, Fresh, Follows}
use Rattle.steps.proofs.Running.{some-number}
use Rattle.wal.specs.declared.WalRead.{WalRead}
use Rattle.wal.specs.Logs.{cause_if, journal_of, ending_of, ops_read, entries_of}
use Rattle.wal.specs.declared.Cause.{Cause}
use Rattle.recovery.specs.declared.Recovered.{Recovered}
use Rattle.recovery.specs.Recoveries.{log_part, refusal_of, recovery_from, recovery, if_held, reverting, keeping, Begun, Ran, Done, Recovers}

-- A refusal that is told, and work that is allowed.
fault-told : (o : maths.Option ℕ) (e : Refusal) → number_of e ≡ refusal_of o → o ≡ some (number_of e)
fault-told none e h = absurd (some-number e h)
fault-told (some m) e h = ap some (sym h)

-- Recovery from a Committing log that is refused has a number other than 0.
fault-none : (o : List Op) (e : Ending) (t : Map) → 0 ≡ refusal_of (recover_fault (committing o e) t) → recover_fault (committing o e) t ≡ none
fault-none o whole t h = refl
fault-none o (truncated c) t h = go (has_backup_files t || any_of (is_new_artifact t) o) h
  where
    go : (b : Bool) → 0 ≡ refusal_of (if◌then◌else◌ {A = maths.Option ℕ} b (some 13) none) → if◌then◌else◌ {A = maths.Option ℕ} b (some 13) none ≡ none
    go true h = absurd (omega arith)
    go false h = refl
fault-none o undecodable t h = absurd (omega arith)
fault-none o too_many t h = absurd (omega arith)

-- A log that is not Held.
none-held : (src : Bytes) (l : Option LogRef) (q : Option Status) → (q ≡ Some Held → ⊥) → is_held (journal_of q (entries (log_part src l))) ≡ false
none-held src l None h = refl
none-held src l (Some Recording) h = refl
none-held src l (Some Committing) h = refl
none-held src l (Some Held) h = absurd (h refl)

-- The start.
pub begins : (src : Bytes) (s : Store) {u : Store} {budget : Option ℕ} {r : Run} → Fits src s → u ≡ record { tree = s.tree; staging = s.staging; log = s.log; open_mark = false } → Fresh u budget r → Begun src s budget r
begins src s {u} {budget} {r} h e f =
    let t = f.store ∙ e in
    record {
      sound = f.sound src (subst (Fits src) (sym e) (record { sound = record { tree = h.sound.tree; staging = h.sound.staging; log = h.sound.log }; within = h.within }));
      tree = ap (λ (v : Store). v.tree) t;
      store = ap (store_of src) t;
      fresh = subst (λ (v : Store). Fresh v budget r) (sym f.store) f;
    }

module _ {src : Bytes} {s : Store} {budget : Option ℕ} {start : Run} (b : Begun src s budget start) where
  -- The steps of a plan, done.
  ran : (f : model.Store → List Step) {r : Run} → Follows plain src f start r → Ran (f (without_mark (store_of src s))) src s budget r
  ran f {r} p = record {
    sound = p.sound;
    cut = λ n l. subst (λ (v : model.Store). Cut apply (f v) n v (run_of src r)) b.store
        (limited_prefix apply (plainly apply p.does) b.fresh.stopped n (ap limited_by (b.fresh.budget ∙ l)) (ap left_of (b.fresh.budget ∙ l)));
    whole = λ l. subst (λ (v : model.Store). Whole apply (f v) v (run_of src r)) b.store (unlimited_whole apply (plainly apply p.does) b.fresh.stopped (ap limited_by (b.fresh.budget ∙ l)));
  }

  pub does : (f : model.Store → List Step) {o : maths.Option ℕ} {k : ℕ} {c : Option Cause} {r : Run} → o ≡ none → cause_if c ≡ k → Follows plain src f start r →
      Done (record { fault = o; cause = k; steps = f (without_mark (store_of src s)) }) src s budget (record { cause = c; run = r })
  does f z i p = record { allowed = z; cause = i; ran = ran f p }

  -- Recovery from a log of this status, by the status and by what was read of the log.
  module _ (status : Option Status) where
    abbrev pub Recovering : Result Recovered Refusal → Type 0
    Recovering r = Recovers (recovery_from (journal_of status (entries (log_part src s.log))) (store_of src s)) src s budget r

    at_once : (j : Journal) → journal_of status (entries (log_part src s.log)) ≡ j → {c : Option Cause} {r : Run} → recover_fault j (map_of src s.tree) ≡ none → cause_if c ≡ discarded_cause j
        → Follows plain src (in_sequence (recover_parts j)) start r → Recovering (Ok (record { cause = c; run = r }))
    at_once j i {c} {r} z k p =
        subst (λ (q : Journal). Recovers (recovery_from q (store_of src s)) src s budget (Ok (record { cause = c; run = r }))) (sym i)
        (does (in_sequence (recover_parts j)) z k p)

    pub recovers : (q : Option Status) → status ≡ q → {c : Option Cause} {r : Run} → recover_fault (journal_of q (entries (log_part src s.log))) (map_of src s.tree) ≡ none
        → cause_if c ≡ discarded_cause (journal_of q (entries (log_part src s.log)))
        → Follows plain src (in_sequence (recover_parts (journal_of q (entries (log_part src s.log))))) start r → Recovering (Ok (record { cause = c; run = r }))
    recovers q h z k p = at_once (journal_of q (entries (log_part src s.log))) (ap (λ (x : Option Status). journal_of x (entries (log_part src s.log))) h) z k p

    module _ (h : status ≡ Some Committing) (w : WalRead) (i : entries_of src w ≡ entries (log_part src s.log)) where
      abbrev j : Journal
      j = committing (ops_read src w) (ending_of w.ending)

      read : journal_of status (entries (log_part src s.log)) ≡ j
      read = ap (λ (x : Option Status). journal_of x (entries (log_part src s.log))) h ∙ ap (λ (x : Entries). committing x.ops x.end) (sym i)

      pub undoes : {c : Option Cause} {r : Run} → 0 ≡ refusal_of (recover_fault j (map_of src start.store.tree)) → cause_if c ≡ discarded_cause j
          → Follows plain src (in_sequence (recover_parts j)) start r → Recovering (Ok (record { cause = c; run = r }))
      undoes f k p = at_once j read (fault-none (ops_read src w) (ending_of w.ending) (map_of src s.tree) (rw b.tree at f)) k p

      pub refuses : (e : Refusal) → number_of e ≡ refusal_of (recover_fault j (map_of src start.store.tree)) → Recovering (Err e)
      refuses e f = ap (λ (q : Journal). recover_fault q (map_of src s.tree)) read ∙ fault-told (recover_fault j (map_of src s.tree)) e (rw b.tree at f)

-- What a log is that was opened, and what is done with it.
module _ (src : Bytes) (s : Store) (status : Option Status) (e : journal_of status (entries (log_part src s.log)) ≡ journal (log_bytes src s.log)) where
  pub as_it_stands : (budget : Option ℕ) (r : Result Recovered Refusal) → Recovers (recovery_from (journal_of status (entries (log_part src s.log))) (store_of src s)) src s budget r
      → Recovers (recovery (store_of src s)) src s budget r
  unfolding recover_plan
  as_it_stands budget r p = subst (λ (j : Journal). Recovers (recovery_from j (store_of src s)) src s budget r) e p

  module _ (h : status ≡ Some Held) where
    is-held : journal (log_bytes src s.log) ≡ held (entries (log_part src s.log)).ops (entries (log_part src s.log)).end
    is-held = sym e ∙ ap (λ (q : Option Status). journal_of q (entries (log_part src s.log))) h

    pub reverts : (budget : Option ℕ) (r : Result Recovered Refusal) → Recovers (recovery_from (journal_of (Some Committing) (entries (log_part src s.log))) (store_of src s)) src s budget r
        → Recovers (reverting (store_of src s)) src s budget r
    unfolding revert_plan
    reverts budget r p =
        subst (λ (j : Journal). Recovers (record {
          fault = if is_held j then recover_fault (unheld j) (map_of src s.tree) else some 18;
          cause = discarded_cause (unheld j);
          steps = in_sequence (recover_parts (unheld j)) (without_mark (store_of src s));
        }) src s budget r) (sym is-held) p

    pub keeps : (budget : Option ℕ) (r : Result Recovered Refusal) → Recovers (record { fault = none; cause = 0; steps = keep_plan (without_mark (store_of src s)) }) src s budget r
        → Recovers (keeping (store_of src s)) src s budget r
    keeps budget r p =
        subst (λ (j : Journal). Recovers (record { fault = if is_held j then none else some 18; cause = 0; steps = keep_plan (without_mark (store_of src s)) }) src s budget r) (sym is-held) p

  -- 18.
  pub refused_18 : (f : maths.Option ℕ) → (status ≡ Some Held → ⊥) → if_held (store_of src s) f ≡ some 18
  refused_18 f o = ap (λ (b : Bool). if b then f else some 18) (ap is_held (sym e) ∙ none-held src s.log status o)
