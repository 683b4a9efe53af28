-- What `run` leaves, by what a commit, recovery, revert and keep answered.
use Rattle.std.specs.Prelude.{◌≡◌, refl, Bool, true, false, ℕ, zero, suc, ◌≤◌, List, [], ◌∷◌, length, take, leb, eqb, Option, Some, Result, Ok, Err, if◌then◌else◌, None}
use Rattle.std.specs.Result.{MatchResult, IsOkAnd}
use Rattle.std.proofs.Common.{sym, ap, subst, ◌∙◌, arith, leb-true, eqb-true, eq-eqb, ne_eqb}
use Rattle.std.proofs.Math.Option as maths
use Rattle.std.proofs.Math.Option.{none, some}
use Rattle.std.proofs.lemmas.Bool.{false≢true}
use Rattle.basics.specs.Map.{Map}
use Rattle.basics.specs.Base.{Bytes, case_option, is_some}
use Rattle.model.specs.Operation.{Op}
use Rattle.model.specs.Log.{Journal, is_held, journal}
use Rattle.model.specs.Store as model
use Rattle.model.specs.Image.{encode}
use Rattle.model.specs.Step as step
use Rattle.model.specs.Step.{step_field, Fault, fails, full, commit_number, field_at}
use Rattle.model.specs.Plan.{commit_fault, plan_ending, ending_at, recover_fault, recovered, recovered_at, unheld, reverted, reverted_at, kept, kept_at, without_mark}
use Rattle.model.specs.Record.{transaction}
use Rattle.answers.specs.Answers.{Answer, refusal, answer, ending_store, recover_store, revert_store, keep_store, step_answer, ending_step}
use Rattle.answer_laws.specs.EntryLaws.{recover-numbers}
use Rattle.basic_laws.specs.MapLaws.{none≢some, some_inj}
use Rattle.basic_laws.specs.Tests.{all_in}
use Rattle.refusals.specs.Numbers.{number_of}
use Rattle.refusals.specs.declared.Refusal.{Refusal}
use Rattle.store.specs.Tables.{map_of}
use Rattle.store.specs.Stores.{AsRead, store_of}
use Rattle.store.specs.declared.Store.{Store}
use Rattle.plans.proofs.Budget.{past, not-past}
use Rattle.steps.specs.Steps.{step_of, Fits, Within}
use Rattle.steps.specs.CodeRuns.{left_of, SoundRun}
use Rattle.steps.specs.declared.Run.{Run}
use Rattle.steps.proofs.Room.{of-good}
use Rattle.recovery.specs.Recoveries.{Work, recovery, reverting, keeping, Done, Recovers}
use Rattle.recovery.specs.RecoveryLaws.{done-is, done_at, last-field}
use Rattle.recovery.specs.declared.Recovered.{Recovered}
use Rattle.commit.specs.Commits.{end_of}
use Rattle.commit.specs.declared.End.{End}
use Rattle.commit.specs.declared.End.TheVariants as end
use Rattle.local_storage.specs.Recording.{Ready}
use Rattle.local_storage.specs.Committing.{Ended}
use Rattle.handover.specs.Contract.{hands_back}
use Rattle.handover.specs.Opening.{Held, field_of, stepped}
use Rattle.running.specs.Planning.{plan_store, plan_at, plan_cause, commit_of, ran_of, RefusedWith, Leaves, Runs}
use Rattle.running.specs.declared.Planned.{Planned}
use Rattle.running.specs.declared.Ran.{Ran}
use Rattle.running.specs.declared.Planned.TheVariants.{Recover, Revert, Keep}

-- What the store of an image meets.
module _ {image : Bytes} {s : Store} (h : Held image s) where
  fits : Fits image s
  fits = record { sound = h.sound; within = of-good h.well }

  short : length image ≤ 0xFFFF
  short = let l = h.short in omega arith

  pub committable : Ready image s × Within (map_of image s.tree)
  committable = (record { sound = h.sound; readable = record { log = h.sound.log; plain = h.plain; short = short } }, of-good h.well)

  pub recoverable : Fits image s × (AsRead s.log × (length image ≤ 0xFFFF))
  recoverable = (fits, (h.plain, short))

  pub keepable : Fits image s × AsRead s.log
  keepable = (fits, h.plain)

-- An answer by the steps that are left.
step_same : (src : Bytes) (r : Run) (n : ℕ) (plan : List step.Step) (m : model.Store) → leb n (length plan) ≡ eqb (left_of r.budget) 0 → store_of src r.store ≡ m
    → ((k : ℕ) → n ≡ suc k → n ≤ length plan → field_at n plan ≡ step_field (step_of src r.last)) → step_answer n plan m ≡ stepped src r n
unfolding stepped field_of
step_same src r n plan m e i f = sym (go (eqb (left_of r.budget) 0) refl)
  where
    field : (j : ℕ) → n ≡ j → n ≤ length plan → (if eqb j 0 then [] else step_field (step_of src r.last)) ≡ field_at j plan
    field zero q h = refl
    field (suc k) q h = rw (ne_eqb (suc k) 0 (λ x. omega arith)) (sym (subst (λ (j : ℕ). field_at j plan ≡ step_field (step_of src r.last)) q (f k q h)))

    go : (b : Bool) → eqb (left_of r.budget) 0 ≡ b →
        (if b then record { number = 0; image = encode (store_of src r.store); step = if eqb n 0 then [] else step_field (step_of src r.last) } else refusal 16) ≡ step_answer n plan m
    go true q =
        let t = e ∙ q in
        let d = field n refl (leb-true n (length plan) t) in
        (λ j. record { number = 0; image = encode (i j); step = d j }) ∙ rw t
    go false q = rw (e ∙ q)

-- An answer where a transaction is found.
when-found : (t : maths.Option (List Op)) (a : Answer) → is_some t ≡ true → case_option t (refusal 4) (λ ops. a) ≡ a
when-found none a e = absurd (false≢true e)
when-found (some ops) a e = refl

same_answer : {m n : ℕ} {s t : model.Store} → m ≡ n → s ≡ t → answer m s ≡ answer n t
same_answer p q = λ i. record { number = p i; image = encode (q i); step = [] }

back-number : (q : maths.Option Fault) → hands_back (commit_number q) ≡ true
back-number none = refl
back-number (some fails) = refl
back-number (some full) = refl

-- The refusals of recovery, of revert and of keep hand nothing back.
fault-alone : (j : Journal) (t : Map) (k : ℕ) → recover_fault j t ≡ some k → hands_back k ≡ false
fault-alone j t k e = all_in (λ n. hands_back n ≡ false) (11 ∷ 12 ∷ 13 ∷ []) (refl, (refl, (refl, tt))) k (recover-numbers [] j t k e)

held-alone : (b : Bool) (o : maths.Option ℕ) → ((k : ℕ) → o ≡ some k → hands_back k ≡ false) → (k : ℕ) → (if b then o else some 18) ≡ some k → hands_back k ≡ false
held-alone true o h k e = h k e
held-alone false o h k e = ap hands_back (sym (some_inj e))

-- 18, or what follows.
by-held : (b : Bool) (o : maths.Option ℕ) (a : Answer) → (if b then case_option o a refusal else refusal 18) ≡ case_option (if b then o else some 18) a refusal
by-held true o a = refl
by-held false o a = refl

-- A commit by how it ends.
stores : (e : End) (s : model.Store) → plan_store (commit_of e) s ≡ ending_store (end_of e) s
stores end.Remove s = refl
stores end.Hold s = refl

steps_of : (e : End) (n : ℕ) (s : model.Store) → plan_at (commit_of e) n s ≡ ending_step (end_of e) n s
steps_of end.Remove n s = refl
steps_of end.Hold n s = refl

no-cause : (e : End) (s : model.Store) → 0 ≡ plan_cause (commit_of e) s
no-cause end.Remove s = refl
no-cause end.Hold s = refl

-- What recovery, revert and keep answer is handed on, with what each left.
abbrev pub Maps : Result Recovered Refusal → Result Ran Refusal → Type 0
Maps a b = MatchResult a (λ r. IsOkAnd b (λ x. x ≡ ran_of r)) (λ e. b ≡ Err e)

mapped : (b : Result Ran Refusal) {y : Ran} → IsOkAnd b (λ x. x ≡ y) → b ≡ Ok y
mapped (Ok x) q = ap Ok q
mapped (Err e) q = absurd q

module _ (image : Bytes) (s : Store) (budget : Option ℕ) where
  module _ (e : End) where
    pub commit_refused : {r : Refusal} → (transaction (store_of image s) ≡ none) × (number_of r ≡ 4) → RefusedWith (commit_of e) image s budget r
    unfolding ending_store
    commit_refused f = record {
      whole = λ l. stores e (store_of image s) ∙ rw (f.0, f.1);
      cut = λ n l. steps_of e n (store_of image s) ∙ rw (f.0, f.1);
      alone = ap hands_back f.1;
    }

    pub commit_leaves : {r : Run} → SoundRun image r → is_some (transaction (store_of image s)) ≡ true → Ended e image s budget r
        → Leaves (commit_of e) image s budget (record { run = r; refusal = r.refusal; cause = None })
    unfolding ending_store
    commit_leaves {r} w f c = let S : model.Store = store_of image s in let plan : List step.Step = plan_ending (end_of e) (store_of image s) in record {
      cause = no-cause e S;
      sound = w;
      whole = λ l.
          stores e S
          ∙ when-found (transaction S) (answer (commit_number (commit_fault S)) (ending_at (end_of e) (length plan) S)) f
          ∙ same_answer (sym (c.number l)) (sym (c.whole l));
      cut = λ n l.
          steps_of e n S
          ∙ when-found (transaction S) (step_answer n plan (ending_at (end_of e) n S)) f
          ∙ step_same image r n plan (ending_at (end_of e) n S) (c.past n l) (c.cut n l) (λ k. c.field n k l);
      told = λ l. ap hands_back (c.number l) ∙ back-number (commit_fault S);
    }

  -- Recovery, revert and keep, by what each is: the answers, the cause, and refusals that hand nothing back.
  module _ (p : Planned) (w : Work)
      (x : plan_store p (store_of image s) ≡ case_option w.fault (answer 0 (step.apply_all w.steps (without_mark (store_of image s)))) refusal)
      (y : (n : ℕ) → plan_at p n (store_of image s) ≡ case_option w.fault (step_answer n w.steps (step.apply_all (take n w.steps) (without_mark (store_of image s)))) refusal)
      (z : plan_cause p (store_of image s) ≡ w.cause) (h : (k : ℕ) → w.fault ≡ some k → hands_back k ≡ false) where
    shut : {e : Refusal} → w.fault ≡ some (number_of e) → RefusedWith p image s budget e
    shut {e} f = record { whole = λ l. x ∙ rw f; cut = λ n l. y n ∙ rw f; alone = h (number_of e) f }

    cut : (n : ℕ) {r : Recovered} → Done w image s (Some n) r → plan_at p n (store_of image s) ≡ stepped image r.run n
    cut n {r} c =
        y n
        ∙ rw c.allowed (step_same image r.run n w.steps (step.apply_all (take n w.steps) (without_mark (store_of image s)))
        (ends (eqb (left_of r.run.budget) 0) refl) (sym (done_at c)) (last-field c))
      where
        ends : (b : Bool) → eqb (left_of r.run.budget) 0 ≡ b → leb n (length w.steps) ≡ eqb (left_of r.run.budget) 0
        ends true e = not-past step.apply (c.ran.cut n refl) (eqb-true _ _ e) ∙ sym e
        ends false e = past step.apply (c.ran.cut n refl) (λ q. false≢true (sym e ∙ eq-eqb _ _ q)) ∙ sym e

    settled : (a : Result Recovered Refusal) → Recovers w image s budget a → (b : Result Ran Refusal) → Maps a b → Runs p image s budget b
    settled (Err e) f b q = rw q (shut f)
    settled (Ok r) c b q = rw (mapped b q) (record {
      cause = c.cause ∙ sym z;
      sound = c.ran.sound;
      whole = λ l. x ∙ rw c.allowed (same_answer refl (done-is (subst (λ (o : Option ℕ). Done w image s o r) l c)));
      cut = λ n l. cut n (subst (λ (o : Option ℕ). Done w image s o r) l c);
      told = λ l. refl;
    })

  pub recover_runs : (a : Result Recovered Refusal) → Recovers (recovery (store_of image s)) image s budget a → (b : Result Ran Refusal) → Maps a b → Runs Recover image s budget b
  unfolding recover_store recovered recovered_at
  recover_runs a = settled Recover (recovery (store_of image s)) refl (λ n. refl) refl (fault-alone (journal (store_of image s).log) (store_of image s).tree) a

  pub revert_runs : (a : Result Recovered Refusal) → Recovers (reverting (store_of image s)) image s budget a → (b : Result Ran Refusal) → Maps a b → Runs Revert image s budget b
  unfolding revert_store reverted reverted_at
  revert_runs a =
      let j : Journal = journal (store_of image s).log in
      let o : maths.Option ℕ = recover_fault (unheld j) (store_of image s).tree in
      settled Revert (reverting (store_of image s)) (by-held (is_held j) o _) (λ n. by-held (is_held j) o _) refl (held-alone (is_held j) o (fault-alone (unheld j) (store_of image s).tree)) a

  pub keep_runs : (a : Result Recovered Refusal) → Recovers (keeping (store_of image s)) image s budget a → (b : Result Ran Refusal) → Maps a b → Runs Keep image s budget b
  unfolding keep_store kept kept_at
  keep_runs a =
      let j : Journal = journal (store_of image s).log in
      settled Keep (keeping (store_of image s)) (by-held (is_held j) none _) (λ n. by-held (is_held j) none _) refl (held-alone (is_held j) none (λ k e. none≢some e)) a
