-- A commit goes through the phases: one that meets no failing step, and one that does, with the syncs that its rollback is given.
use Rattle.std.specs.Prelude.{◌≡◌, ℕ, zero, suc, Bool, false, ◌⊎◌, take}
use Rattle.std.proofs.Math.Path.{refl, sym, ap, subst}
use Rattle.std.proofs.Common.{◌∙◌, arith}
use mathlib.Core.List.{List, [], ◌∷◌, ◌++◌, map, reverse, append_assoc, append-nil}
use Rattle.std.proofs.Math.Option.{Option, none, some}
use Rattle.std.proofs.Math.Bool.{true}
use Rattle.std.proofs.lemmas.Bool.{false≢true}
use Rattle.std.proofs.Math.Logic.{inl, inr}
use Rattle.basics.specs.Order.{Name}
use Rattle.basics.specs.Map.{Map, look, Has}
use Rattle.basics.specs.Base.{In, is_in, is_some, case_option, if_present}
use Rattle.model.specs.Operation.{Op}
use Rattle.model.specs.Log.{committing, journal, whole}
use Rattle.model.specs.Store.{Store, staging_names}
use Rattle.model.specs.Step.{Step, rewrite_header, sync_staging, sync_log, remove_log, sync_journal, sync_collections, sync_directory, tag_and_names, apply, apply_all, Fault}
use Rattle.model.specs.Plan.{in_turn, run, undo_steps, restore_backups, remove_backups, remove_staging_files, sync_existing, first_namings, collection_of}
use Rattle.model.specs.Plan.{steps_before_fault, commit_fault, commit_end, commit_plan}
use Rattle.basic_laws.specs.NameLaws.{original-nil}
use Rattle.basic_laws.specs.Tests.{All, all_append, all_imp, in_of, of_in}
use Rattle.laws.specs.Listings.{any-map, any-to-map}
use Rattle.laws.specs.LogLaws.{recorded-stands, committed-stands}
use Rattle.laws.specs.Runs.{Runs, runs_append, runs_end, runs_map, runs_take}
use Rattle.cut_rule.specs.Kinds.{Marked}
use Rattle.cut_rule.proofs.StoreRule.{old-dir, Transacts}
use Rattle.cut_rule.proofs.Walk.{Through, through-end, through_append, through-map, cautious_through, cautious_before}
use Rattle.cut_rule.proofs.Directories.{inv-start}
use Rattle.cut_rule.proofs.Clean.{Tidy, old-tidy, clean_all}
use Rattle.cut_rule.proofs.Heal.{Ended, unstage_through, ended-unstaged}
use Rattle.cut_rule.proofs.Commit
use Rattle.cut_rule.proofs.Commit.{M, begun-mid, steps-apply, plan-is, final, no-fault-first, applied-mid, final-tidy, unlogged-ended, final-agrees}
use Rattle.cut_rule.proofs.Count.{naming_has}
use Rattle.power.specs.Loss.{Area, collections_area, journal_area, log_area, files_area, AllInPlace, removes_log, with_syncs, synced_commit}
use Rattle.power.proofs.Could.{in_left_lem, in_right_lem, Idles, idles-end, idles-through, through-both, Could, could_nil, could_map, could_both, could_step}
use Rattle.power.proofs.Could.{could_sync, tied, Coulds, Goes, goes-run, idles_could}
use Rattle.power.proofs.Synced.{sync-idles, with_append, with_same}
use Rattle.power.proofs.Stays.{StaysIn, stays-keeps, stays-through, Flat, PlainName, flat-through, turn-all, present-all, before-all, ops-stay}
use Rattle.power.proofs.Torn.{Whole, whole-idle}
use Rattle.power.proofs.Phases.{Case, plain_of, SameFiles, PlainFiles, Undone, undone-dirs, undone-empty, Resting, Committing, Under, Working, LogGoes}
use Rattle.power.proofs.Phases.{Removed, Works, Removes, Overs, Phase, resting, working, removed, over, LogRests, still-rests, work-run, over-run}
use Rattle.power.proofs.Recovering.{calm-sync, back-run, over-sync}

-- The syncs of the collections that a commit names.
syncs-all : (G : Step → Type 0) → ((d : Name) → G (sync_directory d)) → (l : List Name) (u : Store) → All G (in_turn sync_existing l u)
unfolding sync_existing
syncs-all G h l u = turn-all G sync_existing l (λ d i v. present-all G (look (d, []) v.tree) (sync_directory d ∷ []) (h d, tt)) u

syncs_in : (d : Name) (l : List Name) (u : Store) → Has (d, []) u.tree → In d l → In (sync_directory d) (in_turn sync_existing l u)
unfolding sync_existing
syncs_in d [] u h x'' = elim x'' [ ]
syncs_in d (c ∷ l) u h (inl e) =
    in_left_lem (sync_directory d) (sync_existing c u) (in_turn sync_existing l (apply_all (sync_existing c u) u)) (rw (← e) (rw h.1 (inl refl)))
syncs_in d (c ∷ l) u h (inr i) =
    in_right_lem (sync_directory d) (sync_existing c u) (in_turn sync_existing l (apply_all (sync_existing c u) u))
    (syncs_in d l (apply_all (sync_existing c u) u) (go (look (c, []) u.tree)) i)
  where
    go : {A : Type 0} (q : Option A) → Has (d, []) (apply_all (if_present q (sync_directory c ∷ [])) u).tree
    go none = h
    go (some x) = unfold apply in h

-- What was done with 0x2E, where it is the first: the steps before it, it, and some behind it.
abbrev Other : Step → Type 0
Other x = sync_journal ≡ x → ⊥

kept-split : (xs ys : List Step) (n : ℕ) → All Other xs → In sync_journal (take n (xs ++ sync_journal ∷ ys)) →
    (m : ℕ) × (take n (xs ++ sync_journal ∷ ys) ≡ (xs ++ sync_journal ∷ []) ++ take m ys)
kept-split xs ys zero h i = absurd i
kept-split [] ys (suc n) h i = (n, refl)
kept-split (x ∷ xs) ys (suc n) h (inl e) = absurd (h.0 e)
kept-split (x ∷ xs) ys (suc n) h (inr i) = let r = kept-split xs ys n h.1 i in (r.0, ap (λ (zs : List Step). x ∷ zs) r.1)

-- A step that was done, or the steps done all stand before it.
done_or_before : (x : Step) (xs ys : List Step) (n : ℕ) → In x (take n (xs ++ x ∷ ys)) ⊎ ((j : ℕ) × (take n (xs ++ x ∷ ys) ≡ take j xs))
done_or_before x xs ys zero = inr (0, refl)
done_or_before x [] ys (suc n) = inl (inl refl)
done_or_before x (y ∷ xs) ys (suc n) = go (done_or_before x xs ys n)
  where
    go : In x (take n (xs ++ x ∷ ys)) ⊎ ((j : ℕ) × (take n (xs ++ x ∷ ys) ≡ take j xs)) →
        In x (y ∷ take n (xs ++ x ∷ ys)) ⊎ ((j : ℕ) × (y ∷ take n (xs ++ x ∷ ys) ≡ take j (y ∷ xs)))
    go (inl i) = inl (inr i)
    go (inr r) = inr (suc r.0, ap (λ (zs : List Step). y ∷ zs) r.1)

stays-other : (P : Name → Type 0) (x : Step) → StaysIn P x → Other x
stays-other P x h e = subst (StaysIn P) (sym e) h

removal_other : Other remove_log
unfolding tag_and_names
removal_other e = let z : ◌≡◌ {A = ℕ} 0x2E 0x2B = ap (λ (y : Step). (tag_and_names y).0) e in absurd (omega arith)

module _ (s : Store) (ops : List Op) (T : Transacts s ops) (place : AllInPlace ops) (m : Marked ops) where
  abbrev O : Map
  O = s.tree

  -- The store with the header rewritten, the steps of all operations, and the store behind them.
  abbrev begun : Store
  begun = Commit.begun s ops T

  abbrev steps : List Step
  steps = Commit.steps s ops T

  abbrev applied : Store
  applied = Commit.applied s ops T

  -- Up to the log's sync.
  abbrev pre : List Step
  pre = rewrite_header ∷ sync_staging ∷ sync_log ∷ []

  abbrev Plain : Step → Type 0
  Plain = StaysIn PlainName

  steps-plain : All Plain steps
  steps-plain = ops-stay PlainName ops place (λ a i. plain_of O a (place a i) (T.good a i)) begun

  flat-begun : Flat begun.tree
  flat-begun = unfold apply in (λ e k g p. old-dir T.old e k g p)

  -- Before the log's sync: nothing was done, and the log is whole.
  abbrev Starts : Store → Type 0
  Starts u = (u.tree ≡ O) × Whole ops (journal u.log)

  abbrev Starting : List Step → Store → Type 0
  Starting = Goes s (λ a. Starts) Starts (λ x. Unit {0})

  starting : Runs Starting [] pre s
  unfolding apply
  starting =
      goes-run s (λ a. Starts) Starts (λ x. Unit {0}) (λ v h a. h) (λ x y k. tt) [] pre s
      (λ a. could_nil s a Starts (refl, inl T.logged), (refl, inl T.logged), refl, tt)
      ((refl, inl T.logged), ((refl, inr log), ((refl, inr log), (refl, inr log))))
    where
      log : journal begun.log ≡ committing ops whole
      log = (begun-mid s ops T).log

  module _ {f : Map} (C : Case ops s.tree f) where
    rests : (done : List Step) (u : Store) → Starting done u → Phase C true s done u
    rests done u g =
        resting (λ a. could_map s a Starts (Resting C true s a) done (λ v h. still-rests C true s v (h.0, log v h.1) a) (g.0 a), (g.1.0, log u g.1.1), g.2, tt)
      where
        log : (v : Store) → Whole ops (journal v.log) → LogRests C true s v
        log v w = inr (whole-idle ops (journal v.log) w, λ z. w)

    first_run : (xs : List Step) → Runs (Phase C true s) pre xs begun → Runs (Phase C true s) [] (rewrite_header ∷ sync_staging ∷ sync_log ∷ xs) s
    unfolding apply
    first_run xs h = (
      rests [] s starting.0,
      (rests (rewrite_header ∷ []) begun starting.1.0, (rests (rewrite_header ∷ sync_staging ∷ []) begun starting.1.1.0, h)),
    )

    -- The log is synced.
    logged : Works C true s pre begun
    unfolding apply
    logged = (all, (start, (begun-mid s ops T).log), refl, λ e. inr (inr (inl refl)))
      where
        g : Starting pre begun
        g = runs_end Starting [] pre s starting

        start : Undone ops O O
        start = record { inv = inv-start T.old; flat = λ e k g p. old-dir T.old e k g p }

        undone : (a : Area) → Could s a (λ u. Undone ops O u.tree) pre
        undone a = could_map s a Starts (λ u. Undone ops O u.tree) pre (λ u h. subst (Undone ops O) (sym h.0) start) (g.0 a)

        stands : (u : Store) → Whole ops (journal u.log) → is_some u.log ≡ true
        stands u (inl e) = recorded-stands u.log ops whole e
        stands u (inr e) = committed-stands u.log ops whole e

        all : Coulds s (Working C true s) pre
        all collections_area = undone collections_area
        all journal_area = could_map s journal_area Starts (λ u. is_some u.log ≡ true) pre (λ u h. stands u h.1) (g.0 journal_area)
        all log_area = could_sync s log_area (Committing C true s) (rewrite_header ∷ sync_staging ∷ []) begun refl (begun-mid s ops T).log
        all (files_area d) = undone (files_area d)

    -- The operations' steps, all or up to the first failing one.
    doing : (xs : List Step) → Through (M s ops T) xs begun → All Plain xs → Runs (Works C true s) pre xs begun
    doing xs h k =
        work-run C true s pre xs begun logged (through-map (λ v. M s ops T v × Flat v.tree) (Under C true s)
        (λ v i. (record { inv = i.0.inv; flat = i.1 }, i.0.log)) xs begun
        (through-both (M s ops T) (λ v. Flat v.tree) xs begun h (flat-through xs begun k flat-begun)))

    working-run : (done xs : List Step) (u : Store) → Runs (Works C true s) done xs u → Runs (Phase C true s) done xs u
    working-run done xs u h = runs_map (Works C true s) (Phase C true s) (λ x v k. working k) done xs u h

  -- A commit that meets a failing step: nothing is to come but the tree from before.
  coming : {f : Map} → Tidy f → ((d : Name) → PlainName d → look (d, []) f ≡ look (d, []) O) → Case ops O f
  coming t h = record { old = T.old; good = T.good; in_place = place; marked = m; tidy = t; same_dirs = h }

  pub old_case : Case ops s.tree s.tree
  old_case = coming (old-tidy T.old) (λ d p. refl)

  pub failing-run : (e : Fault) → commit_fault s ≡ some e → Runs (Phase old_case true s) [] (synced_commit s) s
  unfolding synced_commit removes_log tag_and_names apply
  failing-run e q =
      subst (λ (z : Option Fault). Runs Q [] (case_option z (commit_plan s) (λ e. with_syncs (commit_plan s) s)) s) (sym q)
      (subst (λ (zs : List Step). Runs Q [] (with_syncs zs s) s) (sym (plan-is s ops T commit_end (some e) q))
      (first_run old_case (with_syncs (xs ++ back) begun) (subst (λ (zs : List Step). Runs Q pre zs begun) (sym plain)
      (runs_append Q pre xs (with_syncs back u) begun (working-run old_case pre xs begun work)
      (back-run old_case true s (sync_journal ∷ []) (calm-sync journal_area, tt) (pre ++ xs) u (runs_end (Works old_case true s) pre xs begun work))))))
    where
      Q : List Step → Store → Type 0
      Q = Phase old_case true s

      xs : List Step
      xs = steps_before_fault steps begun

      u : Store
      u = apply_all xs begun

      back : List Step
      back = in_turn run (in_turn undo_steps (reverse ops) ∷ restore_backups ∷ (λ s. remove_log ∷ sync_journal ∷ []) ∷ remove_staging_files ∷ []) u

      stay : All Plain xs
      stay = before-all Plain steps begun steps-plain

      plain : with_syncs (xs ++ back) begun ≡ xs ++ with_syncs back u
      plain =
          with_append xs back begun ∙ ap (λ (zs : List Step). zs ++ with_syncs back u) (with_same xs begun (all_imp (stays-keeps PlainName) xs stay))

      work : Runs (Works old_case true s) pre xs begun
      work = doing old_case xs (cautious_before (M s ops T) steps begun (steps-apply s ops T).0) stay

  -- One that goes through.
  module _ (q : commit_fault s ≡ none) where
    abbrev F : Map
    F = final s ops T

    applied-undone : Undone ops O applied.tree
    applied-undone = record {
      inv = (applied-mid s ops T q).inv;
      flat = through-end (λ v. Flat v.tree) steps begun (flat-through steps begun steps-plain flat-begun);
    }

    pub new_case : Case ops s.tree (final s ops T)
    new_case =
        coming (final-tidy s ops T q) (λ d p. final-agrees s ops T q d [] p original-nil ∙ undone-dirs old_case applied.tree applied-undone d)

    syncs : List Step
    syncs = in_turn sync_existing (first_namings [] (map collection_of ops)) applied

    syncs-idle : All Idles syncs
    unfolding syncs
    syncs-idle = syncs-all Idles (λ d. sync-idles (files_area d)) (first_namings [] (map collection_of ops)) applied

    -- Up to the syncs of the collections that are named, and of their directory: whatever is to come.
    done₀ : List Step
    done₀ = pre ++ steps ++ syncs

    done₁ : List Step
    done₁ = done₀ ++ sync_collections ∷ []

    module _ {f : Map} (C : Case ops s.tree f) where
      doing-all : Runs (Works C true s) pre steps begun
      doing-all = doing C steps (cautious_through (M s ops T) steps begun (steps-apply s ops T).0 (no-fault-first s ops T q)) steps-plain

      works-applied : Works C true s (pre ++ steps) applied
      works-applied = runs_end (Works C true s) pre steps begun doing-all

      syncing : Runs (Works C true s) (pre ++ steps) syncs applied
      syncing =
          work-run C true s (pre ++ steps) syncs applied works-applied (idles-through (Under C true s) syncs applied syncs-idle works-applied.1)

      works-synced : Works C true s done₀ applied
      unfolding done₀
      works-synced = subst (Works C true s (pre ++ steps ++ syncs)) (idles-end syncs applied syncs-idle) (runs_end (Works C true s) (pre ++ steps) syncs applied syncing)

      works_done₁ : Works C true s done₁ applied
      unfolding done₁ apply
      works_done₁ = (work-run C true s done₀ (sync_collections ∷ []) applied works-synced (works-synced.1, works-synced.1)).1

      -- What follows behind them.
      front-run : (end : List Step) → (Works C true s done₁ applied → Runs (Phase C true s) done₁ end applied) →
          Runs (Phase C true s) [] (pre ++ (steps ++ (syncs ++ sync_collections ∷ end))) s
      unfolding done₀ done₁ apply
      front-run end h =
          first_run C (steps ++ (syncs ++ sync_collections ∷ end)) (runs_append Q pre steps (syncs ++ sync_collections ∷ end) begun (working-run C pre steps begun doing-all)
          (runs_append Q (pre ++ steps) syncs (sync_collections ∷ end) applied (working-run C (pre ++ steps) syncs applied syncing)
          (subst (Runs Q done₀ (sync_collections ∷ end)) (sym (idles-end syncs applied syncs-idle)) (working works-synced, h works_done₁))))
        where
          Q : List Step → Store → Type 0
          Q = Phase C true s

    worked : Works new_case true s (pre ++ steps) applied
    worked = works-applied new_case

    synced : Works new_case true s done₀ applied
    synced = works-synced new_case

    -- Then each collection is done.
    Ready : Name → Store → Type 0
    Ready d v = Undone ops O v.tree × PlainFiles F d v.tree

    applied-ready : (d : Name) → Ready d applied
    unfolding Ready
    applied-ready d = (applied-undone, λ k p r. sym (final-agrees s ops T q d k p r))

    -- One that no operation names stays as it is.
    spared : (d : Name) → (In d (map collection_of ops) → ⊥) → Could s (files_area d) (λ v. SameFiles O d v.tree) done₀ × SameFiles O d applied.tree
    unfolding done₀
    spared d n = (idles_could s (files_area d) Q (pre ++ steps) syncs applied worked.2 syncs-idle g.1 (inr (g.0 (files_area d))), g.1)
      where
        Q : Store → Type 0
        Q v = SameFiles O d v.tree

        G : List Step → Store → Type 0
        G = Goes s (λ a. Q) Q (λ x. Unit {0})

        through : Through Q steps begun
        through =
            stays-through (λ c. In c (map collection_of ops)) Q (λ u v a h k. a d k n ∙ h k) steps begun
            (ops-stay (λ c. In c (map collection_of ops)) ops place
            (λ a i. any-to-map (λ c. collection_of a ≡ c) collection_of ops (any-map (λ c e. ap collection_of e) ops i)) begun)
            (unfold apply in (λ k. refl))

        from : G pre begun
        from =
            let st = runs_end Starting [] pre s starting in
            unfold apply in (λ a. could_map s a Starts Q pre (λ u h k. ap (look (d, k)) h.0) (st.0 a), λ k. refl, refl, tt)

        g : G (pre ++ steps) applied
        g = runs_end G pre steps begun (goes-run s (λ a. Q) Q (λ x. Unit {0}) (λ v h a. h) (λ x y k. tt) pre steps begun from through)

    ready : (d : Name) → Could s (files_area d) (Ready d) done₀
    ready d = go (look (d, []) O) refl (is_in d (map collection_of ops)) refl
      where
        same : Could s (files_area d) (λ v. SameFiles O d v.tree) done₀ → SameFiles O d applied.tree → Could s (files_area d) (Ready d) done₀
        same c a = unfold Ready in (
            could_map s (files_area d) (λ v. Undone ops O v.tree × SameFiles O d v.tree) (Ready d) done₀
            (λ v h. (h.0, λ k p r. h.1 k ∙ sym (a k) ∙ sym (final-agrees s ops T q d k p r)))
            (could_both s (files_area d) (λ v. Undone ops O v.tree) (λ v. SameFiles O d v.tree) done₀ (synced.0 (files_area d)) c))

        listed : ⊥ ⊎ In d (first_namings [] (map collection_of ops)) → In d (first_namings [] (map collection_of ops))
        listed (inl z) = absurd z
        listed (inr z) = z

        go : (x : Option ℕ) → look (d, []) O ≡ x → (y : Bool) → is_in d (map collection_of ops) ≡ y → Could s (files_area d) (Ready d) done₀
        go none e y i =
            same (could_map s (files_area d) (λ v. Undone ops O v.tree) (λ v. SameFiles O d v.tree) done₀
            (λ v h. undone-empty new_case v.tree h d e) (synced.0 (files_area d))) (undone-empty new_case applied.tree applied-undone d e)
        go (some x) e false i = let z = spared d (λ j. false≢true (sym i ∙ of_in d (map collection_of ops) j)) in same z.0 z.1
        go (some x) e true i = unfold done₀ in (
            idles_could s (files_area d) (Ready d) (pre ++ steps) syncs applied worked.2 syncs-idle (applied-ready d)
            (inl (unfold syncs in (syncs_in d (first_namings [] (map collection_of ops)) applied
            (x, undone-dirs new_case applied.tree applied-undone d ∙ e) (listed (naming_has d [] (map collection_of ops) (in_of d (map collection_of ops) i)))))))

    -- The log goes.
    front : List Step
    front = done₁ ++ remove_log ∷ []

    gone : Store
    gone = Commit.unlogged s ops T

    at_done₁ : Works new_case true s done₁ applied
    at_done₁ = works_done₁ new_case

    at_front : Removes new_case true s front gone
    unfolding front gone done₁ Ready apply
    at_front = (all, unlogged-ended s ops T q, tied s done₁ remove_log applied at_done₁.2, λ z. in_left_lem sync_log done₁ (remove_log ∷ []) (at_done₁.3 z))
      where
        all : Coulds s (Removed new_case true s) (done₁ ++ remove_log ∷ [])
        all collections_area =
            could_step s collections_area (λ v. Undone ops O v.tree) done₁ remove_log applied at_done₁.2 (at_done₁.0 collections_area) applied-undone
        all journal_area = λ kept lost e u. tt
        all log_area =
            could_step s log_area (LogGoes new_case true s) done₁ remove_log applied at_done₁.2
            (could_map s log_area (Committing new_case true s) (LogGoes new_case true s) done₁ (λ v j. inr j) (at_done₁.0 log_area)) (inl refl)
        all (files_area d) =
            could_step s (files_area d) (Ready d) done₁ remove_log applied at_done₁.2
            (could_step s (files_area d) (Ready d) done₀ sync_collections applied synced.2 (ready d) (applied-ready d)) (applied-ready d)

    -- Behind 0x2E.
    back : List Step
    back = in_turn run (remove_backups ∷ remove_staging_files ∷ []) gone

    late_run : Runs (Overs new_case true s) (front ++ sync_journal ∷ []) back gone
    unfolding back gone
    late_run =
        over-run new_case true s (front ++ sync_journal ∷ []) back gone
        (unfold apply in (over-sync new_case true s front gone at_front))
        (through_append (Ended F) (remove_backups gone) (remove_staging_files u ++ []) gone cleans
        (through_append (Ended F) (remove_staging_files u) [] u unstages (through-end (Ended F) (remove_staging_files u) u unstages)))
      where
        cleans : Through (Ended F) (remove_backups gone) gone
        cleans = (clean_all F none gone (final-tidy s ops T q) at_front.1).0

        u : Store
        u = apply_all (remove_backups gone) gone

        unstages : Through (Ended F) (remove_staging_files u) u
        unstages = unstage_through (Ended F) (ended-unstaged F) (staging_names u.staging) u (through-end (Ended F) (remove_backups gone) gone cleans)

    parted : commit_plan s ≡ pre ++ (steps ++ (syncs ++ sync_collections ∷ remove_log ∷ sync_journal ∷ back))
    unfolding back gone syncs apply
    parted =
        plan-is s ops T commit_end none q ∙ ap (λ (u : Store). pre ++ (steps ++ (syncs ++ in_turn run commit_end u))) (idles-end syncs applied syncs-idle)

    joined : (end : List Step) → done₁ ++ end ≡ pre ++ (steps ++ (syncs ++ sync_collections ∷ end))
    unfolding done₁ done₀
    joined end =
        append_assoc done₀ (sync_collections ∷ []) end ∙ append_assoc (pre ++ steps) syncs (sync_collections ∷ end)
        ∙ append_assoc pre steps (syncs ++ sync_collections ∷ end)

    removal_split : commit_plan s ≡ done₁ ++ remove_log ∷ sync_journal ∷ back
    removal_split = parted ∙ sym (joined (remove_log ∷ sync_journal ∷ back))

    plan-split : commit_plan s ≡ front ++ sync_journal ∷ back
    unfolding front
    plan-split = removal_split ∙ sym (append_assoc done₁ (remove_log ∷ []) (sync_journal ∷ back))

    front-other : All Other front
    unfolding front done₁ done₀ syncs
    front-other =
        all_append Other done₁ (remove_log ∷ []) (all_imp (stays-other PlainName) done₁ (all_append Plain done₀ (sync_collections ∷ [])
        (all_append Plain (pre ++ steps) syncs (all_append Plain pre steps (tt, (tt, (tt, tt))) steps-plain)
        (syncs-all Plain (λ d. tt) (first_namings [] (map collection_of ops)) applied)) (tt, tt))) (removal_other, tt)

    pub commit-run : Runs (Phase new_case true s) [] (commit_plan s) s
    unfolding front gone apply
    commit-run =
        subst (λ (xs : List Step). Runs (Phase new_case true s) [] xs s) (sym parted) (front-run new_case (remove_log ∷ sync_journal ∷ back) (λ w. (
          working w,
          (removed at_front, runs_map (Overs new_case true s) (Phase new_case true s) (λ x v k. over k) (front ++ sync_journal ∷ []) back gone late_run),
        )))

    -- Until its 0x2B is done, nothing is to come but the tree from before.
    pub removed_or_old : (n : ℕ) →
        In remove_log (take n (commit_plan s)) ⊎ Phase old_case true s (take n (commit_plan s)) (apply_all (take n (commit_plan s)) s)
    removed_or_old n = rw removal_split (go (done_or_before remove_log done₁ (sync_journal ∷ back) n))
      where
        early : Runs (Phase old_case true s) [] done₁ s
        early = subst (λ (xs : List Step). Runs (Phase old_case true s) [] xs s) (sym (joined []) ∙ append-nil done₁) (front-run old_case [] (λ w. working w))

        go : let xs = done₁ ++ remove_log ∷ sync_journal ∷ back in
            In remove_log (take n xs) ⊎ ((j : ℕ) × (take n xs ≡ take j done₁)) → In remove_log (take n xs) ⊎ Phase old_case true s (take n xs) (apply_all (take n xs) s)
        go (inl i) = inl i
        go (inr r) = inr (subst (λ (xs : List Step). Phase old_case true s xs (apply_all xs s)) (sym r.1) (runs_take (Phase old_case true s) [] done₁ s early r.0))

    -- Once its 0x2E is done it is over.
    pub kept_at : (n : ℕ) → In sync_journal (take n (commit_plan s)) → Overs new_case true s (take n (commit_plan s)) (apply_all (take n (commit_plan s)) s)
    kept_at n i =
        subst (λ (xs : List Step). Overs new_case true s (take n xs) (apply_all (take n xs) s)) (sym plan-split)
        (subst (λ (xs : List Step). Overs new_case true s xs (apply_all xs s)) (sym k.1) (subst (Overs new_case true s xs) (sym g.2) g))
      where
        k : (j : ℕ) × (take n (front ++ sync_journal ∷ back) ≡ (front ++ sync_journal ∷ []) ++ take j back)
        k = kept-split front back n front-other (subst (λ (xs : List Step). In sync_journal (take n xs)) plan-split i)

        xs : List Step
        xs = (front ++ sync_journal ∷ []) ++ take k.0 back

        g : Overs new_case true s ((front ++ sync_journal ∷ []) ++ take k.0 back) (apply_all (take k.0 back) gone)
        g = runs_take (Overs new_case true s) (front ++ sync_journal ∷ []) back gone late_run k.0
