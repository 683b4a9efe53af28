-- Commit, step by step, and what recovery makes of its cuts.
use Rattle.std.specs.Prelude.{◌≡◌, ℕ, zero, suc, ◌-◌, Bool, true, ◌⊎◌, length, take, if◌then◌else◌}
use Rattle.std.proofs.Math.Path.{refl, ap}
use Rattle.std.proofs.Common.{sym, ◌∙◌, subst, arith}
use mathlib.Core.List.{List, [], ◌∷◌, ◌++◌, map, reverse}
use Rattle.std.proofs.Math.Option.{Option, none, some}
use Rattle.std.proofs.Math.Bool.{false}
use Rattle.std.proofs.Math.Logic.{inl, inr}
use Rattle.basics.specs.Order.{Name}
use Rattle.basics.specs.Map.{Map, look}
use Rattle.basics.specs.Base.{Bytes, is_some, if_present}
use Rattle.basics.specs.Name.{original_name}
use Rattle.model.specs.Operation.{Op, write, delete, delete_all, create_collection, delete_collection, copy_collection}
use Rattle.model.specs.Log.{Journal, committing, whole, ops_of}
use Rattle.model.specs.Store.{Store, staging_names}
use Rattle.model.specs.Step.{Step, rewrite_header, sync_staging, sync_log, remove_log, sync_journal, sync_directory, apply, apply_all, Fault}
use Rattle.model.specs.Plan.{in_turn, run, undo_steps, restore_backups, remove_backups, remove_staging_files, sync_existing, first_namings, collection_of, first_fault}
use Rattle.model.specs.Plan.{steps_before_fault, operation_steps, commit_fault, commit_parts, commit_end, commit_plan, plan_ending, without_mark}
use Rattle.model.specs.Plan.{without_mark_at_end, committed_at, ending_at}
use Rattle.laws.specs.LogLaws.{mark-journal, recorded-stands, committed-stands}
use Rattle.laws.specs.StoreLaws.{Bare}
use Rattle.laws.specs.Listings.{dels-all}
use Rattle.laws.specs.Runs.{run_over, apply_all-in_turn}
use Rattle.laws.specs.EndLaws.{swept, sweeps, whole-ending, up_to_end, committed_store, commit-leaves}
use Rattle.cut_rule.specs.Demand.{settled}
use Rattle.cut_rule.specs.Kinds.{place_of, Marked}
use Rattle.cut_rule.proofs.StoreRule.{old-dir, Transacts, Safe, marked-safe}
use Rattle.cut_rule.proofs.Walk.{steady, Through, through-end, through-take, through_append}
use Rattle.cut_rule.proofs.Walk.{through-map, Cautious, cautious_through, cautious_before}
use Rattle.cut_rule.proofs.Directories.{inv-start}
use Rattle.cut_rule.proofs.Clean.{Tidy, old-tidy, Agrees, clean_all, tidied}
use Rattle.cut_rule.proofs.Heal.{Ended, HealsFrom, Heals, recorded, undoing, ended, rolled_back, heals-shut, unstage_through, ended-unstaged}
use Rattle.cut_rule.proofs.Heal.{last-through, back-through}
use Rattle.cut_rule.proofs.Apply.{Untouched, Mid, Applied, ops-apply}

-- Syncs of directories change nothing.
sync-same : (d : Name) (u : Store) (q : Option ℕ) → apply_all (if_present q (sync_directory d ∷ [])) u ≡ u
sync-same d u none = refl
sync-same d u (some x) = unfold apply in refl

pub syncs-same : (l : List Name) (u : Store) → apply_all (in_turn sync_existing l u) u ≡ u
unfolding sync_existing
syncs-same l u = apply_all-in_turn sync_existing l u ∙ all l u
  where
    all : (l : List Name) (u : Store) → run_over sync_existing l u ≡ u
    all [] u = refl
    all (d ∷ l) u = rw (sync-same d u (look (d, []) u.tree)) (all l u)

syncs-through : (I : Store → Type 0) (l : List Name) (u : Store) → I u → Through I (in_turn sync_existing l u) u
unfolding sync_existing
syncs-through I [] u m = m
syncs-through I (d ∷ l) u m = go (look (d, []) u.tree) (syncs-through I l u m)
  where
    go : (q : Option ℕ) → Through I (in_turn sync_existing l u) u →
        let xs = if_present q (sync_directory d ∷ []) in Through I (xs ++ in_turn sync_existing l (apply_all xs u)) u
    go none k = k
    go (some x) k = (m, rw (sync-same d u (some x)) k)

-- At the cut n nothing was done, or the log is gone, or undoing takes no old file away.
abbrev pub SafeAt : ℕ → Store → List Op → Type 0
SafeAt n s ops = let u = apply_all (take n (commit_plan s)) s in (n ≡ 0) ⊎ (is_some u.log ≡ true → Safe s.tree ops u.tree)

module _ (s : Store) (ops : List Op) (T : Transacts s ops) where
  abbrev pub M : Store → Type 0
  M = Mid s.tree T.old ops T.good

  -- The header is rewritten, then come the steps of the operations.
  abbrev pub begun : Store
  begun = apply rewrite_header s

  abbrev pub steps : List Step
  steps = operation_steps ops begun

  pub begun-mid : M begun
  begun-mid = unfold apply in record { log = mark-journal s.log ops whole T.logged; inv = inv-start T.old }

  begun-untouched : (a : Op) → Untouched s.tree (place_of a) begun
  unfolding apply
  begun-untouched (write w) = (refl, refl)
  begun-untouched (delete c k) = (refl, refl)
  begun-untouched (delete_all c) = (λ f. refl, λ e f p. old-dir T.old e f c p)
  begun-untouched (create_collection c) = (λ f. refl, λ e f p. old-dir T.old e f c p)
  begun-untouched (delete_collection c) = (λ f. refl, λ e f p. old-dir T.old e f c p)
  begun-untouched (copy_collection a b x) = (λ f. refl, λ e f p. old-dir T.old e f b p)

  pub steps-apply : Cautious M steps begun × (first_fault steps begun ≡ none → Applied s.tree T.old ops T.good ops begun (apply_all steps begun))
  steps-apply = ops-apply s.tree T.old ops T.good ops begun (λ a i. i) T.apart (λ a i. begun-untouched a) begun-mid

  pub fault-is : commit_fault s ≡ first_fault steps begun
  unfolding commit_fault
  fault-is = ap (λ (o : List Op). first_fault (operation_steps o begun) begun) (ap ops_of T.logged)

  pub plan-is : (ends : List (Store → List Step)) (q : Option Fault) → commit_fault s ≡ q →
      plan_ending ends s ≡ rewrite_header ∷ in_turn run (commit_parts ends ops q) begun
  unfolding plan_ending
  plan-is ends q f = λ i. rewrite_header ∷ in_turn run (commit_parts ends (ops_of (T.logged i)) (f i)) begun

  abbrev collections : List Name
  collections = first_namings [] (map collection_of ops)

  abbrev pub applied : Store
  applied = apply_all steps begun

  abbrev pub unlogged : Store
  unlogged = apply remove_log applied

  cleaned : Store
  cleaned = apply_all (remove_backups unlogged) unlogged

  -- The tree that it leaves; and the one that recovery gives, by whether the log stood at the cut.
  pub final : Map
  final = cleaned.tree

  abbrev pub tree_after : Bool → Map
  tree_after stood = if stood then s.tree else final

  module _ (f : commit_fault s ≡ none) where
    pub no-fault-first : first_fault steps begun ≡ none
    no-fault-first = sym fault-is ∙ f

    steps-through : Through M steps begun
    steps-through = cautious_through M steps begun steps-apply.0 no-fault-first

    pub applied-mid : M applied
    applied-mid = through-end M steps begun steps-through

    -- Every key that existed has its backup, so it can be undone.
    pub applied-safe : Safe s.tree ops applied.tree
    applied-safe w i e h = (steps-apply.1 no-fault-first).backs w i h

    tidy : Tidy final × Agrees final unlogged.log unlogged
    unfolding final cleaned
    tidy = tidied unlogged (unfold apply in applied-mid.inv.sorted) (unfold apply in applied-mid.inv.inside)

    pub final-tidy : Tidy final
    final-tidy = tidy.0

    -- It has the plain names that stand after the operations' steps.
    pub unlogged-ended : Ended final unlogged
    unlogged-ended = unfold apply in tidy.1

    pub final-agrees : (d k : Name) → original_name d ≡ none → original_name k ≡ none → look (d, k) final ≡ look (d, k) applied.tree
    final-agrees d k p q = sym (unlogged-ended.agrees d k p q) ∙ unfold apply in refl

    -- With either end: each step is one of the operations', or one of the end, of which E holds.
    module _ (ends : List (Store → List Step)) (E : Store → Type 0) where
      abbrev At : Store → Type 0
      At u = M u ⊎ E u

      plan-through : Through At (in_turn run ends applied) applied → Through At (in_turn run (commit_parts ends ops none) begun) begun
      plan-through last = unfold apply in (
        inl begun-mid,
        (
          inl begun-mid,
          through_append At steps (c ++ r) begun (through-map M At (λ v h. inl h) steps begun steps-through)
              (through_append At c r applied (syncs-through At collections applied (inl applied-mid)) (rw (syncs-same collections applied) last)),
        ),
      )
        where
          c : List Step
          c = in_turn sync_existing collections applied

          r : List Step
          r = in_turn run ends (apply_all c applied)

      pub at_suc : Through At (in_turn run ends applied) applied → (n : ℕ) → At (apply_all (take (suc n) (plan_ending ends s)) s)
      at_suc last n = rw (plan-is ends none f) (through-take At n (in_turn run (commit_parts ends ops none) begun) begun (plan-through last))

    clean-through : Through (Ended final) (remove_backups unlogged) unlogged
    clean-through = (clean_all final none unlogged final-tidy unlogged-ended).0

    cleaned-ended : Ended final cleaned
    unfolding cleaned
    cleaned-ended = through-end (Ended final) (remove_backups unlogged) unlogged clean-through

    end-through : Through (λ u. M u ⊎ Ended final u) (in_turn run commit_end applied) applied
    unfolding cleaned
    end-through = (
      inl applied-mid,
      (
        unfold apply in (inl applied-mid),
        unfold apply in (
          inr unlogged-ended,
          ends (remove_backups unlogged ++ (remove_staging_files cleaned ++ [])) unlogged
              (through_append (Ended final) (remove_backups unlogged) (remove_staging_files cleaned ++ []) unlogged clean-through
              (through_append (Ended final) (remove_staging_files cleaned) [] cleaned staged (through-end (Ended final) (remove_staging_files cleaned) cleaned staged))),
        ),
      ),
    )
      where
        ends : (xs : List Step) (v : Store) → Through (Ended final) xs v → Through (λ u. M u ⊎ Ended final u) xs v
        ends xs v h = through-map (Ended final) (λ u. M u ⊎ Ended final u) (λ v h. inr h) xs v h

        staged : Through (Ended final) (remove_staging_files cleaned) cleaned
        staged = unstage_through (Ended final) (ended-unstaged final) (staging_names cleaned.staging) cleaned cleaned-ended

    heals-at : (n : ℕ) → SafeAt n s ops → let u : Store = apply_all (take n (commit_plan s)) s in Heals ops (tree_after (is_some u.log)) u
    heals-at zero z = recorded T.logged (sym (ap tree_after (recorded-stands s.log ops whole T.logged)))
    heals-at (suc n) z = go (at_suc commit_end (Ended final) end-through n)
      where
        u : Store
        u = apply_all (take (suc n) (commit_plan s)) s

        safe : SafeAt (suc n) s ops → is_some u.log ≡ true → Safe s.tree ops u.tree
        safe (inl e) = absurd (omega arith)
        safe (inr h) = h

        go : M u ⊎ Ended final u → Heals ops (tree_after (is_some u.log)) u
        go (inl m) =
            let e = committed-stands u.log ops whole m.log in
            subst (λ (l : Bool). Heals ops (tree_after l) u) (sym e) (undoing T.old T.good m.log m.inv (safe z e))
        go (inr h) = subst (λ (l : Option Bytes). Heals ops (tree_after (is_some l)) u) (sym h.same) (ended h)

    pub after-tidy : (stood : Bool) → Tidy (tree_after stood)
    after-tidy true = old-tidy T.old
    after-tidy false = final-tidy

    -- What it leaves when it is not cut.
    pub up_to : up_to_end s ≡ applied
    unfolding up_to_end
    up_to =
        ap (λ (o : List Op). run_over run ((λ s. sync_staging ∷ sync_log ∷ []) ∷ operation_steps o ∷ in_turn sync_existing (first_namings [] (map collection_of o)) ∷ []) begun)
        (ap ops_of T.logged)
        ∙ unfold apply in (syncs-same collections applied)

    pub applied-bare : Bare applied.staging
    applied-bare = (steady steps begun).bare (unfold apply in T.bare)

    pub committed-end : committed_at (length (commit_plan s)) s ≡ settled final
    unfolding final cleaned
    committed-end =
        commit-leaves s f ∙ ap committed_store up_to
        ∙ λ i. record { tree = clean i; staging = dels-all applied.staging applied-bare i; log = none; open_mark = false }
      where
        clean : swept applied.tree ≡ cleaned.tree
        clean = unfold apply in (sym (ap (λ (u : Store). u.tree) (sweeps unlogged)))

  -- A commit of marked Writes, or of other operations, that fails: at each step recovery would heal it to the files from before, and at its end they stand.
  module _ (m : Marked ops) (e : Fault) (f : commit_fault s ≡ some e) where
    xs : List Step
    xs = steps_before_fault steps begun

    before-through : Through M xs begun
    unfolding xs
    before-through = cautious_before M steps begun steps-apply.0

    failed : Store
    failed = apply_all xs begun

    failed-mid : M failed
    unfolding failed
    failed-mid = through-end M xs begun before-through

    mid-heals : (u : Store) → M u → Heals ops s.tree u
    mid-heals u h = undoing T.old T.good h.log h.inv (marked-safe s.tree ops u.tree T.good m)

    failed-through : Through (Heals ops s.tree) (in_turn run (commit_parts commit_end ops (some e)) begun) begun
    unfolding xs failed
    failed-through = unfold apply in (
      mid-heals begun begun-mid,
      (
        mid-heals begun begun-mid,
        through_append (Heals ops s.tree) xs (in_turn run backs failed) begun (through-map M (Heals ops s.tree) mid-heals xs begun before-through)
            (back-through (committing ops whole) ops s.tree (old-tidy T.old) m failed T.old T.good failed-mid.log failed-mid.inv
            ((λ s. remove_log ∷ sync_journal ∷ []) ∷ remove_staging_files ∷ [])
            (last-through (committing ops whole) ops s.tree (old-tidy T.old) m (sync_journal ∷ []) (λ v z. unfold apply in (z, z)))),
      ),
    )
      where
        backs : List (Store → List Step)
        backs = in_turn undo_steps (reverse ops) ∷ restore_backups ∷ (λ s. remove_log ∷ sync_journal ∷ []) ∷ remove_staging_files ∷ []

    failed-heals : (n : ℕ) → Heals ops s.tree (apply_all (take n (commit_plan s)) s)
    failed-heals zero = recorded T.logged refl
    failed-heals (suc n) = rw (plan-is commit_end (some e) f) (through-take (Heals ops s.tree) n (in_turn run (commit_parts commit_end ops (some e)) begun) begun failed-through)

    emptied : Store → Store
    emptied u = record { tree = s.tree; staging = []; log = none; open_mark = u.open_mark }

    failed-plan : apply_all (in_turn run (commit_parts commit_end ops (some e)) begun) begun ≡ emptied failed
    unfolding xs failed emptied
    failed-plan =
        apply_all-in_turn run (commit_parts commit_end ops (some e)) begun
        ∙ unfold apply in (rolled_back s.tree failed ops T.old T.good ((steady xs begun).bare (unfold apply in T.bare)) failed-mid.inv
        (marked-safe s.tree ops failed.tree T.good m))

    pub failed-end : committed_at (length (commit_plan s)) s ≡ settled s.tree
    unfolding emptied
    failed-end = whole-ending commit_end s ∙ ap (λ (xs : List Step). without_mark (apply_all xs s)) (plan-is commit_end (some e) f) ∙ ap without_mark failed-plan

-- The open mark, which goes with the last step, is no part of it.
pub shut-heals : (j : Journal) (ops : List Op) (p : Map) (m : ℕ) (u : Store) → HealsFrom j ops p u → HealsFrom j ops p (without_mark_at_end m u)
shut-heals j ops p zero u h = heals-shut j ops p u h
shut-heals j ops p (suc m) u h = h

shut-log : (m : ℕ) (u : Store) → (without_mark_at_end m u).log ≡ u.log
shut-log zero u = refl
shut-log (suc m) u = refl

-- At every safe cut recovery heals the store: to the files from before if the log stands, else to those of the commit.
pub cut-heals : (s : Store) (ops : List Op) (T : Transacts s ops) → commit_fault s ≡ none → (n : ℕ) → SafeAt n s ops →
    Heals ops (tree_after s ops T (is_some (committed_at n s).log)) (committed_at n s)
unfolding ending_at
cut-heals s ops T f n z =
    let u : Store = apply_all (take n (commit_plan s)) s in
    let m : ℕ = length (commit_plan s) - n in
    subst (λ (l : Option Bytes). Heals ops (tree_after s ops T (is_some l)) (without_mark_at_end m u)) (sym (shut-log m u))
    (shut-heals (committing ops whole) ops (tree_after s ops T (is_some u.log)) m u (heals-at s ops T f n z))

pub failed-cut-heals : (s : Store) (ops : List Op) → Transacts s ops → Marked ops → (e : Fault) → commit_fault s ≡ some e → (n : ℕ) →
    Heals ops s.tree (committed_at n s)
unfolding ending_at
failed-cut-heals s ops T m e f n =
    shut-heals (committing ops whole) ops s.tree (length (commit_plan s) - n) (apply_all (take n (commit_plan s)) s) (failed-heals s ops T m e f n)
