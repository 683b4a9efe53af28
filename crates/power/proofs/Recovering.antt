-- A recovery with its syncs, and the rollback of a failing commit, go through the phases.
use Rattle.std.specs.Prelude.{◌≡◌, refl, Bool, true, ◌⊎◌}
use Rattle.std.proofs.Common.{sym, ◌∙◌, inl, inr}
use Rattle.std.proofs.Math.Path.{ap, subst}
use mathlib.Core.List.{List, [], ◌∷◌, ◌++◌, map, reverse, append_assoc}
use Rattle.std.proofs.Math.Option.{Option, none, some}
use Rattle.std.proofs.lemmas.Bool.{false≢true}
use Rattle.basics.specs.Order.{Name}
use Rattle.basics.specs.Map.{Map, look}
use Rattle.basics.specs.Base.{Bytes, is_some, if_present, if_missing}
use Rattle.model.specs.Operation.{Op}
use Rattle.model.specs.Log.{Journal, absent, committing, journal, whole}
use Rattle.model.specs.Store.{Store, dirs, staging_names}
use Rattle.model.specs.Step.{Step, remove_log, sync_journal, sync_collections, remove_staging, sync_directory, tag_and_names, apply, apply_all}
use Rattle.model.specs.Plan.{in_turn, run, undo_steps, restore_backups, remove_backups, remove_standing_log, remove_staging_files, recover_parts, recover_plan}
use Rattle.basic_laws.specs.Tests.{All, all_append, all_imp}
use Rattle.laws.specs.Listings.{dirs-has, any-map, any-to-map}
use Rattle.laws.specs.LogLaws.{committed-stands}
use Rattle.laws.specs.Runs.{Runs, runs_append, runs_end, runs_map}
use Rattle.cut_rule.proofs.StoreRule.{marked-safe}
use Rattle.cut_rule.proofs.Walk.{Through, through-end, through-map}
use Rattle.cut_rule.proofs.Directories.{Inv, inv-more}
use Rattle.cut_rule.proofs.Clean.{clean_all}
use Rattle.cut_rule.proofs.Undo.{Undoes}
use Rattle.cut_rule.proofs.Restore.{restore_all}
use Rattle.cut_rule.proofs.Heal.{Ended, undo, clean-through}
use Rattle.power.specs.Loss.{Area, collections_area, journal_area, log_area, files_area, sync_of, removes_log, standing, sync_all, with_syncs}
use Rattle.power.specs.Loss.{synced_first, synced_plan}
use Rattle.power.proofs.Could.{in_left_lem, Idles, idles-end, idles-through, through-both, Could, could_map, could_step, could_sync, tied}
use Rattle.power.proofs.Could.{Coulds, idles_could}
use Rattle.power.proofs.Synced.{sync-idles, sync-all, Keeps, with_same, with_append, with_all}
use Rattle.power.proofs.Stays.{StaysIn, stays-keeps, Flat, PlainName, flat-through, present-all, undo-stay, restore_stays, removal_keeps, unstage_keeps}
use Rattle.power.proofs.Torn.{Idle, unread, Whole, whole-idle, IdlePlan, leaves, drops, idle-plan}
use Rattle.power.proofs.Phases.{Case, plain_of, SameDirs, SameFiles, PlainDirs, PlainFiles, Undone, undone-dirs, undone-empty, LogRests, Still, Resting}
use Rattle.power.proofs.Phases.{Committing, Under, Over, Rests, Works, Removes, Overs, Phase, resting, working, removed, over, ended-over, rest-run, work-run, over-run}

-- A step that leaves the tree, and the log unless it removes it.
abbrev pub Calm : Step → Type 0
Calm x = (v : Store) → ((apply x v).tree ≡ v.tree) × (((apply x v).log ≡ v.log) ⊎ ((apply x v).log ≡ none))

pub calm-sync : (a : Area) → Calm (sync_of a)
calm-sync a v = rw (sync-idles a v) (refl, inl refl)

calm_remove : Calm remove_log
unfolding apply
calm_remove v = (refl, inr refl)

calm_unstage : (l : List Name) → All Calm (map remove_staging l)
unfolding apply
calm_unstage [] = tt
calm_unstage (f ∷ l) = (λ v. (refl, inl refl), calm_unstage l)

pub calm-unstages : (u : Store) → All Calm (in_turn run (remove_staging_files ∷ []) u)
calm-unstages u = all_append Calm (remove_staging_files u) [] (calm_unstage (staging_names u.staging)) tt

calm-standing : (u : Store) → All Calm (in_turn run (remove_standing_log ∷ remove_staging_files ∷ []) u)
calm-standing u =
    all_append Calm (remove_standing_log u) (in_turn run (remove_staging_files ∷ []) (apply_all (remove_standing_log u) u))
    (present-all Calm u.log (remove_log ∷ []) (calm_remove, tt)) (calm-unstages (apply_all (remove_standing_log u) u))

calm-first : {A : Type 0} (q : Option A) → All Calm (if_missing q (sync_of synced_first ∷ []))
calm-first none = (calm-sync synced_first, tt)
calm-first (some x) = tt

first-none : {A B : Type 0} (q : Option A) (l : List B) → is_some q ≡ true → if_missing q l ≡ []
first-none none l e = absurd (false≢true e)
first-none (some x) l e = refl

module _ {ops : List Op} {o f : Map} (C : Case ops o f) (appended : Bool) (s : Store) where
  abbrev P : List Step → Store → Type 0
  P = Phase C appended s

  abbrev W : List Step → Store → Type 0
  W = Works C appended s

  -- Calm steps rest.
  calm-through : (xs : List Step) (u : Store) → All Calm xs → Still C appended s u → Through (Still C appended s) xs u
  calm-through [] u h i = i
  calm-through (x ∷ xs) u h i = (i, calm-through xs (apply x u) h.1 ((h.0 u).0 ∙ i.0, go (h.0 u).1))
    where
      go : ((apply x u).log ≡ u.log) ⊎ ((apply x u).log ≡ none) → LogRests C appended s (apply x u)
      go (inr e) = inl e
      go (inl e) = subst (λ (q : Option Bytes). (q ≡ none) ⊎ (Idle ops (journal q) × (appended ≡ true → Whole ops (journal q)))) (sym e) i.1

  calm_run : (done xs : List Step) (u : Store) → All Calm xs → Rests C appended s done u → Runs P done xs u
  calm_run done xs u h g =
      runs_map (Rests C appended s) P (λ x v k. resting k) done xs u (rest-run C appended s done xs u g (calm-through xs u h g.1))

  working-run : (done xs : List Step) (u : Store) → Runs W done xs u → Runs P done xs u
  working-run done xs u h = runs_map W P (λ x v k. working k) done xs u h

  -- The tree is as before again: the collections are synced, the log goes, and calm steps follow.
  home_run : (zs : List Step) → All Calm zs → (done : List Step) (u : Store) → W done u → u.tree ≡ o → Runs P done (with_syncs (remove_log ∷ zs) u) u
  unfolding removes_log tag_and_names
  home_run zs calm done u w e =
      subst (λ (xs : List Step). Runs P done xs u) (sym (append_assoc xs (remove_log ∷ sync_journal ∷ []) ys))
      (runs_append P done xs (remove_log ∷ sync_journal ∷ ys) u (working-run done xs u works)
      (calm_run (done ++ xs) (remove_log ∷ sync_journal ∷ ys) (apply_all xs u)
      (calm_remove, (calm-sync journal_area, with_all Calm calm-sync zs (apply remove_log u) calm)) (all, (ap (λ (y : Store). y.tree) same ∙ e, log), end.2, tt)))
    where
      xs : List Step
      xs = sync_all (standing u)

      ys : List Step
      ys = with_syncs zs (apply remove_log u)

      st : All Idles (sync_all (standing u))
      st = sync-all Idles sync-idles (standing u)

      works : Runs W done (sync_all (standing u)) u
      works = work-run C appended s done (sync_all (standing u)) u w (idles-through (Under C appended s) (sync_all (standing u)) u st w.1)

      end : W (done ++ sync_all (standing u)) (apply_all (sync_all (standing u)) u)
      end = runs_end W done (sync_all (standing u)) u works

      same : apply_all (sync_all (standing u)) u ≡ u
      same = idles-end (sync_all (standing u)) u st

      rests : (v : Store) → Committing C appended s v → LogRests C appended s v
      rests v j = inr (whole-idle ops (journal v.log) (inr j), λ a. inr j)

      log : LogRests C appended s (apply_all (sync_all (standing u)) u)
      log = rests (apply_all (sync_all (standing u)) u) end.1.1

      files : (d : Name) → Could s (files_area d) (λ v. SameFiles o d v.tree) (done ++ sync_all (standing u))
      files d = go (look (d, []) o) refl
        where
          go : (q : Option _) → look (d, []) o ≡ q → Could s (files_area d) (λ v. SameFiles o d v.tree) (done ++ sync_all (standing u))
          go none q =
              could_map s (files_area d) (λ v. Undone ops o v.tree) (λ v. SameFiles o d v.tree) (done ++ sync_all (standing u))
              (λ v z. undone-empty C v.tree z d q) (end.0 (files_area d))
          go (some x) q =
              idles_could s (files_area d) (λ v. SameFiles o d v.tree) done (sync_all (standing u)) u w.2 st (λ k. ap (look (d, k)) e)
              (inl (in_left_lem (sync_directory d) (map sync_directory (dirs u.tree)) (sync_collections ∷ [])
              (any-to-map (λ y. sync_directory d ≡ y) sync_directory (dirs u.tree) (any-map (λ c z. ap sync_directory z) (dirs u.tree)
              (dirs-has d u.tree (x, ap (look (d, [])) e ∙ q))))))

      all : Coulds s (Resting C appended s) (done ++ sync_all (standing u))
      all collections_area =
          could_map s collections_area (λ v. Undone ops o v.tree) (λ v. SameDirs o v.tree) (done ++ sync_all (standing u))
          (λ v z. undone-dirs C v.tree z) (end.0 collections_area)
      all journal_area = λ kept lost e u. tt
      all log_area = could_map s log_area (Committing C appended s) (LogRests C appended s) (done ++ sync_all (standing u)) rests (end.0 log_area)
      all (files_area d) = files d

  -- Undoing and restoring, then that: what recovery does with a Committing log, and a commit that fails.
  pub back-run : (ys : List Step) → All Calm ys → (done : List Step) (u : Store) → W done u →
      Runs P done (with_syncs (in_turn run (in_turn undo_steps (reverse ops) ∷ restore_backups ∷ (λ s. remove_log ∷ ys) ∷ remove_staging_files ∷ []) u) u) u
  back-run ys calm done u w =
      subst (λ (zs : List Step). Runs P done zs u) (sym (with_append xs (rs ++ last) u ∙ plain))
      (runs_append P done xs (rs ++ with_syncs last x) u (working-run done xs u first)
      (runs_append P (done ++ xs) rs (with_syncs last x) v (working-run (done ++ xs) rs v second)
      (home_run (ys ++ in_turn run (remove_staging_files ∷ []) y) (all_append Calm ys _ calm (calm-unstages y)) (done ++ xs ++ rs) x
      (runs_end W (done ++ xs) rs v second) b.1)))
    where
      xs : List Step
      xs = in_turn undo_steps (reverse ops) u

      v : Store
      v = apply_all xs u

      rs : List Step
      rs = restore_backups v

      x : Store
      x = apply_all rs v

      y : Store
      y = apply_all (remove_log ∷ ys) x

      last : List Step
      last = in_turn run ((λ s. remove_log ∷ ys) ∷ remove_staging_files ∷ []) x

      xs-stay : All (StaysIn PlainName) xs
      xs-stay = undo-stay PlainName ops C.in_place (λ a i. plain_of o a (C.in_place a i) (C.good a i)) u

      flat_x : Through (λ z. Flat z.tree) xs u
      flat_x = flat-through xs u xs-stay w.1.0.flat

      flat_v : Flat v.tree
      flat_v = through-end (λ z. Flat z.tree) xs u flat_x

      rs-stay : All (StaysIn PlainName) rs
      rs-stay = restore_stays v flat_v

      plain : with_syncs xs u ++ with_syncs (rs ++ last) v ≡ xs ++ (rs ++ with_syncs last x)
      plain =
          ap (λ (zs : List Step). zs ++ with_syncs (rs ++ last) v) (with_same xs u (all_imp (stays-keeps PlainName) xs xs-stay))
          ∙ ap (λ (zs : List Step). xs ++ zs) (with_append rs last v
          ∙ ap (λ (zs : List Step). zs ++ with_syncs last x) (with_same rs v (all_imp (stays-keeps PlainName) rs rs-stay)))

      a : Through (Undoes o (reverse ops) u.log) xs u × Undoes o [] u.log v
      a = undo ops o u C.old C.good w.1.0.inv (marked-safe o ops u.tree C.good C.marked)

      b : Through (Undoes o [] u.log) rs v × (x.tree ≡ o)
      b = restore_all o C.old u.log v a.1

      both : (l : List Op) → ((z : Store) → Undoes o l u.log z → Inv o (reverse ops) z.tree) → (zs : List Step) (z : Store) →
          Through (Undoes o l u.log) zs z → Through (λ z. Flat z.tree) zs z → Through (Under C appended s) zs z
      both l g zs z h k =
          through-map (λ y. Undoes o l u.log y × Flat y.tree) (Under C appended s)
          (λ y i. (record { inv = g y i.0; flat = i.1 }, ap journal i.0.same ∙ w.1.1)) zs z
          (through-both (Undoes o l u.log) (λ y. Flat y.tree) zs z h k)

      first : Runs W done xs u
      first = work-run C appended s done xs u w (both (reverse ops) (λ z h. h.inv) xs u a.0 flat_x)

      second : Runs W (done ++ xs) rs v
      second =
          work-run C appended s (done ++ xs) rs v (runs_end W done xs u first)
          (both [] (λ z h. inv-more (reverse ops) (λ d k r. absurd r) (λ d r. absurd r) h.inv) rs v b.0 (flat-through rs v rs-stay flat_v))

  -- The journal is synced: the log is not found any more.
  pub over-sync : (done : List Step) (u : Store) → Removes C appended s done u → Overs C appended s (done ++ sync_journal ∷ []) (apply sync_journal u)
  over-sync done u g = (all, after, tied s done sync_journal u g.2, tt)
    where
      after : Ended f (apply sync_journal u)
      after = rw (sync-idles journal_area u) g.1

      all : Coulds s (Over C appended s) (done ++ sync_journal ∷ [])
      all collections_area =
          could_step s collections_area (λ v. PlainDirs f v.tree) done sync_journal u g.2
          (could_map s collections_area (λ v. Undone ops o v.tree) (λ v. PlainDirs f v.tree) done
          (λ v i d p. undone-dirs C v.tree i d ∙ sym (C.same_dirs d p)) (g.0 collections_area)) (ended-over C appended s (apply sync_journal u) after collections_area)
      all journal_area = could_sync s journal_area (λ v. v.log ≡ none) done u g.2 after.same
      all log_area = λ kept lost e u. tt
      all (files_area d) =
          could_step s (files_area d) (λ v. PlainFiles f d v.tree) done sync_journal u g.2
          (could_map s (files_area d) (λ v. Undone ops o v.tree × PlainFiles f d v.tree) (λ v. PlainFiles f d v.tree) done (λ v z. z.1)
          (g.0 (files_area d))) (ended-over C appended s (apply sync_journal u) after (files_area d))

  -- Recovery that finds no log.
  gone-plan : (u : Store) → Ended f u → synced_plan u ≡ sync_of synced_first ∷ in_turn run (recover_parts absent) u
  unfolding synced_plan recover_plan
  gone-plan u h =
      ap (λ (q : Option Bytes). if_missing q (sync_of synced_first ∷ []) ++ with_syncs (in_turn run (recover_parts (journal q)) u) u) h.same
      ∙ ap (λ (zs : List Step). sync_of synced_first ∷ zs) (with_same (in_turn run (recover_parts absent) u) u
      (all_append Keeps (remove_backups u) _ (removal_keeps u) (subst (λ (q : Option Bytes). All Keeps (if_present q (remove_log ∷ [])
      ++ in_turn run (remove_staging_files ∷ []) (apply_all (if_present q (remove_log ∷ [])) v))) (sym z.same)
      (all_append Keeps (remove_staging_files v) [] (unstage_keeps (staging_names v.staging)) tt))))
    where
      v : Store
      v = apply_all (remove_backups u) u

      z : Ended f v
      z = through-end (Ended f) (remove_backups u) u (clean_all f none u C.tidy h).0

  clean_run : (done : List Step) (u : Store) → Ended f u → Overs C appended s done (apply (sync_of synced_first) u) →
      Runs (Overs C appended s) done (in_turn run (recover_parts absent) u) (apply (sync_of synced_first) u)
  clean_run done u h g =
      over-run C appended s done (in_turn run (recover_parts absent) u) (apply (sync_of synced_first) u) g (rw (sync-idles synced_first u) (clean-through f C.tidy u h))

  pub kept_run : (done : List Step) (u : Store) → Overs C appended s done u → Runs (Overs C appended s) done (synced_plan u) u
  kept_run done u g =
      subst (λ (xs : List Step). Runs (Overs C appended s) done xs u) (sym (gone-plan u g.1)) (
        g,
        clean_run (done ++ sync_of synced_first ∷ []) u g.1
            (over-run C appended s done (sync_of synced_first ∷ []) u g (g.1, rw (sync-idles synced_first u) g.1)).1,
      )

  -- Recovery, from any phase.
  pub recover-run : (done : List Step) (u : Store) → P done u → Runs P done (synced_plan u) u
  recover-run done u (resting g) =
      calm_run done (synced_plan u) u (calm (idle-plan ops o C.old C.good C.in_place C.marked u g.1.0 (journal u.log) refl (go g.1.1))) g
    where
      go : LogRests C appended s u → Idle ops (journal u.log)
      go (inl n) = unread (ap journal n)
      go (inr i) = i.0

      planned : (xs : List Step) → recover_plan u ≡ xs → All Calm xs → All Calm (synced_plan u)
      planned xs q h = unfold synced_plan in (
          all_append Calm (if_missing u.log (sync_of synced_first ∷ [])) (with_syncs (recover_plan u) u) (calm-first u.log)
          (with_all Calm calm-sync (recover_plan u) u (subst (All Calm) (sym q) h)))

      calm : IdlePlan ops o C.old C.good C.in_place C.marked u → All Calm (synced_plan u)
      calm (leaves q) = planned (in_turn run (remove_standing_log ∷ remove_staging_files ∷ []) u) q (calm-standing u)
      calm (drops q) = planned (remove_log ∷ in_turn run (remove_staging_files ∷ []) (apply remove_log u)) q (calm_remove, calm-unstages (apply remove_log u))
  recover-run done u (working g) = subst (λ (xs : List Step). Runs P done xs u) (sym plan) (back-run [] tt done u g)
    where
      plan : synced_plan u ≡ with_syncs (in_turn run (recover_parts (committing ops whole)) u) u
      plan = unfold synced_plan recover_plan in (
          ap (λ (zs : List Step). zs ++ with_syncs (in_turn run (recover_parts (journal u.log)) u) u)
          (first-none u.log (sync_of synced_first ∷ []) (committed-stands u.log ops whole g.1.1))
          ∙ ap (λ (j : Journal). with_syncs (in_turn run (recover_parts j) u) u) g.1.1)
  recover-run done u (removed g) =
      subst (λ (xs : List Step). Runs P done xs u) (sym (gone-plan u g.1)) (
        removed g,
        runs_map (Overs C appended s) P (λ x v k. over k) (done ++ sync_of synced_first ∷ []) (in_turn run (recover_parts absent) u)
            (apply (sync_of synced_first) u) (clean_run (done ++ sync_of synced_first ∷ []) u g.1 (over-sync done u g)),
      )
  recover-run done u (over g) = runs_map (Overs C appended s) P (λ x v k. over k) done (synced_plan u) u (kept_run done u g)
