-- What recovery heals: the stores between a commit's cut and the end of its recovery, and the tree that recovery gives them. What revert heals, in the
-- same way: those between a held commit and the end of its revert (02, item 6).
use Rattle.std.specs.Prelude.{◌≡◌, refl, ℕ, ◌⊎◌}
use Rattle.std.proofs.Common.{sym, ◌∙◌, subst, inl, inr}
use Rattle.std.proofs.Math.Path.{ap}
use mathlib.Core.List.{List, [], ◌∷◌, ◌++◌, map, reverse}
use Rattle.std.proofs.Math.Option.{Option, none, some}
use Rattle.std.proofs.Math.Bool.{false}
use Rattle.basics.specs.Order.{Name}
use Rattle.basics.specs.Map.{Map, look}
use Rattle.basics.specs.Base.{Bytes, if_present}
use Rattle.model.specs.Operation.{Op, write}
use Rattle.model.specs.Log.{Journal, absent, recording, committing, held, journal, whole}
use Rattle.model.specs.Store.{Store, staging_names}
use Rattle.model.specs.Step.{Step, remove_log, remove_staging, apply, apply_all}
use Rattle.model.specs.Plan.{in_turn, run, undo_steps, restore_backups, remove_backups, remove_standing_log, remove_staging_files, recover_parts, recover_plan}
use Rattle.model.specs.Plan.{recovered_at, recovered, recover_fault, without_mark, unheld, revert_plan, reverted_at, reverted, shut, shut_at}
use Rattle.basic_laws.specs.MapLaws.{none≢some}
use Rattle.laws.specs.StoreLaws.{Bare}
use Rattle.laws.specs.Listings.{any_unreverse}
use Rattle.laws.specs.Runs.{run_over, apply_all-in_turn}
use Rattle.laws.specs.EndLaws.{staging-gone}
use Rattle.cut_rule.specs.Demand.{settled}
use Rattle.cut_rule.specs.Kinds.{Marked}
use Rattle.cut_rule.proofs.StoreRule.{OldTree, AllGood, Safe, marked-safe}
use Rattle.cut_rule.proofs.Walk.{steady, Through, through-end, through-take, through_append, through-map}
use Rattle.cut_rule.proofs.Directories.{Inv, inv-more}
use Rattle.cut_rule.proofs.Undo.{Undoes, undo-all}
use Rattle.cut_rule.proofs.Restore.{restore_all}
use Rattle.cut_rule.proofs.Clean.{Tidy, Agrees, clean_all}

-- The log is gone, and only backups are left to be removed.
abbrev pub Ended : Map → Store → Type 0
Ended p = Agrees p none

-- What undoing gives u the tree p: the log is still Recording; or its journal is j, and what was done can be undone; or it is gone.
pub data HealsFrom (j : Journal) (ops : List Op) (p : Map) (u : Store) : Type 0 where
  recorded : journal u.log ≡ recording ops whole → u.tree ≡ p → HealsFrom j ops p u
  undoing : OldTree p → AllGood p ops → journal u.log ≡ j → Inv p (reverse ops) u.tree → Safe p ops u.tree → HealsFrom j ops p u
  ended : Ended p u → HealsFrom j ops p u

-- Recovery undoes a Committing log, and leaves a Held one; revert undoes a Held one.
abbrev pub Heals : List Op → Map → Store → Type 0
Heals ops p = HealsFrom (committing ops whole) ops p

abbrev pub Reverts : List Op → Map → Store → Type 0
Reverts ops p = HealsFrom (held ops whole) ops p

abbrev pub Undoable : Journal → List Op → Type 0
Undoable j ops = (j ≡ committing ops whole) ⊎ (j ≡ held ops whole)

-- What undoing does, each step of it and at its end.
pub undo : (ops : List Op) (o : Map) (u : Store) → OldTree o → AllGood o ops → Inv o (reverse ops) u.tree → Safe o ops u.tree →
    Through (Undoes o (reverse ops) u.log) (in_turn undo_steps (reverse ops) u) u × Undoes o [] u.log (apply_all (in_turn undo_steps (reverse ops) u) u)
undo ops o u h g i k =
    undo-all o h u.log (reverse ops) u (λ a p. g a (any_unreverse (λ b. a ≡ b) ops p)) (λ w p. k w (any_unreverse (λ b. write w ≡ b) ops p))
    record { inv = i; same = refl }

-- Undoing and restoring, then removing log and staging files: recovery does it, and a commit that fails.
pub rolled_back : (o : Map) (s : Store) (ops : List Op) → OldTree o → AllGood o ops → Bare s.staging → Inv o (reverse ops) s.tree → Safe o ops s.tree →
    run_over run (in_turn undo_steps (reverse ops) ∷ restore_backups ∷ (λ u. remove_log ∷ []) ∷ remove_staging_files ∷ []) s
    ≡ record { tree = o; staging = []; log = none; open_mark = s.open_mark }
unfolding apply
rolled_back o s ops h g bare i safe =
    staging-gone (apply remove_log w) ((steady (restore_backups u) u).bare ((steady (in_turn undo_steps (reverse ops) s) s).bare bare))
    ∙ λ j. record { tree = t j; staging = []; log = none; open_mark = k j }
  where
    u : Store
    u = apply_all (in_turn undo_steps (reverse ops) s) s

    w : Store
    w = apply_all (restore_backups u) u

    t : w.tree ≡ o
    t = (restore_all o h s.log u (undo ops o s h g i safe).1).1

    k : w.open_mark ≡ s.open_mark
    k = (steady (restore_backups u) u).mark ∙ (steady (in_turn undo_steps (reverse ops) s) s).mark

ended-shut : (p : Map) (u : Store) → Ended p u → Ended p (without_mark u)
ended-shut p u h = record { same = h.same; sorted = h.sorted; inside = h.inside; agrees = h.agrees }

-- Removing the staging files, one after the other.
pub unstage_through : (I : Store → Type 0) → ((k : Name) (u : Store) → I u → I (apply (remove_staging k) u)) → (l : List Name) (u : Store) → I u →
    Through I (map remove_staging l) u
unstage_through I f [] u h = h
unstage_through I f (k ∷ l) u h = (h, unstage_through I f l (apply (remove_staging k) u) (f k u h))

pub ended-unstaged : (p : Map) (k : Name) (u : Store) → Ended p u → Ended p (apply (remove_staging k) u)
ended-unstaged p k u h = unfold apply in record { same = h.same; sorted = h.sorted; inside = h.inside; agrees = h.agrees }

end_of : (p : Map) (u : Store) → Tidy p → u.tree ≡ p → Ended p (apply remove_log u)
end_of p u t e = unfold apply in record { same = refl; sorted = rw e t.sorted; inside = rw e t.inside; agrees = λ d f a b. ap (look (d, f)) e }

-- Neither the open mark nor a staging file is part of it.
pub heals-shut : (j : Journal) (ops : List Op) (p : Map) (u : Store) → HealsFrom j ops p u → HealsFrom j ops p (without_mark u)
heals-shut j ops p u (recorded e q) = recorded e q
heals-shut j ops p u (undoing o g e i k) = undoing o g e i k
heals-shut j ops p u (ended h) = ended (ended-shut p u h)

heals-unstaged : (j : Journal) (ops : List Op) (p : Map) (k : Name) (u : Store) → HealsFrom j ops p u → HealsFrom j ops p (apply (remove_staging k) u)
unfolding apply
heals-unstaged j ops p k u (recorded e q) = recorded e q
heals-unstaged j ops p k u (undoing o g e i z) = undoing o g e i z
heals-unstaged j ops p k u (ended h) = ended (unfold apply in (ended-unstaged p k u h))

-- Recovery that finds no log: the backups go, then the staging files.
pub clean-through : (p : Map) → Tidy p → (u : Store) → Ended p u → Through (Ended p) (in_turn run (recover_parts absent) u) u
clean-through p t u h =
    through_append (Ended p) (remove_backups u) (in_turn run (remove_standing_log ∷ remove_staging_files ∷ []) v) u a (none_left v.log z.same)
  where
    a : Through (Ended p) (remove_backups u) u
    a = (clean_all p none u t h).0

    v : Store
    v = apply_all (remove_backups u) u

    z : Ended p v
    z = through-end (Ended p) (remove_backups u) u a

    s : Through (Ended p) (remove_staging_files v) v
    s = unstage_through (Ended p) (ended-unstaged p) (staging_names v.staging) v z

    none_left : (q : Option Bytes) → q ≡ none →
        let xs = if_present q (remove_log ∷ []) in
        Through (Ended p) (xs ++ in_turn run (remove_staging_files ∷ []) (apply_all xs v)) v
    none_left none e = through_append (Ended p) (remove_staging_files v) [] v s (through-end (Ended p) (remove_staging_files v) v s)
    none_left (some l) e = none≢some (sym e)

-- Where every Write is marked, each step on the way back heals.
module _ (j : Journal) (ops : List Op) (p : Map) (t : Tidy p) (m : Marked ops) where
  abbrev H : Store → Type 0
  H = HealsFrom j ops p

  ended-through : (xs : List Step) (u : Store) → Through (Ended p) xs u → Through H xs u
  ended-through xs u h = through-map (Ended p) H (λ v e. ended e) xs u h

  -- Removing the log, what follows that, and the staging files.
  pub last-through : (ys : List Step) → ((v : Store) → Ended p v → Through (Ended p) ys v) → (u : Store) → H u → u.tree ≡ p →
      Through H (in_turn run ((λ s. remove_log ∷ ys) ∷ remove_staging_files ∷ []) u) u
  last-through ys k u h q = (
    h,
    ended-through (ys ++ (remove_staging_files w ++ [])) v
        (through_append (Ended p) ys (remove_staging_files w ++ []) v a
        (through_append (Ended p) (remove_staging_files w) [] w s (through-end (Ended p) (remove_staging_files w) w s))),
  )
    where
      v : Store
      v = apply remove_log u

      w : Store
      w = apply_all ys v

      a : Through (Ended p) ys v
      a = k v (end_of p u t q)

      s : Through (Ended p) (remove_staging_files w) w
      s = unstage_through (Ended p) (ended-unstaged p) (staging_names w.staging) w (through-end (Ended p) ys v a)

  -- Undoing and restoring, up to the tree from before.
  pub back-through : (u : Store) → OldTree p → AllGood p ops → journal u.log ≡ j → Inv p (reverse ops) u.tree →
      (parts : List (Store → List Step)) → ((v : Store) → H v → v.tree ≡ p → Through H (in_turn run parts v) v) →
      Through H (in_turn run (in_turn undo_steps (reverse ops) ∷ restore_backups ∷ parts) u) u
  back-through u o g e i parts next =
      through_append H xs (ys ++ in_turn run parts w) u (through-map (Undoes p (reverse ops) u.log) H (λ x d. still x d.inv d.same) xs u a.0)
      (through_append H ys (in_turn run parts w) v c (next w (through-end H ys v c) b.1))
    where
      still : (x : Store) → Inv p (reverse ops) x.tree → x.log ≡ u.log → H x
      still x i d = undoing o g (ap journal d ∙ e) i (marked-safe p ops x.tree g m)

      xs : List Step
      xs = in_turn undo_steps (reverse ops) u

      v : Store
      v = apply_all xs u

      ys : List Step
      ys = restore_backups v

      w : Store
      w = apply_all ys v

      a : Through (Undoes p (reverse ops) u.log) xs u × Undoes p [] u.log v
      a = undo ops p u o g i (marked-safe p ops u.tree g m)

      b : Through (Undoes p [] u.log) ys v × (w.tree ≡ p)
      b = restore_all p o u.log v a.1

      c : Through H ys v
      c = through-map (Undoes p [] u.log) H (λ x d. still x (inv-more (reverse ops) (λ d f r. absurd r) (λ d r. absurd r) d.inv) d.same) ys v b.0

  gone-through : (u : Store) → Ended p u → Through H (in_turn run (recover_parts absent) u) u
  gone-through u h = ended-through (in_turn run (recover_parts absent) u) u (clean-through p t u h)

  -- 02, item 6: "Recovery that meets Held drops the open mark and clears staging, no more".
  held-through : (u : Store) → H u → Through H (in_turn run (recover_parts (held ops whole)) u) u
  held-through u h =
      let s = unstage_through H (heals-unstaged j ops p) (staging_names u.staging) u h in
      through_append H (remove_staging_files u) [] u s (through-end H (remove_staging_files u) u s)

-- Recovery reads the journal as it is, revert takes a Held one for Committing: r is either reading, and j the journal that was read.
module _ (r : Journal → Journal) (j : Journal) (ops : List Op) (none_is : r absent ≡ absent) (New-is : r (recording ops whole) ≡ recording ops whole) where
  plan_by : Store → List Step
  plan_by s = in_turn run (recover_parts (r (journal s.log))) s

  shut_by : (s : Store) (l : Journal) → r (journal s.log) ≡ l → shut plan_by s ≡ run_over run (recover_parts l) (without_mark s)
  unfolding plan_by
  shut_by s l e =
      apply_all-in_turn run (recover_parts (r (journal s.log))) (without_mark s) ∙ ap (λ (m : Journal). run_over run (recover_parts m) (without_mark s)) e

  end_by : (p : Map) → Tidy p → (s : Store) → Bare s.staging → Ended p s → shut plan_by s ≡ settled p
  end_by p t s bare h =
      shut_by s absent (ap (λ (l : Option Bytes). r (journal l)) h.same ∙ none_is) ∙ drop-none v.log last.same
      ∙ staging-gone v ((steady (remove_backups (without_mark s)) (without_mark s)).bare bare)
      ∙ λ i. record { tree = all.1 i; staging = []; log = last.same i; open_mark = (steady (remove_backups (without_mark s)) (without_mark s)).mark i }
    where
      v : Store
      v = apply_all (remove_backups (without_mark s)) (without_mark s)

      all : Through (Ended p) (remove_backups (without_mark s)) (without_mark s) × (v.tree ≡ p)
      all = clean_all p none (without_mark s) t (ended-shut p s h)

      last : Ended p v
      last = through-end (Ended p) (remove_backups (without_mark s)) (without_mark s) all.0

      drop-none : (q : Option Bytes) → q ≡ none →
          let u = apply_all (if_present q (remove_log ∷ [])) v in
          apply_all (remove_staging_files u) u ≡ apply_all (remove_staging_files v) v
      drop-none none e = refl
      drop-none (some l) e = none≢some (sym e)

  -- It is healed.
  heals-by : (p : Map) (u : Store) → Tidy p → Bare u.staging → r j ≡ committing ops whole → HealsFrom j ops p u → shut plan_by u ≡ settled p
  heals-by p u t b c (recorded e q) =
      shut_by u (recording ops whole) (ap r e ∙ New-is) ∙ unfold apply in (staging-gone (apply remove_log (without_mark u)) b) ∙ ap settled q
  heals-by p u t b c (undoing o g e i k) = shut_by u (committing ops whole) (ap r e ∙ c) ∙ rolled_back p (without_mark u) ops o g b i k
  heals-by p u t b c (ended h) = end_by p t u b h

  -- Nothing is refused.
  calm-by : (p : Map) (u : Store) → Undoable (r j) ops → HealsFrom j ops p u → recover_fault (r (journal u.log)) u.tree ≡ none
  calm-by p u c (recorded e q) = ap (λ (k : Journal). recover_fault k u.tree) (ap r e ∙ New-is)
  calm-by p u (inl c) (undoing o g e i k) = ap (λ (k : Journal). recover_fault k u.tree) (ap r e ∙ c)
  calm-by p u (inr c) (undoing o g e i k) = ap (λ (k : Journal). recover_fault k u.tree) (ap r e ∙ c)
  calm-by p u c (ended h) = ap (λ (k : Journal). recover_fault k u.tree) (ap (λ (l : Option Bytes). r (journal l)) h.same ∙ none_is)

  -- Every step (02, item 5).
  heal_through : (p : Map) → Tidy p → Marked ops → Undoable (r j) ops → (u : Store) → HealsFrom j ops p u → Through (HealsFrom j ops p) (plan_by u) u
  unfolding plan_by
  heal_through p t m c u h = go h c
    where
      H : Store → Type 0
      H = HealsFrom j ops p

      by : (k : Journal) → r (journal u.log) ≡ k → Through H (in_turn run (recover_parts k) u) u → Through H (in_turn run (recover_parts (r (journal u.log))) u) u
      by k e d = subst (λ (k : Journal). Through H (in_turn run (recover_parts k) u) u) (sym e) d

      go : H u → Undoable (r j) ops → Through H (in_turn run (recover_parts (r (journal u.log))) u) u
      go (recorded e q) c = by (recording ops whole) (ap r e ∙ New-is) (last-through j ops p t m [] (λ v h. h) u (recorded e q) q)
      go (undoing o g e i k) (inl c) =
          by (committing ops whole) (ap r e ∙ c)
          (back-through j ops p t m u o g e i ((λ s. remove_log ∷ []) ∷ remove_staging_files ∷ []) (last-through j ops p t m [] (λ v h. h)))
      go (undoing o g e i k) (inr c) = by (held ops whole) (ap r e ∙ c) (held-through j ops p t m u (undoing o g e i k))
      go (ended h) c = by absent (ap (λ (l : Option Bytes). r (journal l)) h.same ∙ none_is) (gone-through j ops p t m u h)

  -- Cut after any of its steps, it is still healed to the same tree.
  cut_by : (p : Map) → Tidy p → Marked ops → Undoable (r j) ops → (u : Store) (n : ℕ) → HealsFrom j ops p u → HealsFrom j ops p (shut_at plan_by n u)
  cut_by p t m c u n h =
      through-take (HealsFrom j ops p) n (plan_by (without_mark u)) (without_mark u) (heal_through p t m c (without_mark u) (heals-shut j ops p u h))

-- Recovery of what a commit did; of what a held commit did it leaves all.
pub heals : (ops : List Op) (p : Map) (u : Store) → Tidy p → Bare u.staging → Heals ops p u → recovered u ≡ settled p
unfolding recovered recover_plan plan_by
heals ops p u t b h = heals-by (λ j. j) (committing ops whole) ops refl refl p u t b refl h

pub heals-calm : (j : Journal) (ops : List Op) (p : Map) (u : Store) → Undoable j ops → HealsFrom j ops p u → recover_fault (journal u.log) u.tree ≡ none
heals-calm j ops p u c h = calm-by (λ k. k) j ops refl refl p u c h

pub heals-cut : (j : Journal) (ops : List Op) (p : Map) → Tidy p → Marked ops → Undoable j ops → (u : Store) (n : ℕ) → HealsFrom j ops p u →
    HealsFrom j ops p (recovered_at n u)
unfolding recovered_at recover_plan plan_by
heals-cut j ops p t m c u n h = cut_by (λ k. k) j ops refl refl p t m c u n h

-- This tree under this log: where the log is Held, recovery leaves both.
pub record Still (tr : Map) (lg : Option Bytes) (u : Store) : Type 0 where
  pub tree : u.tree ≡ tr
  pub log : u.log ≡ lg

pub still-unstaged : (tr : Map) (lg : Option Bytes) (k : Name) (u : Store) → Still tr lg u → Still tr lg (apply (remove_staging k) u)
still-unstaged tr lg k u h = unfold apply in record { tree = h.tree; log = h.log }

module _ (tr : Map) (lg : Option Bytes) (ops : List Op) (e : journal lg ≡ held ops whole) where
  still-parts : (u : Store) → Still tr lg u → recover_parts (journal u.log) ≡ remove_staging_files ∷ []
  still-parts u h = ap (λ (l : Option Bytes). recover_parts (journal l)) h.log ∙ ap recover_parts e

  pub still-calm : (u : Store) → Still tr lg u → recover_fault (journal u.log) u.tree ≡ none
  still-calm u h = ap (λ (k : Journal). recover_fault k u.tree) (ap journal h.log ∙ e)

  pub still-cut : (u : Store) (n : ℕ) → Still tr lg u → Still tr lg (recovered_at n u)
  unfolding recovered_at recover_plan
  still-cut u n h =
      let v : Store = without_mark u in
      let k : Still tr lg v = record { tree = h.tree; log = h.log } in
      let s = unstage_through (Still tr lg) (still-unstaged tr lg) (staging_names v.staging) v k in
      rw (still-parts u h) (through-take (Still tr lg) n (remove_staging_files v ++ []) v
      (through_append (Still tr lg) (remove_staging_files v) [] v s (through-end (Still tr lg) (remove_staging_files v) v s)))

  pub still-recovered : (u : Store) → Bare u.staging → Still tr lg u → recovered u ≡ record { tree = tr; staging = []; log = lg; open_mark = false }
  unfolding recovered recover_plan
  still-recovered u b h =
      apply_all-in_turn run (recover_parts (journal u.log)) (without_mark u)
      ∙ ap (λ (l : List (Store → List Step)). run_over run l (without_mark u)) (still-parts u h) ∙ staging-gone (without_mark u) b
      ∙ λ i. record { tree = h.tree i; staging = []; log = h.log i; open_mark = false }

-- Revert.
pub reverts : (ops : List Op) (p : Map) (u : Store) → Tidy p → Bare u.staging → Reverts ops p u → reverted u ≡ settled p
unfolding reverted revert_plan plan_by
reverts ops p u t b h = heals-by unheld (held ops whole) ops refl refl p u t b refl h

pub reverts-calm : (ops : List Op) (p : Map) (u : Store) → Reverts ops p u → recover_fault (unheld (journal u.log)) u.tree ≡ none
reverts-calm ops p u h = calm-by unheld (held ops whole) ops refl refl p u (inl refl) h

pub reverts-cut : (ops : List Op) (p : Map) → Tidy p → Marked ops → (u : Store) (n : ℕ) → Reverts ops p u → Reverts ops p (reverted_at n u)
unfolding reverted_at revert_plan plan_by
reverts-cut ops p t m u n h = cut_by unheld (held ops whole) ops refl refl p t m (inl refl) u n h
