-- 02, item 6: what a held commit leaves, at its end and at each of its cuts, and what keep does with it.
use Rattle.std.specs.Prelude.{◌≡◌, false, ◌⊎◌, length, take}
use Rattle.std.proofs.Math.Path.{refl}
use Rattle.std.proofs.Common.{◌∙◌, ap, subst, sym}
use Prim.Native.Nat.{ℕ, zero, suc, ◌-◌}
use mathlib.Core.List.{List, [], ◌∷◌, ◌++◌, map}
use Rattle.std.proofs.Math.Option.{none}
use Rattle.std.proofs.Math.Logic.{inl, inr}
use Rattle.basics.specs.Map.{Map}
use Rattle.model.specs.Operation.{Op}
use Rattle.model.specs.Log.{journal, ops_of, committing, held, whole}
use Rattle.model.specs.Store.{Store, staging_names}
use Rattle.model.specs.Step.{Step, rewrite_header, sync_staging, sync_log, marked_held, apply, apply_all}
use Rattle.model.specs.Plan.{in_turn, run, remove_backups, remove_staging_files, operation_steps, sync_existing, first_namings, collection_of, commit_fault, hold_end}
use Rattle.model.specs.Plan.{ending_at, commit_plan, committed_at, hold_plan, held_at, without_mark_at_end, keep_plan, kept_at}
use Rattle.basic_laws.specs.ValidNames.{Valid}
use Rattle.laws.specs.LogLaws.{hold-journal}
use Rattle.laws.specs.Listings.{dels-all}
use Rattle.laws.specs.StoreLaws.{Good, Bare, well-formed, bare}
use Rattle.laws.specs.Runs.{apply_all-in_turn}
use Rattle.laws.specs.EndLaws.{unstaged, sweeps, up_to_end, held_store, hold-leaves, commit-leaves}
use Rattle.laws.specs.WellFormed.{hold-keeps}
use Rattle.cut_rule.specs.Demand.{settled}
use Rattle.cut_rule.specs.Kinds.{Marked}
use Rattle.cut_rule.proofs.StoreRule.{Transacts, marked-safe}
use Rattle.cut_rule.proofs.Walk.{steady, Through, through-end, through-take, through_append, through-map}
use Rattle.cut_rule.proofs.Clean.{Tidy, clean_all, tidied}
use Rattle.cut_rule.proofs.Heal.{Ended, Heals, Reverts, recorded, undoing, Still, still-unstaged, unstage_through}
use Rattle.cut_rule.proofs.Apply.{Mid}
use Rattle.cut_rule.proofs.Commit.{applied, applied-mid, applied-safe, applied-bare, up_to, at_suc, shut-heals}
use Rattle.cut_rule.proofs.OverImages.{inside}

module _ (s : Store) (ops : List Op) (T : Transacts s ops) (f : commit_fault s ≡ none) where
  abbrev a : Store
  a = applied s ops T

  abbrev M : Store → Type 0
  M = Mid s.tree T.old ops T.good

  -- It hands back the tree with all operations done, their backups beside it, under a Held log.
  abbrev pub on_hold : Store
  on_hold = record { tree = a.tree; staging = []; log = marked_held a.log; open_mark = false }

  pub held-end : held_at (length (hold_plan s)) s ≡ on_hold
  held-end =
      hold-leaves s f ∙ ap held_store (up_to s ops T f)
      ∙ λ i. record { tree = a.tree; staging = dels-all a.staging (applied-bare s ops T f) i; log = marked_held a.log; open_mark = false }

  pub held-journal : journal on_hold.log ≡ held ops whole
  held-journal = hold-journal a.log ops whole (applied-mid s ops T f).log

  -- Revert gives it the files from before.
  pub hold-reverts : Reverts ops s.tree on_hold
  hold-reverts = undoing T.old T.good held-journal (applied-mid s ops T f).inv (applied-safe s ops T f)

  -- Cut anywhere, with marked Writes: recovery gives the files from before, or the log is Held, and recovery leaves the tree and the log.
  abbrev pub OnHold : Store → Type 0
  OnHold = Still a.tree (marked_held a.log)

  hold-through : Through (λ u. M u ⊎ OnHold u) (in_turn run hold_end a) a
  unfolding apply
  hold-through = (
    inl (applied-mid s ops T f),
    (
      inl (applied-mid s ops T f),
      (
        inr begin,
        through-map OnHold (λ u. M u ⊎ OnHold u) (λ u h. inr h) (remove_staging_files v ++ []) v
            (through_append OnHold (remove_staging_files v) [] v st (through-end OnHold (remove_staging_files v) v st)),
      ),
    ),
  )
    where
      v : Store
      v = record { tree = a.tree; staging = a.staging; log = marked_held a.log; open_mark = a.open_mark }

      begin : OnHold v
      begin = record { tree = refl; log = refl }

      st : Through OnHold (remove_staging_files v) v
      st = unstage_through OnHold (still-unstaged a.tree (marked_held a.log)) (staging_names v.staging) v begin

  pub hold-cut : Marked ops → (n : ℕ) → Heals ops s.tree (held_at n s) ⊎ OnHold (held_at n s)
  unfolding ending_at
  hold-cut m n = shut (length (hold_plan s) - n) (apply_all (take n (hold_plan s)) s) (at n)
    where
      mid : (u : Store) → M u ⊎ OnHold u → Heals ops s.tree u ⊎ OnHold u
      mid u (inl h) = inl (undoing T.old T.good h.log h.inv (marked-safe s.tree ops u.tree T.good m))
      mid u (inr h) = inr h

      at : (n : ℕ) → let u : Store = apply_all (take n (hold_plan s)) s in Heals ops s.tree u ⊎ OnHold u
      at zero = inl (recorded T.logged refl)
      at (suc n) = mid (apply_all (take (suc n) (hold_plan s)) s) (at_suc s ops T f hold_end OnHold hold-through n)

      shut : (k : ℕ) (u : Store) → Heals ops s.tree u ⊎ OnHold u → Heals ops s.tree (without_mark_at_end k u) ⊎ OnHold (without_mark_at_end k u)
      shut k u (inl h) = inl (shut-heals (committing ops whole) ops s.tree k u h)
      shut zero u (inr h) = inr record { tree = h.tree; log = h.log }
      shut (suc k) u (inr h) = inr h

-- Keep of what a transaction's held commit hands back, whatever its operations. Its first step removes the log; from there on recovery brings the tree to p,
-- which the ordinary commit hands back.
module _ (s : Store) (g : Good Valid s) (f : commit_fault s ≡ none) where
  abbrev v : Store
  v = up_to_end s

  abbrev pub held_from : Store
  held_from = held_store v

  abbrev w : Store
  w = record { tree = v.tree; staging = unstaged v.staging; log = none; open_mark = false }

  abbrev pub kept_tree : Map
  kept_tree = (apply_all (remove_backups w) w).tree

  pub held-good : Good Valid held_from
  held-good = subst (Good Valid) (hold-leaves s f) (hold-keeps s g f (length (hold_plan s)))

  tidy : Tidy kept_tree × Ended kept_tree w
  tidy = tidied w held-good.tree.sorted (inside held_from held-good)

  pub kept-tidy : Tidy kept_tree
  kept-tidy = tidy.0

  keep-through : Through (Ended kept_tree) (remove_backups w ++ []) w
  keep-through =
      let c = (clean_all kept_tree none w kept-tidy tidy.1).0 in
      through_append (Ended kept_tree) (remove_backups w) [] w c (through-end (Ended kept_tree) (remove_backups w) w c)

  pub keep-cut : (n : ℕ) → (kept_at n held_from ≡ held_from) ⊎ Ended kept_tree (kept_at n held_from)
  unfolding kept_at keep_plan apply
  keep-cut zero = inl refl
  keep-cut (suc zero) = inr tidy.1
  keep-cut (suc (suc n)) = inr (through-take (Ended kept_tree) n (remove_backups w ++ []) w keep-through)

  pub keep_settles : committed_at (length (commit_plan s)) s ≡ settled kept_tree
  keep_settles =
      commit-leaves s f
      ∙ λ i. record { tree = ap (λ (u : Store). u.tree) (sym (sweeps w)) i; staging = dels-all v.staging bare-up i; log = none; open_mark = false }
    where
      begun : Store
      begun = apply rewrite_header s

      ops : List Op
      ops = ops_of (journal s.log)

      parts : List (Store → List Step)
      parts = (λ s. sync_staging ∷ sync_log ∷ []) ∷ operation_steps ops ∷ in_turn sync_existing (first_namings [] (map collection_of ops)) ∷ []

      bare-up : Bare (up_to_end s).staging
      bare-up = unfold up_to_end in
          (subst (λ (u : Store). Bare u.staging) (apply_all-in_turn run parts begun)
          ((steady (in_turn run parts begun) begun).bare (unfold apply in (bare s (well-formed s g)))))
