-- The rules of a loss of power, as Loss.antt states them.
use Rattle.std.specs.Prelude.{◌≡◌, refl, ℕ, Bool, ◌⊎◌, length, leb}
use Rattle.std.proofs.Common.{sym, ◌∙◌, inl, inr}
use Rattle.std.proofs.Math.Path.{ap, subst}
use mathlib.Core.List.{List, [], ◌++◌, map}
use Rattle.std.proofs.Math.Option.{Option, none, some}
use Rattle.std.proofs.Math.Bool.{true, false}
use Rattle.std.proofs.lemmas.Bool.{false≢true}
use Rattle.std.proofs.Math.ListN.{take}
use Rattle.basics.specs.Limits.{image_room}
use Rattle.basics.specs.Map.{Map}
use Rattle.basics.specs.Base.{Bytes, In, case_option}
use Rattle.model.specs.Operation.{Op, Write, write}
use Rattle.model.specs.Log.{journal, committing, whole}
use Rattle.model.specs.Store.{Store}
use Rattle.model.specs.Image.{decode}
use Rattle.model.specs.Step.{Step, remove_log, sync_journal, apply_all, Fault, commit_number}
use Rattle.model.specs.Plan.{commit_fault, commit_plan, committed_at, recovered, recover_fault, without_mark}
use Rattle.answers.specs.Answers.{Answer, answer, commit, recover}
use Rattle.basic_laws.specs.MapLaws.{Sorted}
use Rattle.basic_laws.specs.ValidNames.{Valid}
use Rattle.laws.specs.ImageLaws.{decode-only}
use Rattle.laws.specs.Runs.{apply_all_append, runs_take}
use Rattle.laws.specs.StoreLaws.{Good, good, Bare, bare}
use Rattle.cut_rule.specs.Demand.{Either, TrulyMarked, all_writes_done, settled}
use Rattle.cut_rule.specs.Kinds.{Marked}
use Rattle.cut_rule.proofs.StoreRule.{Within, Transacts, marked-safe}
use Rattle.cut_rule.proofs.Clean.{Tidy, old-tidy}
use Rattle.cut_rule.proofs.Heal.{Ended, Heals, undoing, ended, heals, heals-calm}
use Rattle.cut_rule.proofs.Commit.{final, final-tidy, committed-end}
use Rattle.cut_rule.proofs.OverImages.{Found, found_in, commit-gives, committed, transacts, inside, answered, not-refused}
use Rattle.cut_rule.proofs.Writes.{one_of, suits, all_true, truly-true, truly-marked, all_done}
use Rattle.cut_rule.proofs.Again.{either, done-not_4}
use Rattle.power.specs.Loss
use Rattle.power.specs.Loss.{Survives, After, stopped, recovers, loses, synced_plan, synced_commit, InPlace, AllInPlace, Covered, LossRule, KeptRule}
use Rattle.power.specs.Loss.{WritesLossRule, WritesKeptRule}
use Rattle.power.proofs.Marking.{plan_blind}
use Rattle.power.proofs.Torn.{idle-calm, idle-recovers}
use Rattle.power.proofs.Phases.{Case, Mends, undoes, gone, idle, Overs, Phase, resting, working, over, start-rests, start-works, start-over, found_phase}
use Rattle.power.proofs.Phases.{found-over}
use Rattle.power.proofs.Recovering.{kept_run, recover-run}
use Rattle.power.proofs.Commits.{old_case, new_case, failing-run, commit-run, removed_or_old, kept_at}

-- What an image holds, and what recovery answers where it is mended.
lent : (c : Bytes) (t : Store) → decode c ≡ some t → Good Valid t
lent c t d = good t (decode-only c t d).1

mended : {ops : List Op} {o f : Map} (C : Case ops o f) (c : Bytes) (t : Store) (out : ℕ) → decode c ≡ some t → Mends ops o t → ((recover c out).number ≡ 2 → ⊥) →
    recover c out ≡ answer 0 (settled o)
mended {ops} {o} C c t out d h l = go h
  where
    b : Bare t.staging
    b = bare t (decode-only c t d).1

    gives : recover_fault (journal t.log) t.tree ≡ none → recovered t ≡ settled o → recover c out ≡ answer 0 (settled o)
    gives calm end =
        not-refused (leb image_room out) (recover c out) (answer 0 (settled o))
        (ap (λ (x : Bytes). recover x out) (sym (decode-only c t d).0) ∙ answered t (settled o) out (lent c t d) calm end) l

    healed : Heals ops o t → recover c out ≡ answer 0 (settled o)
    healed h = gives (heals-calm (committing ops whole) ops o t (inl refl) h) (heals ops o t (old-tidy C.old) b h)

    go : Mends ops o t → recover c out ≡ answer 0 (settled o)
    go (undoes u j) = healed (undoing C.old C.good j u.inv (marked-safe o ops t.tree C.good C.marked))
    go (gone h) = healed (ended h)
    go (idle e i) =
        gives (idle-calm ops o C.old C.good C.in_place C.marked t e (journal t.log) i)
        (idle-recovers ops o C.old C.good C.in_place C.marked t b e i)

done_already : (ops : List Op) (f : Map) (c : Bytes) (t : Store) (out : ℕ) → Tidy f → decode c ≡ some t → Ended f t → ((recover c out).number ≡ 2 → ⊥) →
    recover c out ≡ answer 0 (settled f)
done_already ops f c t out y d h l =
    not-refused (leb image_room out) (recover c out) (answer 0 (settled f))
    (ap (λ (x : Bytes). recover x out) (sym (decode-only c t d).0)
    ∙ answered t (settled f) out (lent c t d) (heals-calm (committing ops whole) ops f t (inl refl) (ended h))
    (heals ops f t y (bare t (decode-only c t d).1) (ended h))) l

-- A loss is a new start, with nothing appended to the log.
start-old : {ops : List Op} {o : Map} (C : Case ops o o) (t : Store) → Mends ops o t → Phase C false t [] t
start-old C t (undoes u j) = working (start-works C false t refl (u, j))
start-old C t (gone h) = over (start-over C false t h)
start-old C t (idle q i) = resting (start-rests C false t (q, inr (i, λ z. absurd (false≢true z))))

module _ (s : Store) (ops : List Op) (T : Transacts s ops) (place : AllInPlace ops) (m : Marked ops) (n : ℕ) where
  abbrev Old : Bool → Store → List Step → Store → Type 0
  Old = Phase (old_case s ops T place m)

  abbrev New : commit_fault s ≡ none → Bool → Store → List Step → Store → Type 0
  New q = Phase (new_case s ops T place m q)

  -- The commit's steps that were done. If 0x2B is among them, the tree that is to come is the one that it leaves; or there is but the one from before.
  abbrev first : List Step
  first = take n (synced_commit s)

  abbrev Unlogged : Type 0
  Unlogged = In remove_log first

  data Stands (a : Bool) (k : Store) (done : List Step) : Type 0 where
    old : Old a k done (apply_all done k) → Stands a k done
    new : (q : commit_fault s ≡ none) → Unlogged → New q a k done (apply_all done k) → Stands a k done

  pub data Finds (t : Store) : Type 0 where
    before : Mends ops s.tree t → Finds t
    after : commit_fault s ≡ none → In remove_log (take n (synced_commit s)) → Ended (final s ops T) t → Finds t

  found : (a : Bool) (k : Store) (done : List Step) (t : Store) → Sorted t.tree → Within t.tree → Survives a done k t → Stands a k done → Finds t
  found a k done t so w v (old p) = go (found_phase (old_case s ops T place m) a k done t so w v (apply_all done k) p)
    where
      go : Mends ops s.tree t ⊎ Ended s.tree t → Finds t
      go (inl h) = before h
      go (inr h) = before (gone h)
  found a k done t so w v (new q r p) = go (found_phase (new_case s ops T place m q) a k done t so w v (apply_all done k) p)
    where
      go : Mends ops s.tree t ⊎ Ended (final s ops T) t → Finds t
      go (inl h) = before h
      go (inr h) = after q r h

  starts : (t : Store) → Finds t → Stands false t []
  starts t (before h) = old (start-old (old_case s ops T place m) t h)
  starts t (after q r h) = new q r (over (start-over (new_case s ops T place m q) false t h))

  goes_on : {f : Map} (C : Case ops s.tree f) (a : Bool) (k : Store) (done : List Step) (j : ℕ) → Phase C a k done (apply_all done k) →
      let xs = done ++ take j (synced_plan (without_mark (apply_all done k))) in Phase C a k xs (apply_all xs k)
  goes_on C a k done j p =
      let u : Store = apply_all done k in
      rw (plan_blind u) (subst (Phase C a k (done ++ take j (synced_plan u))) (sym (apply_all_append done (take j (synced_plan u)) k))
      (runs_take (Phase C a k) done (synced_plan u) u (recover-run C a k done u p) j))

  recovering : (a : Bool) (k : Store) (done : List Step) (j : ℕ) → Stands a k done → Stands a k (done ++ take j (synced_plan (without_mark (apply_all done k))))
  recovering a k done j (old p) = old (goes_on (old_case s ops T place m) a k done j p)
  recovering a k done j (new q r p) = new q r (goes_on (new_case s ops T place m q) a k done j p)

  -- The commit's own steps.
  plan-is : (q : commit_fault s ≡ none) → synced_commit s ≡ commit_plan s
  unfolding synced_commit
  plan-is q = ap (λ (z : Option Fault). case_option z (commit_plan s) (λ e. Loss.with_syncs (commit_plan s) s)) q

  committing_at : Stands true s first
  committing_at = go (commit_fault s) refl
    where
      go : (z : Option Fault) → commit_fault s ≡ z → Stands true s (take n (synced_commit s))
      go none q = at (subst (λ (xs : List Step). In remove_log (take n xs) ⊎ Old true s (take n xs) (apply_all (take n xs) s)) (sym (plan-is q)) (removed_or_old s ops T place m q n))
        where
          run : New q true s (take n (synced_commit s)) (apply_all (take n (synced_commit s)) s)
          run =
              subst (λ (xs : List Step). New q true s (take n xs) (apply_all (take n xs) s)) (sym (plan-is q))
              (runs_take (New q true s) [] (commit_plan s) s (commit-run s ops T place m q) n)

          at : In remove_log (take n (synced_commit s)) ⊎ Old true s (take n (synced_commit s)) (apply_all (take n (synced_commit s)) s) → Stands true s (take n (synced_commit s))
          at (inl r) = new q r run
          at (inr p) = old p
      go (some e) q = old (runs_take (Old true s) [] (synced_commit s) s (failing-run s ops T place m e q) n)

  -- Whatever follows.
  reaches : (a : Bool) (k : Store) (done : List Step) → After s first a k done → Stands a k done
  reaches _ _ _ stopped = committing_at
  reaches _ _ _ (recovers a k done j r) = recovering a k done j (reaches a k done r)
  reaches _ _ _ (loses a k done t c r v d) =
      starts t (found a k done t (lent c t d).tree.sorted (inside t (lent c t d)) v (reaches a k done r))

  -- And where the journal was synced.
  module _ (q : commit_fault s ≡ none) where
    N : Case ops s.tree (final s ops T)
    N = new_case s ops T place m q

    Kept : Bool → Store → List Step → Type 0
    Kept a k done = Overs N a k done (apply_all done k)

    kept : In sync_journal first → (a : Bool) (k : Store) (done : List Step) → After s first a k done → Kept a k done
    unfolding Kept N
    kept i _ _ _ stopped =
        subst (λ (xs : List Step). Overs N true s (take n xs) (apply_all (take n xs) s)) (sym (plan-is q))
        (kept_at s ops T place m q n (subst (λ (xs : List Step). In sync_journal (take n xs)) (plan-is q) i))
    kept i _ _ _ (recovers a k done j r) =
        let u : Store = apply_all done k in
        rw (plan_blind u) (subst (Overs N a k (done ++ take j (synced_plan u))) (sym (apply_all_append done (take j (synced_plan u)) k))
        (runs_take (Overs N a k) done (synced_plan u) u (kept_run N a k done u (kept i a k done r)) j))
    kept i _ _ _ (loses a k done t c r v d) =
        start-over N false t (found-over N a k done t (lent c t d).tree.sorted (inside t (lent c t d)) v (kept i a k done r).0)

    pub finds-kept : In sync_journal (take n (synced_commit s)) → (c : Bytes) (F : Loss.Found s n c) → Ended (final s ops T) F.store
    unfolding Kept N
    finds-kept i c F =
        found-over N F.appended F.disk F.done F.store (lent c F.store F.image).tree.sorted (inside F.store (lent c F.store F.image))
        F.survives (kept i F.appended F.disk F.done F.after).0

  pub finds : (c : Bytes) (F : Loss.Found s n c) → Finds F.store
  finds c F =
      found F.appended F.disk F.done F.store (lent c F.store F.image).tree.sorted (inside F.store (lent c F.store F.image))
      F.survives (reaches F.appended F.disk F.done F.after)

-- Over images.
begins : {b : Bytes} {s : Store} {ops : List Op} → Covered b s ops → Found s
begins {b} {s} C = found_in b s C.suits.holds C.begun

begun : {b : Bytes} {s : Store} {ops : List Op} → Covered b s ops → Transacts s ops
begun {b} {s} {ops} C = transacts b s ops C.suits C.told (begins C)

-- A commit that meets no failing step answers 0 and its tree.
commits : {b : Bytes} {s : Store} {ops : List Op} (C : Covered b s ops) → commit_fault s ≡ none → commit b image_room ≡ answer 0 (settled (final s ops (begun C)))
commits {b} {s} {ops} C q =
    commit-gives b s C.suits.holds (begins C)
    ∙ ap (λ (z : Option Fault). answer (commit_number z) (committed_at (length (commit_plan s)) s)) q
    ∙ ap (answer 0) (committed-end s ops (begun C) q)

pub loss_rule : LossRule
loss_rule b s ops n c out C F l = go (finds s ops T C.in_place C.marked n c F)
  where
    T : Transacts s ops
    T = begun C

    go : Finds s ops T C.in_place C.marked n F.store →
        (recover c out ≡ answer 0 (settled s.tree))
        ⊎ (((commit b image_room).number ≡ 0) × In remove_log (take n (synced_commit s)) × (recover c out ≡ commit b image_room))
    go (before h) = inl (mended (old_case s ops T C.in_place C.marked) c F.store out F.image h l)
    go (after q r h) = inr (
      ap (λ (a : Answer). a.number) (commits C q),
      r,
      done_already ops (final s ops T) c F.store out (final-tidy s ops T q) F.image h l ∙ sym (commits C q),
    )

pub kept_rule : KeptRule
kept_rule b s ops n c out C e i F l =
    done_already ops (final s ops T) c F.store out (final-tidy s ops T q) F.image (finds-kept s ops T C.in_place C.marked n q i c F) l
    ∙ sym (commits C q)
  where
    T : Transacts s ops
    T = begun C

    q : commit_fault s ≡ none
    q = (committed b s C.suits.holds e).1

-- Marked Writes.
writes_covered : {b : Bytes} {s : Store} {ws : List Write} → Either b s ws → TrulyMarked s.tree ws → Covered b s (map write ws)
writes_covered {b} {s} {ws} C m = record {
  suits = suits C;
  told = all_true s.tree ws (truly-true s.tree ws m);
  marked = truly-marked s.tree ws m;
  in_place = λ a i. let w = one_of ws a i in subst InPlace (sym w.2) tt;
  begun = C.committed;
}

written : {b : Bytes} {s : Store} {ws : List Write} → Either b s ws → TrulyMarked s.tree ws → (commit b image_room).number ≡ 0 →
    commit b image_room ≡ answer 0 (settled (all_writes_done s.staging ws s.tree))
written {b} {s} {ws} C m e =
    let L : Covered b s (map write ws) = writes_covered C m in
    let q = (committed b s C.holds e).1 in
    commits L q ∙ ap (λ (p : Map). answer 0 (settled p)) (all_done s ws (begun L) q)

pub writes_loss_rule : WritesLossRule
writes_loss_rule b s ws n c out C m F l = go (loss_rule b s (map write ws) n c out (writes_covered C m) F l)
  where
    go : (recover c out ≡ answer 0 (settled s.tree))
        ⊎ (((commit b image_room).number ≡ 0) × In remove_log (take n (synced_commit s)) × (recover c out ≡ commit b image_room)) →
        (recover c out ≡ answer 0 (settled s.tree))
        ⊎ (((commit b image_room).number ≡ 0) × In remove_log (take n (synced_commit s))
        × (recover c out ≡ answer 0 (settled (all_writes_done s.staging ws s.tree))))
    go (inl h) = inl h
    go (inr h) = inr (h.0, h.1, h.2 ∙ written C m h.0)

pub writes-kept_rule : WritesKeptRule
writes-kept_rule b s ws n c out C m i F l =
    let E : Either b s ws = either done-not_4 C in
    kept_rule b s (map write ws) n c out (writes_covered E m) C.committed i F l ∙ written E m C.committed
