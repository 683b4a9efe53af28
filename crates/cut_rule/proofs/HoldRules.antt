-- 02, item 6, over images: what Demand.antt states of hold, keep and revert.
use Rattle.std.specs.Prelude.{◌≡◌, refl, ℕ, List, [], ◌∷◌, map, Bool, true, false, ◌&&◌, ◌⊎◌, length, if◌then◌else◌}
use Rattle.std.proofs.Common.{sym, ◌∙◌, arith, inl, inr}
use Rattle.std.proofs.Math.Path.{ap, subst}
use Rattle.std.proofs.Math.Option.{Option, none, some}
use Rattle.std.proofs.Math.Dec.{leb}
use Rattle.basics.specs.Limits.{image_room, step_room}
use Rattle.basics.specs.Map.{Map}
use Rattle.basics.specs.Base.{Bytes, case_option}
use Rattle.model.specs.Operation.{Op, write}
use Rattle.model.specs.Log.{journal, held, whole, is_held}
use Rattle.model.specs.Store.{Store}
use Rattle.model.specs.Image.{encode, decode}
use Rattle.model.specs.Step.{Step, Fault, commit_number}
use Rattle.model.specs.Plan.{commit_fault, commit_end, hold_end, committed_at, commit_plan, held_at, hold_plan, keep_plan, kept_at, kept, recovered_at, revert_plan, reverted_at, without_mark}
use Rattle.answers.specs.Answers.{Answer, answer, refusal, ending_store, commit_store, step_answer, commit, commit_step, recover, hold, hold_step, keep_store, keep}
use Rattle.answers.specs.Answers.{keep_step, revert_store, revert, revert_step}
use Rattle.basic_laws.specs.Tests.{le-leb}
use Rattle.basic_laws.specs.ValidNames.{Valid}
use Rattle.laws.specs.ImageLaws.{decode-encode}
use Rattle.laws.specs.StoreLaws.{Good, well-formed, bare}
use Rattle.laws.specs.LogLaws.{found-whole}
use Rattle.laws.specs.EndLaws.{hold-leaves, keep-held, held-log, failing-plan, failing-at}
use Rattle.laws.specs.WellFormed.{hold-keeps, keep-keeps, recover-keeps-valid, revert-keeps-named}
use Rattle.answer_laws.specs.EntryLaws.{lent-good}
use Rattle.cut_rule.specs.Demand
use Rattle.cut_rule.specs.Demand.{Act, act, cut_acts, InActs, RevertRule, settled, cut_recoveries, InPlans, held_image, hold_cut_at, HoldKeep, HoldRevert}
use Rattle.cut_rule.specs.Demand.{HoldRule, HoldFails, HoldFailing, KeepRule}
use Rattle.cut_rule.specs.Kinds.{Suits, AllTrue, Marked, KindsRevert, KindsHold, KindsActs}
use Rattle.cut_rule.proofs.StoreRule.{Transacts}
use Rattle.cut_rule.proofs.Clean.{Tidy, old-tidy}
use Rattle.cut_rule.proofs.Heal.{Ended, Heals, recorded, undoing, ended, Still, still-calm, still-cut, still-recovered, heals-calm, heals-cut, Reverts}
use Rattle.cut_rule.proofs.Heal.{reverts, reverts-calm, reverts-cut}
use Rattle.cut_rule.proofs.Hold.{on_hold, held-end, held-journal, hold-reverts, OnHold, hold-cut, held_from, kept_tree, held-good, kept-tidy, keep-cut, keep_settles}
use Rattle.cut_rule.proofs.OverImages.{Found, found_in, commit-gives, committed, transacts, at-step, not-refused}
use Rattle.cut_rule.proofs.Writes.{suits, all_true, truly-true, truly-marked}
use Rattle.cut_rule.proofs.KindsRule.{fault-of, not_4}
use Rattle.cut_rule.proofs.Theorem.{failing-commit, failing_rule}
use Rattle.cut_rule.proofs.Again.{none-twice, Recovers, step-image, again, recovered-good, healing, again_rule, either}

-- An image whose commit is not given 1 holds a store.
decoded : (b : Bytes) → ((commit b image_room).number ≡ 1 → ⊥) → (s : Store) × (decode b ≡ some s)
unfolding commit
decoded b h = go (decode b) refl h
  where
    go : (q : Option Store) → decode b ≡ q → ((case_option q (refusal 1) commit_store).number ≡ 1 → ⊥) → (s : Store) × (decode b ≡ some s)
    go none d h = absurd (h refl)
    go (some s) d h = (s, d)

-- What hold gives where no step fails; what commit gives then.
pub hold-done : (b : Bytes) (s : Store) → decode b ≡ some s → Found s × (commit_fault s ≡ none) → hold b image_room ≡ answer 0 (held_at (length (hold_plan s)) s)
unfolding hold ending_store
hold-done b s d k = rw (d, k.0.found, k.1)

commit-done : (b : Bytes) (s : Store) (out : ℕ) → decode b ≡ some s → Found s × (commit_fault s ≡ none) →
    commit b out ≡ if◌then◌else◌ (leb image_room out) (answer 0 (committed_at (length (commit_plan s)) s)) (refusal 2)
unfolding commit ending_store
commit-done b s out d k = rw (d, k.0.found, k.1)

keep-answers : (u : Store) (out : ℕ) → Good Valid u → is_held (journal u.log) ≡ true →
    keep (encode u) out ≡ if◌then◌else◌ (leb image_room out) (answer 0 (kept u)) (refusal 2)
unfolding keep keep_store
keep-answers u out g h = rw (decode-encode u (well-formed u g), h)

pub hold_keep : HoldKeep
hold_keep b out e = (
  ap (λ (a : Answer). a.number) h,
  ap (λ (a : Answer). keep a.image out) h ∙ keep-answers H out (hold-keeps s (lent-good b s d) k.1 (length (hold_plan s))) is
      ∙ ap (λ (u : Store). if◌then◌else◌ (leb image_room out) (answer 0 u) (refusal 2)) (keep-held s k.1) ∙ sym (commit-done b s out d k),
)
  where
    s : Store
    s = (decoded b (λ z. omega arith)).0

    d : decode b ≡ some s
    d = (decoded b (λ z. omega arith)).1

    k : Found s × (commit_fault s ≡ none)
    k = committed b s d e

    H : Store
    H = held_at (length (hold_plan s)) s

    h : hold b image_room ≡ answer 0 H
    h = hold-done b s d k

    is : is_held (journal H.log) ≡ true
    is = ap is_held (held-log s k.0.ops k.1 (found-whole s k.0.ops k.0.found))

-- A transaction of any kinds that is held.
module _ (b : Bytes) (s : Store) (ops : List Op) (C : Suits b s ops) (t : AllTrue s.tree ops) (c : (commit b image_room).number ≡ 0) where
  k : Found s × (commit_fault s ≡ none)
  k = committed b s C.holds c

  T : Transacts s ops
  T = transacts b s ops C t k.0

  H : Store
  H = on_hold s ops T k.1

  hold-is : hold b image_room ≡ answer 0 H
  unfolding H
  hold-is = hold-done b s C.holds k ∙ ap (answer 0) (held-end s ops T k.1)

  H-good : Good Valid H
  unfolding H
  H-good = subst (Good Valid) (held-end s ops T k.1) (hold-keeps s (lent-good b s C.holds) k.1 (length (hold_plan s)))

  H-journal : journal H.log ≡ held ops whole
  unfolding H
  H-journal = held-journal s ops T k.1

  H-reverts : Reverts ops s.tree H
  unfolding H
  H-reverts = hold-reverts s ops T k.1

revert-answers : (ops : List Op) (p : Map) (u : Store) (out : ℕ) → Tidy p → Good Valid u → journal u.log ≡ held ops whole → Reverts ops p u →
    revert (encode u) out ≡ if◌then◌else◌ (leb image_room out) (answer 0 (settled p)) (refusal 2)
unfolding revert revert_store
revert-answers ops p u out t g j h =
    let w = well-formed u g in
    rw (decode-encode u w, ap is_held j, reverts-calm ops p u h, reverts ops p u t (bare u w) h)

pub kinds_revert : KindsRevert
kinds_revert b s ops out C t c = (
  ap (λ (a : Answer). a.number) (hold-is b s ops C t c),
  not-refused (leb image_room out) (revert (held_image b) out) (answer 0 (settled s.tree))
      (ap (λ (a : Answer). revert a.image out) (hold-is b s ops C t c)
      ∙ revert-answers ops s.tree (H b s ops C t c) out (old-tidy (T b s ops C t c).old) (H-good b s ops C t c) (H-journal b s ops C t c) (H-reverts b s ops C t c)),
)

pub hold-revert : HoldRevert
hold-revert b s ws out C m = kinds_revert b s (map write ws) out (suits C) (all_true s.tree ws m) C.committed

-- Recovery leaves what is on hold.
staying : (tr : Map) (lg : Option Bytes) (ops : List Op) → journal lg ≡ held ops whole →
    Recovers (Still tr lg) (record { tree = tr; staging = []; log = lg; open_mark = false })
staying tr lg ops e = record {
  calm = still-calm tr lg ops e;
  good = λ u g h. recover-keeps-valid u g (λ l z. let j = ap journal h.log ∙ e in let y : ◌≡◌ {A = ℕ} 0 1 = cc in omega arith);
  stays = still-cut tr lg ops e;
  gives = λ u g h. still-recovered tr lg ops e u (bare u (well-formed u g)) h;
}

-- Keep's step 0 says whether a Held log stands.
asked : (u : Store) (t : Bool) → Good Valid u → is_held (journal u.log) ≡ t → (keep_step 0 (encode u) image_room step_room).number ≡ (if t then 0 else 18)
unfolding keep_step
asked u true g q = let z = le-leb 0 (length (keep_plan (without_mark u))) (omega arith) in rw (decode-encode u (well-formed u g), q, z)
asked u false g q = rw (decode-encode u (well-formed u g), q)

heals-free : (ops : List Op) (p : Map) (u : Store) → Heals ops p u → is_held (journal u.log) ≡ false
heals-free ops p u (recorded e q) = ap is_held e
heals-free ops p u (undoing o g e i k) = ap is_held e
heals-free ops p u (ended h) = ap (λ (l : Option Bytes). is_held (journal l)) h.same

pub kinds_hold : KindsHold
unfolding H
kinds_hold b s ops n ms out C t m c e i l = go (hold-cut s ops T₁ f.1 m n)
  where
    f : Found s × (commit_fault s ≡ none)
    f = k b s ops C t c

    T₁ : Transacts s ops
    T₁ = T b s ops C t c

    u : Store
    u = held_at n s

    g : Good Valid u
    g = hold-keeps s (lent-good b s C.holds) f.1 n

    x : hold_cut_at n b ≡ encode u
    x = at-step (hold_step n b image_room step_room) n (hold_plan s) u (unfold hold_step in (rw (C.holds, f.0.found))) e

    ask : (t : Bool) → is_held (journal u.log) ≡ t → (keep_step 0 (hold_cut_at n b) image_room step_room).number ≡ (if t then 0 else 18)
    ask t q = ap (λ (c : Bytes). (keep_step 0 c image_room step_room).number) x ∙ asked u t g q

    gives : (I : Store → Type 0) (y : Store) → Recovers I y → I u → recover (cut_recoveries ms (hold_cut_at n b)) out ≡ answer 0 y
    gives I y r h =
        not-refused (leb image_room out) (recover (cut_recoveries ms (hold_cut_at n b)) out) (answer 0 y)
        (ap (λ (c : Bytes). recover (cut_recoveries ms c) out) x ∙ again I y r out ms u g h (subst (InPlans ms) x i)) l

    lg : Option Bytes
    lg = (on_hold s ops T₁ f.1).log

    go : Heals ops s.tree u ⊎ OnHold s ops T₁ f.1 u →
        let c : Bytes = hold_cut_at n b in
        let r : Answer = recover (cut_recoveries ms c) out in
        (((keep_step 0 c image_room step_room).number ≡ 18) × (r ≡ answer 0 (settled s.tree))) ⊎ (((keep_step 0 c image_room step_room).number ≡ 0) × (r ≡ hold b image_room))
    go (inl h) = inl (
      ask false (heals-free ops s.tree u h),
      gives (Heals ops s.tree) (settled s.tree) (healing ops s.tree (old-tidy T₁.old) m) h,
    )
    go (inr h) = inr (
      ask true (ap is_held (ap journal h.log ∙ held-journal s ops T₁ f.1)),
      gives (OnHold s ops T₁ f.1) (on_hold s ops T₁ f.1) (staying (on_hold s ops T₁ f.1).tree lg ops (held-journal s ops T₁ f.1)) h
          ∙ sym (unfold H in (hold-is b s ops C t c)),
    )

pub hold_rule : HoldRule
hold_rule b s ws n ms out C m =
    kinds_hold b s (map write ws) n ms out (suits C) (all_true s.tree ws (truly-true s.tree ws m)) (truly-marked s.tree ws m) C.committed

-- A held commit that fails is an ordinary one.
pub hold-fails : HoldFails
hold-fails b c = (
  λ out. unfold hold commit ending_store in (rw (d, k.found) (ap (λ (u : Store). if◌then◌else◌ (leb image_room out) (answer (commit_number (commit_fault s)) u) (refusal 2)) end)),
  λ n out stepOut. unfold hold_step commit_step in (rw (d, k.found)
      λ i. if◌then◌else◌ (leb image_room out && leb step_room stepOut) (step_answer n (plan i) (failing-at hold_end commit_end s f.0 f.1 n i)) (refusal 2)),
)
  where
    not_1 : (x : ℕ) → (x ≡ 14) ⊎ (x ≡ 15) → x ≡ 1 → ⊥
    not_1 x (inl p) q = omega arith
    not_1 x (inr p) q = omega arith

    s : Store
    s = (decoded b (not_1 _ c)).0

    d : decode b ≡ some s
    d = (decoded b (not_1 _ c)).1

    k : Found s
    k = found_in b s d (not_4 _ c)

    f : (e : Fault) × (commit_fault s ≡ some e)
    f = fault-of (commit_fault s) (subst (λ (a : Answer). (a.number ≡ 14) ⊎ (a.number ≡ 15)) (commit-gives b s d k) c)

    plan : hold_plan s ≡ commit_plan s
    plan = failing-plan hold_end commit_end s f.0 f.1

    end : held_at (length (hold_plan s)) s ≡ committed_at (length (commit_plan s)) s
    end = ap (λ (l : List Step). held_at (length l) s) plan ∙ failing-at hold_end commit_end s f.0 f.1 (length (commit_plan s))

pub hold-failing : HoldFailing
hold-failing b s ws n ms out C m = (
  ap (λ (a : Answer). a.image) (h.0 image_room) ∙ failing-commit b s ws C m,
  subst (λ (a : Answer). a.number ≡ 0 → InPlans ms a.image → ((recover (cut_recoveries ms a.image) out).number ≡ 2 → ⊥) →
      recover (cut_recoveries ms a.image) out ≡ answer 0 (settled s.tree)) (sym (h.1 n image_room step_room))
      λ e i l. let r = again_rule b s ws n ms out (either not_4 C) m e i in r ∙ failing_rule b s ws n out C m e (subst (λ (a : Answer). a.number ≡ 2 → ⊥) r l),
)
  where
    h : ((out : ℕ) → hold b out ≡ commit b out) × ((n out stepOut : ℕ) → hold_step n b out stepOut ≡ commit_step n b out stepOut)
    h = hold-fails b C.committed

-- Keep cut.
pub keep_rule : KeepRule
keep_rule b n c e = go (keep-cut s g k.1 n)
  where
    s : Store
    s = (decoded b (λ z. omega arith)).0

    d : decode b ≡ some s
    d = (decoded b (λ z. omega arith)).1

    k : Found s × (commit_fault s ≡ none)
    k = committed b s d c

    g : Good Valid s
    g = lent-good b s d

    u : Store
    u = held_from s g k.1

    p : Map
    p = kept_tree s g k.1

    x : held_image b ≡ encode u
    x = ap (λ (a : Answer). a.image) (hold-done b s d k) ∙ ap encode (hold-leaves s k.1)

    is : is_held (journal u.log) ≡ true
    is =
        ap (λ (v : Store). is_held (journal v.log)) (sym (hold-leaves s k.1))
        ∙ ap is_held (held-log s k.0.ops k.1 (found-whole s k.0.ops k.0.found))

    cut : (keep_step n (held_image b) image_room step_room).image ≡ encode (kept_at n u)
    cut =
        at-step (keep_step n (held_image b) image_room step_room) n (keep_plan (without_mark u)) (kept_at n u)
        (ap (λ (c : Bytes). keep_step n c image_room step_room) x
        ∙ unfold keep_step in (rw (decode-encode u (well-formed u (held-good s g k.1)), is))) e

    go : (kept_at n u ≡ u) ⊎ Ended p (kept_at n u) →
        let c : Bytes = (keep_step n (held_image b) image_room step_room).image in
        (c ≡ held_image b) ⊎ ((ms : List ℕ) (out : ℕ) → InPlans ms c → recover (cut_recoveries ms c) out ≡ commit b out)
    go (inl q) = inl (cut ∙ ap encode q ∙ sym x)
    go (inr h) = inr λ ms out i.
        ap (λ (c : Bytes). recover (cut_recoveries ms c) out) cut
        ∙ again (Heals [] p) (settled p) (healing [] p (kept-tidy s g k.1) (λ w i e. absurd i)) out ms (kept_at n u) (keep-keeps u (held-good s g k.1) n)
        (ended h) (subst (InPlans ms) cut i)
        ∙ sym (commit-done b s out d k ∙ ap (λ (y : Store). if◌then◌else◌ (leb image_room out) (answer 0 y) (refusal 2)) (keep_settles s g k.1))

-- Reverts and recoveries, cut, one after the other.
record Left (ops : List Op) (p : Map) (c : Bytes) : Type 0 where
  store : Store
  image : c ≡ encode store
  good : Good Valid store
  state : Reverts ops p store

not-held : (u : Store) (m : ℕ) → Good Valid u → is_held (journal u.log) ≡ false →
    ((revert_step m (encode u) image_room step_room).number ≡ 18) × ((revert (encode u) image_room).number ≡ 18)
unfolding revert_step revert revert_store
not-held u m g h = let w = decode-encode u (well-formed u g) in (rw (w, h), rw (w, h))

module _ (ops : List Op) (p : Map) (t : Tidy p) (m : Marked ops) where
  refused : {A : Type 0} (u : Store) (n : ℕ) → Good Valid u → is_held (journal u.log) ≡ false → (revert_step n (encode u) image_room step_room).number ≡ 0 → A
  refused u n g h e = let z : ◌≡◌ {A = ℕ} 18 0 = sym (not-held u n g h).0 ∙ e in absurd (omega arith)

  -- One of either keeps it.
  one : (a : Act) (u : Store) → Good Valid u → Reverts ops p u → (act a (encode u)).number ≡ 0 → Left ops p (act a (encode u)).image
  one (Demand.reverted n) u g (undoing o k e i z) a = record {
    store = reverted_at n u;
    image =
        at-step (revert_step n (encode u) image_room step_room) n (revert_plan (without_mark u)) (reverted_at n u)
        (unfold revert_step in (rw (decode-encode u (well-formed u g), ap is_held e, reverts-calm ops p u (undoing o k e i z)))) a;
    good = revert-keeps-named u g (none-twice _ p u i) n;
    state = reverts-cut ops p t m u n (undoing o k e i z);
  }
  one (Demand.reverted n) u g (recorded e q) a = refused u n g (ap is_held e) a
  one (Demand.reverted n) u g (ended h) a = refused u n g (ap (λ (l : Option Bytes). is_held (journal l)) h.same) a
  one (Demand.recovered n) u g h a = record {
    store = recovered_at n u;
    image = step-image u n g (heals-calm (held ops whole) ops p u (inr refl) h) a;
    good = recovered-good (held ops whole) ops p u g h n;
    state = heals-cut (held ops whole) ops p t m (inr refl) u n h;
  }

  acted : (acts : List Act) (c : Bytes) → Left ops p c → InActs acts c → Left ops p (cut_acts acts c)
  acted [] c l i = l
  acted (a ∷ acts) c l i =
      acted acts (act a c).image
      (subst (λ (c : Bytes). Left ops p (act a c).image) (sym l.image)
      (one a l.store l.good l.state (subst (λ (c : Bytes). (act a c).number ≡ 0) l.image i.0))) i.1

  -- What is left then.
  finish : (c : Bytes) → Left ops p c →
      (revert c image_room ≡ answer 0 (settled p))
      ⊎ (((revert c image_room).number ≡ 18) × ((ms : List ℕ) → InPlans ms c → recover (cut_recoveries ms c) image_room ≡ answer 0 (settled p)))
  finish c l = go l.store l.image l.good l.state
    where
      Result : Type 0
      Result =
          (revert c image_room ≡ answer 0 (settled p))
          ⊎ (((revert c image_room).number ≡ 18) × ((ms : List ℕ) → InPlans ms c → recover (cut_recoveries ms c) image_room ≡ answer 0 (settled p)))

      free : (u : Store) → c ≡ encode u → Good Valid u → is_held (journal u.log) ≡ false → Heals ops p u → Result
      free u x g h r = inr (
        ap (λ (c : Bytes). (revert c image_room).number) x ∙ (not-held u 0 g h).1,
        λ ms i. ap (λ (c : Bytes). recover (cut_recoveries ms c) image_room) x
            ∙ again (Heals ops p) (settled p) (healing ops p t m) image_room ms u g r (subst (InPlans ms) x i),
      )

      go : (u : Store) → c ≡ encode u → Good Valid u → Reverts ops p u → Result
      go u x g (undoing o k e i z) = inl (ap (λ (c : Bytes). revert c image_room) x ∙ revert-answers ops p u image_room t g e (undoing o k e i z))
      go u x g (recorded e q) = free u x g (ap is_held e) (recorded e q)
      go u x g (ended h) = free u x g (ap (λ (l : Option Bytes). is_held (journal l)) h.same) (ended h)

pub kinds_acts : KindsActs
kinds_acts b s ops acts C t m c i =
    let o = old-tidy (T b s ops C t c).old in
    finish ops s.tree o m (cut_acts acts (held_image b)) (acted ops s.tree o m acts (held_image b) record {
      store = H b s ops C t c;
      image = ap (λ (a : Answer). a.image) (hold-is b s ops C t c);
      good = H-good b s ops C t c;
      state = H-reverts b s ops C t c;
    } i)

pub revert_rule : RevertRule
revert_rule b s ws acts C m =
    kinds_acts b s (map write ws) acts (suits C) (all_true s.tree ws (truly-true s.tree ws m)) (truly-marked s.tree ws m) C.committed
