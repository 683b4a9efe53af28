-- Recovery cut, any number of times: item 5 of document 02, for operations of every kind.
use Rattle.std.specs.Prelude.{◌≡◌, refl, ℕ, List, [], ◌∷◌, map, Bool, leb, if◌then◌else◌}
use Rattle.std.proofs.Common.{sym, ◌∙◌, ap, subst, arith, inl, inr}
use Rattle.std.proofs.Math.Option.{Option, none, some}
use Rattle.basics.specs.Limits.{image_room, step_room}
use Rattle.basics.specs.Map.{Map}
use Rattle.basics.specs.Base.{Bytes, is_some}
use Rattle.model.specs.Operation.{Op, Write, write}
use Rattle.model.specs.Log.{Journal, committing, whole, journal}
use Rattle.model.specs.Store.{Store}
use Rattle.model.specs.Image.{encode}
use Rattle.model.specs.Step.{Fault}
use Rattle.model.specs.Plan.{commit_fault, committed_at, recover_fault, recover_plan, recovered_at, recovered, without_mark}
use Rattle.answers.specs.Answers.{answer, refusal, recover, recover_step}
use Rattle.basic_laws.specs.MapLaws.{none≢some}
use Rattle.laws.specs.ImageLaws.{decode-encode}
use Rattle.laws.specs.StoreLaws.{Good, well-formed, bare}
use Rattle.basic_laws.specs.ValidNames.{Valid, DotBakBak}
use Rattle.laws.specs.WellFormed.{NoneNamed, recover-keeps-valid, recover-keeps-named}
use Rattle.cut_rule.specs.Demand.{Meets, Either, settled, cut_at, cut_recoveries, InPlans, AgainRule}
use Rattle.cut_rule.specs.Kinds.{Marked, KindsAgain}
use Rattle.cut_rule.proofs.StoreRule.{Transacts, marked-safe}
use Rattle.cut_rule.proofs.Directories.{Inv}
use Rattle.cut_rule.proofs.Clean.{Tidy, old-tidy}
use Rattle.cut_rule.proofs.Heal.{HealsFrom, Heals, recorded, undoing, ended, heals, heals-calm, heals-cut}
use Rattle.cut_rule.proofs.Commit.{tree_after, after-tidy, cut-heals, failed-cut-heals}
use Rattle.cut_rule.proofs.OverImages.{twice, Found, found_in, at-step, answered, transacts, cut-good, cut-image}
use Rattle.cut_rule.proofs.Writes.{suits, all_true, truly-true, truly-marked}

-- No backup of a backup stands where what was done can be undone, so a cut of recovery leaves a well-formed store.
pub none-twice : (ops : List Op) (p : Map) (u : Store) → Inv p ops u.tree → NoneNamed DotBakBak u.tree
none-twice ops p u i d f h = (
  λ z. let t = twice d z in none≢some (sym (i.dirs_once d t.0 t.1 t.2 t.3 f) ∙ h.1),
  λ z. let t = twice f z in none≢some (sym (i.files_once d f t.0 t.1 t.2 t.3) ∙ h.1),
)

-- What makes recovery give x wherever it is cut: I holds at every step of it, and at the end it gives x.
pub record Recovers (I : Store → Type 0) (x : Store) : Type 0 where
  pub calm : (u : Store) → I u → recover_fault (journal u.log) u.tree ≡ none
  pub good : (u : Store) → Good Valid u → I u → (n : ℕ) → Good Valid (recovered_at n u)
  pub stays : (u : Store) (n : ℕ) → I u → I (recovered_at n u)
  pub gives : (u : Store) → Good Valid u → I u → recovered u ≡ x

-- Recovery's step entry.
pub step-image : (u : Store) (n : ℕ) → Good Valid u → recover_fault (journal u.log) u.tree ≡ none →
    (recover_step n (encode u) image_room step_room).number ≡ 0 → (recover_step n (encode u) image_room step_room).image ≡ encode (recovered_at n u)
step-image u n g c e =
    at-step (recover_step n (encode u) image_room step_room) n (recover_plan (without_mark u)) (recovered_at n u)
    (unfold recover_step in (rw (decode-encode u (well-formed u g), c))) e

pub again : (I : Store → Type 0) (x : Store) → Recovers I x → (out : ℕ) (ms : List ℕ) (u : Store) → Good Valid u → I u → InPlans ms (encode u) →
    recover (cut_recoveries ms (encode u)) out ≡ if◌then◌else◌ (leb image_room out) (answer 0 x) (refusal 2)
again I x r out [] u g h i = answered u x out g (r.calm u h) (r.gives u g h)
again I x r out (n ∷ ns) u g h i =
    let e : (recover_step n (encode u) image_room step_room).image ≡ encode (recovered_at n u) = step-image u n g (r.calm u h) i.0 in
    ap (λ (c : Bytes). recover (cut_recoveries ns c) out) e
    ∙ again I x r out ns (recovered_at n u) (r.good u g h n) (r.stays u n h) (subst (InPlans ns) e i.1)

-- Of what a commit or a held one did.
pub recovered-good : (j : Journal) (ops : List Op) (p : Map) (u : Store) → Good Valid u → HealsFrom j ops p u → (n : ℕ) → Good Valid (recovered_at n u)
recovered-good j ops p u g (recorded e q) = recover-keeps-valid u g (λ l z. let y : ◌≡◌ {A = ℕ} 0 1 = cc in omega arith)
recovered-good j ops p u g (undoing o k e i z) = recover-keeps-named u g (none-twice _ p u i)
recovered-good j ops p u g (ended h) = recover-keeps-valid u g (λ l z. let y : ◌≡◌ {A = ℕ} 0 1 = cc (ap journal h.same) in omega arith)

pub healing : (ops : List Op) (p : Map) → Tidy p → Marked ops → Recovers (Heals ops p) (settled p)
healing ops p t m = record {
  calm = λ u h. heals-calm (committing ops whole) ops p u (inl refl) h;
  good = λ u g h. recovered-good (committing ops whole) ops p u g h;
  stays = λ u n h. heals-cut (committing ops whole) ops p t m (inl refl) u n h;
  gives = λ u g h. heals ops p u t (bare u (well-formed u g)) h;
}

pub kinds_again : KindsAgain
kinds_again b s ops n ms out C t m c e i =
    subst (λ (x : Bytes). recover (cut_recoveries ms x) out ≡ recover x out) (sym image) (go (commit_fault s) refl)
  where
    k : Found s
    k = found_in b s C.holds c

    T : Transacts s ops
    T = transacts b s ops C t k

    image : cut_at n b ≡ encode (committed_at n s)
    image = cut-image b s ops C t k n e

    from : (p : Map) → Tidy p → Heals ops p (committed_at n s) →
        recover (cut_recoveries ms (encode (committed_at n s))) out ≡ recover (encode (committed_at n s)) out
    from p y h =
        let r = healing ops p y m in
        let g = cut-good b s ops C t k n in
        again (Heals ops p) (settled p) r out ms (committed_at n s) g h (subst (InPlans ms) image i)
        ∙ sym (again (Heals ops p) (settled p) r out [] (committed_at n s) g h tt)

    go : (q : Option Fault) → commit_fault s ≡ q → recover (cut_recoveries ms (encode (committed_at n s))) out ≡ recover (encode (committed_at n s)) out
    go none f =
        let log : Bool = is_some (committed_at n s).log in
        from (tree_after s ops T log) (after-tidy s ops T f log) (cut-heals s ops T f n (inr (λ z. marked-safe s.tree ops _ T.good m)))
    go (some x) f = from s.tree (old-tidy T.old) (failed-cut-heals s ops T m x f n)

-- Item 5.
pub again_rule : AgainRule
again_rule b s ws n ms out C k e i =
    kinds_again b s (map write ws) n ms out (suits C) (all_true s.tree ws (truly-true s.tree ws k)) (truly-marked s.tree ws k) C.committed e i

-- A commit that goes through, or that fails, is either.
pub either : {N : ℕ → Type 0} {b : Bytes} {s : Store} {ws : List Write} → ((x : ℕ) → N x → x ≡ 4 → ⊥) → Meets N b s ws → Either b s ws
either h C = record {
  committed = h _ C.committed;
  holds = C.holds;
  writes_alone = C.writes_alone;
  names = C.names;
  keys = C.keys;
  distinct_keys = C.distinct_keys;
  collections = C.collections;
}

pub done-not_4 : (x : ℕ) → x ≡ 0 → x ≡ 4 → ⊥
done-not_4 x p q = omega arith
