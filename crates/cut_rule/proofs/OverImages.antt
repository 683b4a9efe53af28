-- From stores to images: what the entries answer, and the conditions over images.
use Rattle.std.specs.Prelude.{◌≡◌, refl, ℕ, List, [], ◌∷◌, Bool, true, false, length, leb, if◌then◌else◌}
use Rattle.std.proofs.Common.{sym, ◌∙◌, ap, subst, arith, inl, inr}
use Rattle.std.proofs.Math.Option.{Option, none, some}
use Rattle.basics.specs.Limits.{image_room, step_room}
use Rattle.basics.specs.Order.{Name}
use Rattle.basics.specs.Map.{Map, Has}
use Rattle.basics.specs.Base.{Bytes, case_option, is_some, In}
use Rattle.basics.specs.Name.{last_dot, extension, backup_extension, staging_extension, strip_extension, original_name, strip_tmp}
use Rattle.basics.specs.Field.{has_tag}
use Rattle.model.specs.Operation.{Op, Write, write, delete, delete_all, create_collection, delete_collection, copy_collection}
use Rattle.model.specs.Log.{recording, committing, whole, journal, ops_of}
use Rattle.model.specs.Store.{Store}
use Rattle.model.specs.Image.{encode, decode}
use Rattle.model.specs.Plan.{commit_fault, commit_plan, committed_at, recover_fault, recovered}
use Rattle.model.specs.Record.{transaction}
use Rattle.model.specs.Step.{Step, field_at, commit_number}
use Rattle.answers.specs.Answers.{Answer, answer, refusal, step_answer, ending_store, commit, commit_step, recover_store, recover}
use Rattle.basic_laws.specs.MapLaws.{none≢some}
use Rattle.basic_laws.specs.Tests.{All, all_in, nil≢cons}
use Rattle.basic_laws.specs.NameLaws.{strip_some, original-backup}
use Rattle.laws.specs.ImageLaws.{decode-encode, decode-only, log-stood}
use Rattle.laws.specs.StoreLaws.{Good, good, well-formed, bare}
use Rattle.laws.specs.OperationLaws.{ValidOp, Makes, journal-valid}
use Rattle.laws.specs.LogLaws.{found-whole}
use Rattle.answer_laws.specs.EntryLaws.{no-fault}
use Rattle.basic_laws.specs.ValidNames.{Valid, valid-named, dot_bak, dots_bak, DotBakBak}
use Rattle.laws.specs.WellFormed.{NoneMade, commit-keeps-named}
use Rattle.cut_rule.specs.Demand.{EndsIn, NoExtension, settled, cut_at}
use Rattle.cut_rule.specs.Kinds.{place_of, PlainPlace, Suits, TrueOf, AllTrue}
use Rattle.cut_rule.proofs.StoreRule.{Plain, OpGood, Transacts}
use Rattle.cut_rule.proofs.Clean.{Tidy}
use Rattle.cut_rule.proofs.Heal.{Heals, heals, heals-calm}

-- A name that ends in neither has neither extension.
no-ext : (e n : Name) → (EndsIn e n → ⊥) → strip_extension e n ≡ none
no-ext e n h = go (strip_extension e n) refl
  where
    go : (q : Option Name) → strip_extension e n ≡ q → strip_extension e n ≡ none
    go none p = p
    go (some g) p = absurd (h record { front = g; joined = strip_some e n g p })

plain : (n : Name) → NoExtension n → Plain n
unfolding original_name strip_tmp
plain n h = record { no_bak = no-ext backup_extension n h.no_bak; no_tmp = no-ext staging_extension n h.no_tmp }

-- "..bak.bak" and "...bak.bak" are backups of backups; a plain name is neither.
pub twice : (n : Name) → DotBakBak n → (g h : Name) × (original_name n ≡ some g) × (original_name g ≡ some h)
unfolding original_name strip_extension extension last_dot backup_extension
twice n (inl e) = (dot_bak, 0x2E ∷ [], ap original_name e ∙ original-backup dot_bak (λ z. nil≢cons (sym z)), refl)
twice n (inr e) = (dots_bak, 0x2E ∷ 0x2E ∷ [], ap original_name e ∙ original-backup dots_bak (λ z. nil≢cons (sym z)), refl)

plain-once : (n : Name) → NoExtension n → DotBakBak n → ⊥
plain-once n h z = none≢some (sym (plain n h).no_bak ∙ (twice n z).2)

-- What commit's answer says of the store, where it is not 4.
pub record Found (s : Store) : Type 0 where
  pub ops : List Op
  pub found : transaction s ≡ some ops

pub found_in : (b : Bytes) (s : Store) → decode b ≡ some s → ((commit b image_room).number ≡ 4 → ⊥) → Found s
unfolding commit ending_store
found_in b s d h = go (transaction s) refl (rw d at h)
  where
    go : (q : Option (List Op)) → transaction s ≡ q →
        ((case_option q (refusal 4) (λ o. answer (commit_number (commit_fault s)) (committed_at (length (commit_plan s)) s))).number ≡ 4 → ⊥) → Found s
    go none p h = absurd (h refl)
    go (some o) p h = record { ops = o; found = p }

-- What commit gives then.
pub commit-gives : (b : Bytes) (s : Store) → decode b ≡ some s → Found s →
    commit b image_room ≡ answer (commit_number (commit_fault s)) (committed_at (length (commit_plan s)) s)
unfolding commit ending_store
commit-gives b s d c = rw (d, c.found)

pub committed : (b : Bytes) (s : Store) → decode b ≡ some s → (commit b image_room).number ≡ 0 → Found s × (commit_fault s ≡ none)
committed b s d e =
    let c = found_in b s d (λ z. omega arith) in
    (c, no-fault (commit_fault s) (ap (λ (a : Answer). a.number) (sym (commit-gives b s d c)) ∙ e))

-- What commit's step entry hands back.
pub stepped : (b : Bytes) (s : Store) (n : ℕ) → decode b ≡ some s → Found s → commit_step n b image_room step_room ≡ step_answer n (commit_plan s) (committed_at n s)
unfolding commit_step
stepped b s n d c = rw (d, c.found)

-- A step entry's image, where the step number is within the plan.
pub at-step : (a : Answer) (n : ℕ) (plan : List Step) (u : Store) → a ≡ step_answer n plan u → a.number ≡ 0 → a.image ≡ encode u
at-step a n plan u e z = go (leb n (length plan)) e
  where
    go : (t : Bool) → a ≡ if◌then◌else◌ t (record { number = 0; image = encode u; step = field_at n plan }) (refusal 16) → a.image ≡ encode u
    go true e = ap (λ (x : Answer). x.image) e
    go false e = let y = ap (λ (x : Answer). x.number) e in absurd (omega arith)

pub not-refused : (t : Bool) (a c : Answer) → a ≡ if◌then◌else◌ t c (refusal 2) → (a.number ≡ 2 → ⊥) → a ≡ c
not-refused true a c e h = e
not-refused false a c e h = absurd (h (ap (λ (x : Answer). x.number) e))

-- A file stands in a directory.
pub inside : (u : Store) → Good Valid u → (d f : Name) → Has (d, f) u.tree → Has (d, []) u.tree
inside u g d [] h = h
inside u g d (y ∷ ys) h = (g.tree.node d (y ∷ ys) h.0 h.1).inside (λ e. nil≢cons (sym e))

-- What recovery answers where it refuses nothing.
pub answered : (u x : Store) (out : ℕ) → Good Valid u → recover_fault (journal u.log) u.tree ≡ none → recovered u ≡ x →
    recover (encode u) out ≡ if◌then◌else◌ (leb image_room out) (answer 0 x) (refusal 2)
unfolding recover recover_store
answered u x out g c e = rw (decode-encode u (well-formed u g), c, e)

-- An operation of a log that meets the conditions.
op-good : (t : Map) (a : Op) → ValidOp a → PlainPlace (place_of a) → ((w : Write) → a ≡ write w → Has (w.collection, []) t) → TrueOf t a → OpGood t a
op-good t (write w) v p c h = record {
  key = record { dir = (plain w.collection p.0).no_bak; file = (plain w.key p.1).no_bak; named = valid-named w.key v.1 };
  stands = c w refl;
  mark = h;
}
op-good t (delete c k) v p h e = record { dir = (plain c p.0).no_bak; file = (plain k p.1).no_bak; named = valid-named k v.1 }
op-good t (delete_all c) v p h e = record { dir = (plain c p).no_bak; named = valid-named c v }
op-good t (create_collection c) v p h e = (record { dir = (plain c p).no_bak; named = valid-named c v }, e)
op-good t (delete_collection c) v p h e = record { dir = (plain c p).no_bak; named = valid-named c v }
op-good t (copy_collection a b x) v p h e = (record { dir = (plain b p).no_bak; named = valid-named b v.1 }, e)

made-once : (a : Op) → PlainPlace (place_of a) → Makes (λ n. DotBakBak n → ⊥) a
made-once (write w) p = (plain-once w.collection p.0, (plain-once w.key p.1, tt))
made-once (delete c j) p = tt
made-once (delete_all c) p = tt
made-once (create_collection c) p = (plain-once c p, tt)
made-once (delete_collection c) p = tt
made-once (copy_collection a c x) p = (plain-once c p, tt)

module _ (b : Bytes) (s : Store) (ops : List Op) (C : Suits b s ops) (t : AllTrue s.tree ops) (k : Found s) where
  start : Good Valid s
  start = good s (decode-only b s C.holds).1

  pub transacts : Transacts s ops
  transacts = record {
    logged = let j = found-whole s k.ops k.found in j ∙ ap (λ (q : List Op). recording q whole) (sym (ap ops_of j) ∙ C.logged);
    bare = bare s (decode-only b s C.holds).1;
    old = record { sorted = start.tree.sorted; plain = λ d f h. let p = C.names d f h in (plain d p.0, plain f p.1); within = inside s start };
    good = λ a i. op-good s.tree a (all_in ValidOp ops valid a i) (C.places a i) (λ w e. C.collections w (subst (λ (c : Op). In c ops) e i)) (t a i);
    apart = C.apart;
  }
    where
      valid : All ValidOp ops
      valid = subst (All ValidOp) C.logged (journal-valid s.log)

  -- No "..bak.bak" is made, so every cut is well-formed.
  pub cut-good : (n : ℕ) → Good Valid (committed_at n s)
  cut-good =
      commit-keeps-named s start (λ d f h. let p = C.names d f h in (plain-once d p.0, plain-once f p.1))
      (subst (NoneMade DotBakBak) (sym C.logged) (made ops C.places))
    where
      made : (l : List Op) → ((a : Op) → In a l → PlainPlace (place_of a)) → NoneMade DotBakBak l
      made [] h = tt
      made (a ∷ l) h = (made-once a (h a (inl refl)), made l (λ c j. h c (inr j)))

  module _ (n : ℕ) (e : (commit_step n b image_room step_room).number ≡ 0) where
    pub cut-image : cut_at n b ≡ encode (committed_at n s)
    cut-image = at-step (commit_step n b image_room step_room) n (commit_plan s) (committed_at n s) (stepped b s n C.holds k) e

    pub log-there : is_some (committed_at n s).log ≡ has_tag 0x13 (cut_at n b)
    log-there = sym (ap (has_tag 0x13) cut-image ∙ log-stood (committed_at n s) (well-formed (committed_at n s) (cut-good n)))

    -- Recovery from a cut of the commit that is healed to p.
    pub recovers : (p : Map) (out : ℕ) → Tidy p → Heals ops p (committed_at n s) → ((recover (cut_at n b) out).number ≡ 2 → ⊥) →
        recover (cut_at n b) out ≡ answer 0 (settled p)
    recovers p out t h l =
        not-refused (leb image_room out) (recover (cut_at n b) out) (answer 0 (settled p))
        (ap (λ (c : Bytes). recover c out) cut-image
        ∙ answered (committed_at n s) (settled p) out (cut-good n) (heals-calm (committing ops whole) ops p (committed_at n s) (inl refl) h)
        (heals ops p (committed_at n s) t (bare (committed_at n s) (well-formed (committed_at n s) (cut-good n))) h)) l
