-- The cut rule for Writes, whole, as Demand.antt states it; demand 3 and item 4 of document 02; a commit that fails.
use Rattle.std.specs.Prelude.{◌≡◌, refl, ℕ, Bool, true, false, ◌⊎◌, if◌then◌else◌}
use Rattle.std.proofs.Common.{sym, ◌∙◌, ap, subst, inl, inr}
use mathlib.Core.List.{List, [], ◌∷◌, map}
use Rattle.std.proofs.Math.Option.{Option, none, some}
use Rattle.basics.specs.Limits.{image_room}
use Rattle.basics.specs.Order.{Name, Key}
use Rattle.basics.specs.Map.{Map, Has, look, put}
use Rattle.basics.specs.Base.{Bytes, In, is_some, case_option}
use Rattle.basics.specs.Field.{has_tag}
use Rattle.model.specs.Operation.{Op, Write, write, target}
use Rattle.model.specs.Image.{encode}
use Rattle.model.specs.Step.{commit_number}
use Rattle.model.specs.Plan.{commit_fault, committed_at}
use Rattle.answers.specs.Answers.{answer, commit}
use Rattle.model.specs.Store.{Store, staging_key}
use Rattle.basic_laws.specs.MapLaws.{none≢some, key_dec, look-put-other}
use Rattle.cut_rule.specs.Demand.{NoExtension, Conditions, all_writes_done, NoBackupLeft, Renamed, NoneWaits, cut_at, expected_files, settled, CutRule, CommitDone, Demand3, MarkedRule, FailingCommit, FailingRule}
use Rattle.cut_rule.specs.Kinds.{Suits, AllTrue}
use Rattle.cut_rule.proofs.StoreRule.{Transacts}
use Rattle.cut_rule.proofs.Commit.{SafeAt, tree_after, after-tidy, cut-heals, committed-end}
use Rattle.cut_rule.proofs.OverImages.{Found, commit-gives, committed, transacts, log-there, recovers}
use Rattle.cut_rule.proofs.KindsRule.{kinds_failing}
use Rattle.cut_rule.proofs.Writes.{suits, all_true, truly-true, truly-marked, all_done}
use Rattle.cut_rule.proofs.Waits.{none-waits}

pub cut_rule : CutRule
cut_rule b s ws n out C m e z l =
    recovers b s ops S t k.0 n e (tree_after s ops T log) out (after-tidy s ops T k.1 log) (cut-heals s ops T k.1 n (safe z)) l
    ∙ ap (λ (p : Map). answer 0 (settled p)) (by-log log ∙ ap (λ (x : Bool). expected_files x s ws) (log-there b s ops S t k.0 n e))
  where
    ops : List Op
    ops = map write ws

    S : Suits b s ops
    S = suits C

    t : AllTrue s.tree ops
    t = all_true s.tree ws m

    k : Found s × (commit_fault s ≡ none)
    k = committed b s C.holds C.committed

    T : Transacts s ops
    T = transacts b s ops S t k.0

    log : Bool
    log = is_some (committed_at n s).log

    safe : (n ≡ 0) ⊎ NoneWaits n b s ws → SafeAt n s ops
    safe (inl p) = inl p
    safe (inr h) = none-waits b s ws n C T h

    by-log : (x : Bool) → tree_after s ops T x ≡ expected_files x s ws
    by-log true = refl
    by-log false = all_done s ws T k.1

pub commit-done : CommitDone
commit-done b s ws C m =
    let k = committed b s C.holds C.committed in
    let T = transacts b s (map write ws) (suits C) (all_true s.tree ws m) k.0 in
    commit-gives b s C.holds k.0
    ∙ λ i. answer (commit_number (k.1 i)) ((committed-end s (map write ws) T k.1 ∙ ap settled (all_done s ws T k.1)) i)

-- The names from before, and the keys that the Writes put beside them.
abbrev Plain : Map → Type 0
Plain t = (d f : Name) → Has (d, f) t → NoExtension d × NoExtension f

module _ (b : Bytes) (s : Store) (ws : List Write) (C : Conditions b s ws) where
  put-plain : (w : Write) → In w ws → (x : ℕ) (t : Map) → Plain t → Plain (put (target w) x t)
  put-plain w i x t p d f h = at (key_dec (d, f) (target w))
    where
      at : Dec (◌≡◌ {A = Key} (d, f) (target w)) → NoExtension d × NoExtension f
      at (yes e) = (
        subst NoExtension (sym (ap (λ (k : Key). k.0) e)) (C.names w.collection [] (C.collections w i)).0,
        subst NoExtension (sym (ap (λ (k : Key). k.1) e)) (C.keys w i),
      )
      at (no n) = p d f (h.0, sym (look-put-other (target w) (d, f) x t n) ∙ h.1)

  written-plain : (l : List Write) → ((w : Write) → In w l → In w ws) → (t : Map) → Plain t → Plain (all_writes_done s.staging l t)
  unfolding all_writes_done
  written-plain [] i t p = p
  written-plain (w ∷ l) i t p = written-plain l (λ v j. i v (inr j)) _ (one (look (staging_key w.staged) s.staging))
    where
      one : (o : Option ℕ) → Plain (case_option o t (λ x. put (target w) x t))
      one none = p
      one (some x) = put-plain w (i w (inl refl)) x t p

pub no-backup-left : NoBackupLeft
no-backup-left b s ws true C = C.names
no-backup-left b s ws false C = written-plain b s ws C ws (λ w i. i) s.tree C.names

-- Demand 3: kind 1 alone has no mark that could be false.
pub demand_3 : Demand3
demand_3 b s ws n out C k e z l = cut_rule b s ws n out C (λ w i x p. none≢some (sym (k w i) ∙ p)) e (waits z) l
  where
    waits : (n ≡ 0) ⊎ ((w : Write) → In w ws → Has (target w) s.tree → Renamed n b w) → (n ≡ 0) ⊎ NoneWaits n b s ws
    waits (inl p) = inl p
    waits (inr h) = inr (λ w i m x. h w i x)

-- Item 4: marked Writes alone, at every step. No key of kind 1 waits.
pub marked_rule : MarkedRule
marked_rule b s ws n out C k e l = cut_rule b s ws n out C (truly-true s.tree ws k) e (inr (λ w i m x. none≢some (sym m ∙ k w i))) l

pub failing-commit : FailingCommit
failing-commit b s ws C k =
    (kinds_failing b s (map write ws) (suits C) (all_true s.tree ws (truly-true s.tree ws k)) (truly-marked s.tree ws k) C.committed).0

pub failing_rule : FailingRule
failing_rule b s ws n out C k e l =
    let f = kinds_failing b s (map write ws) (suits C) (all_true s.tree ws (truly-true s.tree ws k)) (truly-marked s.tree ws k) C.committed in
    f.1 n out e l ∙ ap (λ (x : Bytes). record { number = 0; image = x; step = [] }) (both f.0 (has_tag 0x13 (cut_at n b)))
  where
    both : (commit b image_room).image ≡ encode (settled s.tree) → (t : Bool) →
        if◌then◌else◌ t (encode (settled s.tree)) (commit b image_room).image ≡ encode (settled s.tree)
    both f true = refl
    both f false = f
