-- The cut rule for operations of every kind, as Kinds.antt states it.
use Rattle.std.specs.Prelude.{◌≡◌, refl, ℕ, [], Bool, true, false, ◌⊎◌, if◌then◌else◌}
use Rattle.std.proofs.Common.{sym, ◌∙◌, ap, subst, arith, inl, inr}
use Rattle.std.proofs.Math.Option.{Option, none, some}
use Rattle.basics.specs.Limits.{image_room}
use Rattle.basics.specs.Base.{Bytes, is_some}
use Rattle.basics.specs.Field.{has_tag}
use Rattle.model.specs.Image.{encode}
use Rattle.model.specs.Step.{Fault, commit_number}
use Rattle.model.specs.Plan.{commit_fault, committed_at}
use Rattle.answers.specs.Answers.{Answer, commit}
use Rattle.cut_rule.specs.Demand.{settled, cut_at}
use Rattle.cut_rule.specs.Kinds.{KindsRule, KindsFailing}
use Rattle.cut_rule.proofs.StoreRule.{Transacts, marked-safe}
use Rattle.cut_rule.proofs.Clean.{old-tidy}
use Rattle.cut_rule.proofs.Commit.{tree_after, after-tidy, committed-end, failed-end, cut-heals, failed-cut-heals}
use Rattle.cut_rule.proofs.OverImages.{Found, found_in, commit-gives, committed, transacts, log-there, recovers}

abbrev with_image : Bytes → Answer
with_image i = record { number = 0; image = i; step = [] }

pub kinds_rule : KindsRule
kinds_rule b s ops n out C t m c e l =
    recovers b s ops C t k.0 n e (tree_after s ops T log) out (after-tidy s ops T k.1 log)
    (cut-heals s ops T k.1 n (inr (λ z. marked-safe s.tree ops _ T.good m))) l
    ∙ ap with_image (by-log log ∙ ap (λ (x : Bool). if◌then◌else◌ x (encode (settled s.tree)) (commit b image_room).image) (log-there b s ops C t k.0 n e))
  where
    k : Found s × (commit_fault s ≡ none)
    k = committed b s C.holds c

    T : Transacts s ops
    T = transacts b s ops C t k.0

    log : Bool
    log = is_some (committed_at n s).log

    by-log : (x : Bool) → encode (settled (tree_after s ops T x)) ≡ if◌then◌else◌ x (encode (settled s.tree)) (commit b image_room).image
    by-log true = refl
    by-log false = sym (ap (λ (a : Answer). a.image) (commit-gives b s C.holds k.0) ∙ ap encode (committed-end s ops T k.1))

pub fault-of : (q : Option Fault) → (commit_number q ≡ 14) ⊎ (commit_number q ≡ 15) → (e : Fault) × (q ≡ some e)
fault-of none (inl e) = absurd (omega arith)
fault-of none (inr e) = absurd (omega arith)
fault-of (some e) h = (e, refl)

pub not_4 : (x : ℕ) → (x ≡ 14) ⊎ (x ≡ 15) → x ≡ 4 → ⊥
not_4 x (inl p) q = omega arith
not_4 x (inr p) q = omega arith

pub kinds_failing : KindsFailing
kinds_failing b s ops C t m c = (
  image,
  λ n out e l.
      recovers b s ops C t k n e s.tree out (old-tidy T.old) (failed-cut-heals s ops T m f.0 f.1 n) l
      ∙ ap with_image (both (has_tag 0x13 (cut_at n b))),
)
  where
    k : Found s
    k = found_in b s C.holds (not_4 _ c)

    f : (e : Fault) × (commit_fault s ≡ some e)
    f = fault-of (commit_fault s) (subst (λ (a : Answer). (a.number ≡ 14) ⊎ (a.number ≡ 15)) (commit-gives b s C.holds k) c)

    T : Transacts s ops
    T = transacts b s ops C t k

    image : (commit b image_room).image ≡ encode (settled s.tree)
    image = ap (λ (a : Answer). a.image) (commit-gives b s C.holds k) ∙ ap encode (failed-end s ops T m f.0 f.1)

    both : (x : Bool) → encode (settled s.tree) ≡ if◌then◌else◌ x (encode (settled s.tree)) (commit b image_room).image
    both true = refl
    both false = sym image
