-- Recovery cut again, over calls of the exported entries: item 5 of document 02. Words and quotes are those of crate cut_rule, Demand.antt; a call is what
-- its contract says (Calls.antt).
use Rattle.std.specs.Prelude.{◌≡◌, List, [], ◌∷◌, ◌⊎◌, ℕ}
use Rattle.std.proofs.Common.{sym, ap, subst, ◌∙◌, inl, inr, arith}
use Rattle.basics.specs.Limits.{image_room, step_room}
use Rattle.basics.specs.Map.{Map}
use Rattle.basics.specs.Base.{Bytes}
use Rattle.basics.specs.Field.{has_tag}
use Rattle.model.specs.Operation.{Write}
use Rattle.model.specs.Store.{Store}
use Rattle.answers.specs.Answers.{Answer, answer, recover, recover_step}
use Rattle.cut_rule.specs.Demand.{TrulyMarked, Either, cut_at, cut_recoveries, InPlans, expected_files, settled}
use Rattle.cut_rule.proofs.Theorem.{marked_rule, failing_rule}
use Rattle.cut_rule.proofs.Again.{again_rule, either, done-not_4}
use Rattle.cda_storage.specs.Calls.{RecoverCall, CommitStepCall, RecoverStepCall, handed_back, image_at, step-image, recover-step-roomy, step-done}
use Rattle.cda_storage.specs.CutRule.{Transaction, FailingTransaction, RecoversTo, done-not_2, failed-not_2, conditions, cut-image}
use Rattle.cda_storage.specs.CutRule.{recovers-to, marked_rule_of-entries}

-- "Recovery may itself be cut after any of its steps, any number of times": recoveries that were cut after so many steps each, the first on the image c, each
-- other on what the one before handed back; d is what the last one handed back.
abbrev pub RecoveriesCut : List ℕ → Bytes → Bytes → Type 0
RecoveriesCut [] c d = c ≡ d
RecoveriesCut (m ∷ ms) c d = (call : RecoverStepCall m c 0) × RecoveriesCut ms (image_at call) d

-- Whatever step the commit was cut after, and however often recovery was: recovery from what is left gives exactly the files "from before if the log stood"
-- at the commit's cut, "else those with all writes done".
abbrev pub AgainRuleOfEntries : Type 0
AgainRuleOfEntries =
    (image : Bytes) (s : Store) (ws : List Write) (k : ℕ) (ms : List ℕ) (d : Bytes) → Transaction image s ws → TrulyMarked s.tree ws →
    (cut : CommitStepCall k image 0) → RecoveriesCut ms (image_at cut) d → RecoversTo d (expected_files (has_tag 0x13 (image_at cut)) s ws)

-- "Once one recovery runs to its end, the store is the same as if the first had."
abbrev pub SameAsFirst : Type 0
SameAsFirst =
    (image : Bytes) (s : Store) (ws : List Write) (k : ℕ) (ms : List ℕ) (d : Bytes) → Transaction image s ws → TrulyMarked s.tree ws →
    (cut : CommitStepCall k image 0) → RecoveriesCut ms (image_at cut) d →
    (n m : ℕ) (last : RecoverCall d n) (first : RecoverCall (image_at cut) m) → (n ≡ 2 → ⊥) → (m ≡ 2 → ⊥) →
    (n ≡ m) × (handed_back last ≡ handed_back first)

-- Beyond document 02: a commit that answers 14 or 15, cut after any of its steps.
abbrev pub FailingAgainOfEntries : Type 0
FailingAgainOfEntries =
    (image : Bytes) (s : Store) (ws : List Write) (k : ℕ) (ms : List ℕ) (d : Bytes) → FailingTransaction image s ws → TrulyMarked s.tree ws →
    (cut : CommitStepCall k image 0) → RecoveriesCut ms (image_at cut) d → RecoversTo d s.tree

-- From calls to answers.
cut-recoveries : (ms : List ℕ) (c d : Bytes) → RecoveriesCut ms c d → InPlans ms c × (cut_recoveries ms c ≡ d)
cut-recoveries [] c d e = (tt, e)
cut-recoveries (m ∷ ms) c d h =
    let roomy = recover-step-roomy m c h.0 in
    let e : image_at h.0 ≡ (recover_step m c image_room step_room).image = step-image h.0 ∙ sym (ap (λ (a : Answer). a.image) roomy) in
    let rest = cut-recoveries ms (image_at h.0) d h.1 in
    ((ap (λ (a : Answer). a.number) roomy ∙ sym h.0.gives.given.number, subst (InPlans ms) e rest.0), ap (cut_recoveries ms) (sym e) ∙ rest.1)

from_cut : (image : Bytes) (k : ℕ) (ms : List ℕ) (d : Bytes) (cut : CommitStepCall k image 0) → RecoveriesCut ms (image_at cut) d →
    InPlans ms (cut_at k image) × (cut_recoveries ms (cut_at k image) ≡ d)
from_cut image k ms d cut h = cut-recoveries ms (cut_at k image) d (subst (λ (c : Bytes). RecoveriesCut ms c d) (cut-image k image cut) h)

-- Recovery from what is left answers as recovery from the commit's cut does.
same_answer : (image : Bytes) (s : Store) (ws : List Write) (k : ℕ) (ms : List ℕ) (d : Bytes) → Either image s ws → TrulyMarked s.tree ws →
    (cut : CommitStepCall k image 0) → RecoveriesCut ms (image_at cut) d → (out : ℕ) → recover d out ≡ recover (cut_at k image) out
same_answer image s ws k ms d C m cut chain out =
    let h = from_cut image k ms d cut chain in
    ap (λ (c : Bytes). recover c out) (sym h.1) ∙ again_rule image s ws k ms out C m (step-done k image cut) h.0

-- So what holds of the one holds of the other.
as_from-cut : (c d : Bytes) (t : Map) → ((out : ℕ) → recover d out ≡ recover c out) →
    ((out : ℕ) → ((recover c out).number ≡ 2 → ⊥) → recover c out ≡ answer 0 (settled t)) → RecoversTo d t
as_from-cut c d t same h = recovers-to d t (λ out room. same out ∙ h out (λ z. room (ap (λ (a : Answer). a.number) (same out) ∙ z)))

pub again_rule_of-entries : AgainRuleOfEntries
again_rule_of-entries image s ws k ms d t m cut chain =
    let C = conditions done-not_2 t in
    subst (λ (c : Bytes). RecoversTo d (expected_files (has_tag 0x13 c) s ws)) (sym (cut-image k image cut))
    (as_from-cut (cut_at k image) d _ (same_answer image s ws k ms d (either done-not_4 C) m cut chain)
    (λ out. marked_rule image s ws k out C m (step-done k image cut)))

pub same_as_first : SameAsFirst
same_as_first image s ws k ms d t m cut chain n n₀ last first p q =
    let a = again_rule_of-entries image s ws k ms d t m cut chain n last p in
    let b = marked_rule_of-entries image s ws k t m cut n₀ first q in
    (a.0 ∙ sym b.0, a.1 ∙ sym b.1)

failed-not_4 : (x : ℕ) → (x ≡ 14) ⊎ (x ≡ 15) → x ≡ 4 → ⊥
failed-not_4 x (inl p) q = omega (arith, p, q)
failed-not_4 x (inr p) q = omega (arith, p, q)

pub failing-again-of-entries : FailingAgainOfEntries
failing-again-of-entries image s ws k ms d t m cut chain =
    let C = conditions failed-not_2 t in
    as_from-cut (cut_at k image) d s.tree (same_answer image s ws k ms d (either failed-not_4 C) m cut chain)
    (λ out. failing_rule image s ws k out C m (step-done k image cut))
