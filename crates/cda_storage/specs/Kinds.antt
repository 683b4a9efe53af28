-- The cut rule for operations of every kind, over calls of the exported entries: beyond document 02. Words are those of crate cut_rule, Demand.antt and
-- Kinds.antt; a call is what its contract says (Calls.antt).
use Rattle.std.specs.Prelude.{◌≡◌, refl, List, [], ◌∷◌, true, ◌⊎◌, ℕ, length, leb, if◌then◌else◌}
use Rattle.std.proofs.Common.{sym, ap, subst, ◌∙◌, inl, inr, arith}
use Rattle.basics.specs.Limits.{image_room, step_room}
use Rattle.basics.specs.Base.{Bytes}
use Rattle.basics.specs.Field.{has_tag}
use Rattle.model.specs.Operation.{Op}
use Rattle.model.specs.Store.{Store}
use Rattle.model.specs.Image.{encode}
use Rattle.answers.specs.Answers.{Answer, begin, write, delete, delete_all, create_collection, delete_collection, copy_collection, commit, recover, recover_step}
use Rattle.cut_rule.specs.Demand.{settled, cut_at, cut_recoveries, InPlans}
use Rattle.cut_rule.specs.Kinds.{Suits, AllTrue, Marked, CutGives}
use Rattle.cut_rule.proofs.KindsRule.{kinds_rule, kinds_failing}
use Rattle.cut_rule.proofs.Again.{kinds_again}
use Rattle.cut_rule.proofs.RecordedKinds as Recorded
use Rattle.cut_rule.proofs.RecordedKinds.{call_of, writes, deletes, deletes_all, creates, deletes_collection, copies, recorded_by, AllAnswered, recorded-true, recorded_marked}
use Rattle.handover.specs.Contract.{hands_back}
use Rattle.cda_storage.specs.Calls.{Call, CommitCall, CommitStepCall, RecoverStepCall, handed_back, image_at, handed, enough, commit-roomy, step-image}
use Rattle.cda_storage.specs.Calls.{recover-step-roomy, step-done, zero-not_2}
use Rattle.cda_storage.specs.CutRule.{RecoversAs, recovers_as, cut-image}

-- The conditions of the rule: places that share nothing, plain names, and what the operations say of the store is true of it.
pub record Covered (image : Bytes) (s : Store) (ops : List Op) : Type 0 where
  pub suits : Suits image s ops
  pub truth : AllTrue s.tree ops
  pub marked : Marked ops

-- Commit's number: it goes through, or it meets a failing step.
abbrev pub Carried : ℕ → Type 0
Carried x = (x ≡ 0) ⊎ ((x ≡ 14) ⊎ (x ≡ 15))

-- "Recovery may itself be cut after any of its steps, any number of times": recoveries that were cut after so many steps each, the first on the image c, each
-- other on what the one before handed back; d is what the last one handed back.
abbrev pub RecoveriesCut : List ℕ → Bytes → Bytes → Type 0
RecoveriesCut [] c d = c ≡ d
RecoveriesCut (m ∷ ms) c d = (call : RecoverStepCall m c 0) × RecoveriesCut ms (image_at call) d

-- Whatever step the commit was cut after, and however often recovery was: recovery from what is left hands back exactly the directories and files from before
-- if the log stood at the commit's cut, else exactly what the call of commit hands back that is not cut. So of a commit that answers 0, 14 or 15.
abbrev pub KindsRuleOfEntries : Type 0
KindsRuleOfEntries =
    (image : Bytes) (s : Store) (ops : List Op) → Covered image s ops → (n : ℕ) → Carried n → (uncut : CommitCall image n) →
    (k : ℕ) (cut : CommitStepCall k image 0) (ms : List ℕ) (d : Bytes) → RecoveriesCut ms (image_at cut) d →
    RecoversAs d (if has_tag 0x13 (image_at cut) then encode (settled s.tree) else handed_back uncut)

-- A commit that answers 14 or 15 hands back exactly the directories and files from before.
abbrev pub KindsFailingOfEntries : Type 0
KindsFailingOfEntries =
    (image : Bytes) (s : Store) (ops : List Op) → Covered image s ops → (n : ℕ) → (n ≡ 14) ⊎ (n ≡ 15) → (uncut : CommitCall image n) →
    handed_back uncut ≡ encode (settled s.tree)

-- A transaction that was recorded by calls: one of begin on any image, then any of the six that record, each answered with 0 and on what the one before handed
-- back; b is what the last one handed back.
abbrev pub CallsMade : List Recorded.Call → Bytes → Bytes → Type 0
CallsMade [] c d = c ≡ d
CallsMade (a ∷ l) c d = (call : Call (call_of a c) 0) × CallsMade l (handed_back call) d

pub record RecordedByCalls (b : Bytes) : Type 0 where
  pub from : Bytes
  pub begun : Call (begin from) 0
  pub calls : List Recorded.Call
  pub made : CallsMade calls (handed_back begun) b

-- Of such a transaction only the places and the names are asked for: what its operations say is true by itself.
abbrev pub RecordedIsCovered : Type 0
RecordedIsCovered = (image : Bytes) (s : Store) (ops : List Op) → RecordedByCalls image → Suits image s ops → Covered image s ops

-- From calls to answers.
carried_not_2 : (x : ℕ) → Carried x → x ≡ 2 → ⊥
carried_not_2 x (inl p) q = omega (arith, p, q)
carried_not_2 x (inr (inl p)) q = omega (arith, p, q)
carried_not_2 x (inr (inr p)) q = omega (arith, p, q)

carried_not_4 : (x : ℕ) → Carried x → x ≡ 4 → ⊥
carried_not_4 x (inl p) q = omega (arith, p, q)
carried_not_4 x (inr (inl p)) q = omega (arith, p, q)
carried_not_4 x (inr (inr p)) q = omega (arith, p, q)

hands : (x : ℕ) → Carried x → hands_back x ≡ true
hands x (inl p) = ap hands_back p
hands x (inr (inl p)) = ap hands_back p
hands x (inr (inr p)) = ap hands_back p

cut-recoveries : (ms : List ℕ) (c d : Bytes) → RecoveriesCut ms c d → InPlans ms c × (cut_recoveries ms c ≡ d)
cut-recoveries [] c d e = (tt, e)
cut-recoveries (m ∷ ms) c d h =
    let roomy = recover-step-roomy m c h.0 in
    let e : image_at h.0 ≡ (recover_step m c image_room step_room).image = step-image h.0 ∙ sym (ap (λ (a : Answer). a.image) roomy) in
    let rest = cut-recoveries ms (image_at h.0) d h.1 in
    ((ap (λ (a : Answer). a.number) roomy ∙ sym h.0.gives.given.number, subst (InPlans ms) e rest.0), ap (cut_recoveries ms) (sym e) ∙ rest.1)

-- A commit that was not refused: its number and its image, as the rules name them.
module _ (image : Bytes) (n : ℕ) (z : Carried n) (uncut : CommitCall image n) where
  roomy : commit image image_room ≡ commit image (length uncut.out)
  roomy = commit-roomy image uncut (carried_not_2 n z)

  pub its_number : (commit image image_room).number ≡ n
  its_number = ap (λ (a : Answer). a.number) roomy ∙ sym uncut.gives.number

  pub its_image : handed_back uncut ≡ (commit image image_room).image
  its_image = handed uncut (hands n z) ∙ sym (ap (λ (a : Answer). a.image) roomy)

gives : (image : Bytes) (s : Store) (ops : List Op) → Covered image s ops → Carried (commit image image_room).number → (k out : ℕ) → CutGives image s k out
gives image s ops C (inl e) k out = kinds_rule image s ops k out C.suits C.truth C.marked e
gives image s ops C (inr e) k out = (kinds_failing image s ops C.suits C.truth C.marked e).1 k out

pub kinds_rule_of-entries : KindsRuleOfEntries
kinds_rule_of-entries image s ops C n z uncut k cut ms d chain =
    recovers_as d _ λ out room.
    same out ∙ gives image s ops C numbered k out (step-done k image cut) (λ e. room (ap (λ (a : Answer). a.number) (same out) ∙ e))
    ∙ λ i. record { number = 0; image = (if has_tag 0x13 (sym c i) then encode (settled s.tree) else sym (its_image image n z uncut) i); step = [] }
  where
    c : image_at cut ≡ cut_at k image
    c = cut-image k image cut

    numbered : Carried (commit image image_room).number
    numbered = subst Carried (sym (its_number image n z uncut)) z

    from_cut : InPlans ms (cut_at k image) × (cut_recoveries ms (cut_at k image) ≡ d)
    from_cut = cut-recoveries ms (cut_at k image) d (subst (λ (x : Bytes). RecoveriesCut ms x d) c chain)

    same : (out : ℕ) → recover d out ≡ recover (cut_at k image) out
    same out =
        ap (λ (x : Bytes). recover x out) (sym from_cut.1)
        ∙ kinds_again image s ops k ms out C.suits C.truth C.marked (carried_not_4 _ numbered) (step-done k image cut) from_cut.0

pub kinds_failing-of-entries : KindsFailingOfEntries
kinds_failing-of-entries image s ops C n e uncut =
    its_image image n (inr e) uncut
    ∙ (kinds_failing image s ops C.suits C.truth C.marked
    (subst (λ (x : ℕ). (x ≡ 14) ⊎ (x ≡ 15)) (sym (its_number image n (inr e) uncut)) e)).0

-- The entries that record had room.
begin-roomy : (b : Bytes) (out : ℕ) → (begin b out).number ≡ 0 → begin b image_room ≡ begin b out
unfolding begin
begin-roomy b out e = enough b (leb image_room out) _ (λ z. zero-not_2 (sym e ∙ z))

call-roomy : (a : Recorded.Call) (b : Bytes) (out : ℕ) → (call_of a b out).number ≡ 0 → call_of a b image_room ≡ call_of a b out
unfolding write delete delete_all create_collection delete_collection copy_collection
call-roomy (writes c k f x) b out e = enough b (leb image_room out) _ (λ z. zero-not_2 (sym e ∙ z))
call-roomy (deletes c k) b out e = enough b (leb image_room out) _ (λ z. zero-not_2 (sym e ∙ z))
call-roomy (deletes_all c) b out e = enough b (leb image_room out) _ (λ z. zero-not_2 (sym e ∙ z))
call-roomy (creates c) b out e = enough b (leb image_room out) _ (λ z. zero-not_2 (sym e ∙ z))
call-roomy (deletes_collection c) b out e = enough b (leb image_room out) _ (λ z. zero-not_2 (sym e ∙ z))
call-roomy (copies a c) b out e = enough b (leb image_room out) _ (λ z. zero-not_2 (sym e ∙ z))

-- A call that was answered with 0, of an entry whose answer with more room is the same.
answered_0 : (f : ℕ → Answer) → ((out : ℕ) → (f out).number ≡ 0 → f image_room ≡ f out) → (c : Call f 0) → ((f image_room).number ≡ 0) × (handed_back c ≡ (f image_room).image)
answered_0 f roomy c =
    let r = roomy (length c.out) (sym c.gives.number) in
    (ap (λ (a : Answer). a.number) r ∙ sym c.gives.number, handed c refl ∙ sym (ap (λ (a : Answer). a.image) r))

calls-made : (l : List Recorded.Call) (c d : Bytes) → CallsMade l c d → AllAnswered l c × (recorded_by l c ≡ d)
calls-made [] c d e = (tt, e)
calls-made (a ∷ l) c d h =
    let p = answered_0 (call_of a c) (call-roomy a c) h.0 in
    let rest = calls-made l (handed_back h.0) d h.1 in
    ((p.0, subst (AllAnswered l) p.1 rest.0), ap (recorded_by l) (sym p.1) ∙ rest.1)

recorded : (b : Bytes) → RecordedByCalls b → Recorded.Recorded b
recorded b r =
    let p = answered_0 (begin r.from) (begin-roomy r.from) r.begun in
    let q = calls-made r.calls (handed_back r.begun) b r.made in
    record {
      from = r.from;
      calls = r.calls;
      begun = p.0;
      answered = subst (AllAnswered r.calls) p.1 q.0;
      gives = ap (recorded_by r.calls) (sym p.1) ∙ q.1;
    }

pub recorded-is_covered : RecordedIsCovered
recorded-is_covered image s ops r C = record {
  suits = C;
  truth = recorded-true image s ops (recorded image r) C.holds C.logged C.apart;
  marked = recorded_marked image s ops (recorded image r) C.holds C.logged C.apart;
}
