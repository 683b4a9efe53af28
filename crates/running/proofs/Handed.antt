-- An entry that runs a plan, by what `run` left.
use Rattle.std.specs.Prelude.{◌≡◌, refl, Bool, false, ◌&&◌, ℕ, ◌≤◌, length, leb, Option, None, Some}
use Rattle.std.proofs.Common.{sym, ap, subst, ◌∙◌, arith, leb-true, ne_eqb}
use Rattle.std.proofs.Math.Option.{some}
use Rattle.std.proofs.lemmas.Bool.{false≢true}
use Rattle.basics.specs.Limits.{image_room, step_room}
use Rattle.basics.specs.Base.{Bytes}
use Rattle.model.specs.Store as model
use Rattle.model.specs.Image.{encode, decode}
use Rattle.answers.specs.Answers.{Answer, answer, refusal, on_image, commit, hold, recover, recover_cause, revert, revert_cause, keep}
use Rattle.answers.specs.Answers.{commit_step, hold_step, recover_step, revert_step, keep_step}
use Rattle.answer_laws.specs.Bounds.{Bounded, commit-bounded, hold-bounded, recover-bounded, revert-bounded, keep-bounded}
use Rattle.answer_laws.specs.Bounds.{commit-step-bounded, hold-step-bounded, recover-step-bounded, revert-step-bounded, keep-step-bounded}
use Rattle.basic_laws.specs.Tests.{and_both}
use Rattle.refusals.specs.Numbers.{number_of, number_if}
use Rattle.refusals.specs.declared.Refusal.{Refusal}
use Rattle.store.specs.Kept.{none_kept}
use Rattle.store.specs.Stores.{store_of}
use Rattle.wal.specs.declared.Tail.TheVariants.{Nothing}
use Rattle.steps.proofs.Running.{some-number}
use Rattle.decode.specs.declared.Decoded.{Decoded}
use Rattle.handover.specs.Contract.{hands_back, Gives, StepGives, CauseGives, Writes}
use Rattle.handover.specs.Opening.{Opened, Shut, ImageStands, stepped, StepStands}
use Rattle.handover.proofs.Outputs.{left_alone, step-left-alone, gives, stepped-at}
use Rattle.running.specs.Planning.{plan_store, plan_cause, plan_at, plan_entry, plan_broke, plan_step_entry, RefusedWith, Leaves, cause_after}
use Rattle.running.specs.declared.Planned.{Planned}
use Rattle.running.specs.declared.Planned.TheVariants.{Commit, Hold, Recover, Revert, Keep}
use Rattle.running.specs.declared.Ran.{Ran}

-- The entries, upon an image.
plan-is : (p : Planned) (image : Bytes) (out : ℕ) → plan_entry p image out ≡ on_image image (leb image_room out) (plan_store p)
unfolding commit hold recover revert keep
plan-is Commit image out = refl
plan-is Hold image out = refl
plan-is Recover image out = refl
plan-is Revert image out = refl
plan-is Keep image out = refl

plan-step-is : (p : Planned) (n : ℕ) (image : Bytes) (out stepOut : ℕ) → plan_step_entry p n image out stepOut ≡ on_image image (leb image_room out && leb step_room stepOut) (plan_at p n)
unfolding commit_step hold_step recover_step revert_step keep_step
plan-step-is Commit n image out stepOut = refl
plan-step-is Hold n image out stepOut = refl
plan-step-is Recover n image out stepOut = refl
plan-step-is Revert n image out stepOut = refl
plan-step-is Keep n image out stepOut = refl

plan-bounded : (p : Planned) (image : Bytes) (out : ℕ) → Bounded (plan_entry p image out)
plan-bounded Commit = commit-bounded
plan-bounded Hold = hold-bounded
plan-bounded Recover = recover-bounded
plan-bounded Revert = revert-bounded
plan-bounded Keep = keep-bounded

plan-step-bounded : (p : Planned) (n : ℕ) (image : Bytes) (out stepOut : ℕ) → Bounded (plan_step_entry p n image out stepOut)
plan-step-bounded Commit = commit-step-bounded
plan-step-bounded Hold = hold-step-bounded
plan-step-bounded Recover = recover-step-bounded
plan-step-bounded Revert = revert-step-bounded
plan-step-bounded Keep = keep-step-bounded

-- How the log broke, by the entry's number and by the store that the image holds.
broke-number : (p : Planned) (image : Bytes) (out : ℕ) → (plan_broke p image out).number ≡ (plan_entry p image out).number
unfolding recover_cause revert_cause
broke-number Commit image out = refl
broke-number Hold image out = refl
broke-number Recover image out = refl
broke-number Revert image out = refl
broke-number Keep image out = refl

broke-cause : (p : Planned) (image : Bytes) (out : ℕ) (s : model.Store) → decode image ≡ some s → (plan_broke p image out).cause ≡ plan_cause p s
unfolding recover_cause revert_cause
broke-cause Commit image out s d = refl
broke-cause Hold image out s d = refl
broke-cause Recover image out s d = rw d
broke-cause Revert image out s d = rw d
broke-cause Keep image out s d = refl

-- A call that is refused leaves the outputs and `cause`.
not-done : {n : ℕ} → hands_back n ≡ false → n ≡ 0 → ⊥
not-done h z = false≢true (sym h ∙ ap hands_back z)

cause-left : (p : Planned) (image : Bytes) (out : ℕ) {n cause : ℕ} → n ≡ (plan_entry p image out).number → (n ≡ 0 → ⊥) → CauseGives (plan_broke p image out) n cause cause
cause-left p image out e h =
    let q = e ∙ sym (broke-number p image out) in
    record { number = q; told = rw (ne_eqb (plan_broke p image out).number 0 (λ z. h (q ∙ z))) }

turned_down : (p : Planned) (image : Bytes) (len : ℕ) {n : ℕ} → hands_back n ≡ false → plan_entry p image len ≡ refusal n → {out : Bytes} {written cause : ℕ}
    → Gives (plan_entry p image len) n out out written written × CauseGives (plan_broke p image len) n cause cause
turned_down p image len h g = (left_alone h g, cause-left p image len (sym (ap (λ (a : Answer). a.number) g)) (not-done h))

-- The whole plan.
module _ (p : Planned) (image : Bytes) (len : ℕ) where
  pub not_opened : {e : Refusal} → Shut image (leb image_room len) e → {out : Bytes} {written cause : ℕ}
      → Gives (plan_entry p image len) (number_of e) out out written written × CauseGives (plan_broke p image len) (number_of e) cause cause
  not_opened w = turned_down p image len w.alone (plan-is p image len ∙ w.refused (plan_store p))

  module _ {d : Decoded} (w : Opened image (leb image_room len) d) where
    pub nothing-back : {e : Refusal} → RefusedWith p image d.store None e → {out : Bytes} {written cause : ℕ}
        → Gives (plan_entry p image len) (number_of e) out out written written × CauseGives (plan_broke p image len) (number_of e) cause cause
    nothing-back c = turned_down p image len c.alone (plan-is p image len ∙ w.given (plan_store p) ∙ c.whole refl)

    module _ {r : Ran} (c : Leaves p image d.store None r) where
      given : plan_entry p image len ≡ answer (number_if r.refusal) (store_of image r.run.store)
      given = plan-is p image len ∙ w.given (plan_store p) ∙ c.whole refl

      pub image-stands : ImageStands image r.run.store Nothing 0 len
      image-stands = record {
        sound = c.sound.fits.sound;
        tail_sound = tt;
        kept = none_kept;
        room =
            let i = subst (λ (x : Answer). length x.image ≤ image_room) given (plan-bounded p image len).image in
            omega (arith, leb-true image_room len w.roomy);
      }

      number-is : number_if r.refusal ≡ (plan_entry p image len).number
      number-is = sym (ap (λ (a : Answer). a.number) given)

      back : {n : ℕ} → n ≡ number_if r.refusal → {out out' : Bytes} {written written' : ℕ} → Writes (encode (store_of image r.run.store)) out out' written'
          → Gives (plan_entry p image len) n out out' written written'
      back e v = gives (ap hands_back e ∙ c.told refl) (e ∙ number-is) (sym (ap (λ (a : Answer). a.image) given)) v

      -- The image and its number; the cause, where no step failed.
      pub handed : {out out' : Bytes} {written' : ℕ} → Writes (encode (store_of image r.run.store)) out out' written' → (written cause : ℕ)
          → Gives (plan_entry p image len) (number_if r.refusal) out out' written written' × CauseGives (plan_broke p image len) (number_if r.refusal) cause (cause_after r.refusal r.cause cause)
      handed v written cause = (back refl v, go r.refusal number-is)
        where
          go : (o : Option Refusal) → number_if o ≡ (plan_entry p image len).number → CauseGives (plan_broke p image len) (number_if o) cause (cause_after o r.cause cause)
          go (Some e) n = cause-left p image len n (some-number e)
          go None n =
              let q : 0 ≡ (plan_broke p image len).number = n ∙ sym (broke-number p image len) in
              record { number = q; told = rw (sym q, c.cause, broke-cause p image len _ w.held.accepted) }

-- Its first n steps.
module _ (p : Planned) (n : ℕ) (image : Bytes) (out stepOut : ℕ) where
  abbrev room : Bool
  room = leb image_room out && leb step_room stepOut

  pub steps-not-opened : {e : Refusal} → Shut image room e → {lent : Bytes} {written : ℕ} {step : Bytes} {step_written : ℕ}
      → StepGives (plan_step_entry p n image out stepOut) (number_of e) lent lent written written step step step_written step_written
  steps-not-opened w = step-left-alone w.alone (plan-step-is p n image out stepOut ∙ w.refused (plan_at p n))

  module _ {d : Decoded} (w : Opened image room d) where
    pub no-steps-back : {e : Refusal} → RefusedWith p image d.store (Some n) e → {lent : Bytes} {written : ℕ} {step : Bytes} {step_written : ℕ}
        → StepGives (plan_step_entry p n image out stepOut) (number_of e) lent lent written written step step step_written step_written
    no-steps-back c = step-left-alone c.alone (plan-step-is p n image out stepOut ∙ w.given (plan_at p n) ∙ c.cut n refl)

    module _ {r : Ran} (c : Leaves p image d.store (Some n) r) where
      abbrev left : Answer
      left = stepped image r.run n

      steps-given : plan_step_entry p n image out stepOut ≡ left
      steps-given = plan-step-is p n image out stepOut ∙ w.given (plan_at p n) ∙ c.cut n refl

      bounded : Bounded left
      bounded = subst Bounded steps-given (plan-step-bounded p n image out stepOut)

      pub step-stands : StepStands image r.run n out stepOut
      step-stands =
          let t = and_both (leb image_room out) (leb step_room stepOut) w.roomy in
          let at = stepped-at image r.run n in
          record {
            sound = c.sound.fits.sound;
            last_sound = c.sound.last;
            room = λ y. let x = ap (λ (a : Answer). length a.image) (at y) in omega (arith, bounded.image, leb-true image_room out t.0);
            step_room = λ y. let x = ap (λ (a : Answer). length a.step) (at y) in omega (arith, bounded.step, leb-true step_room stepOut t.1);
          }

      pub steps-handed : {k : ℕ} {lent lent' : Bytes} {written written' : ℕ} {step step' : Bytes} {step_written step_written' : ℕ}
          → StepGives left k lent lent' written written' step step' step_written step_written'
          → StepGives (plan_step_entry p n image out stepOut) k lent lent' written written' step step' step_written step_written'
      steps-handed {k} {lent} {lent'} {written} {written'} {step} {step'} {step_written} {step_written'} g =
          subst (λ (a : Answer). StepGives a k lent lent' written written' step step' step_written step_written') (sym steps-given) g
