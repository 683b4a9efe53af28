-- What the lent outputs hold after a refusal and after an answer.
use Rattle.std.specs.Prelude.{◌≡◌, refl, Bool, true, false, ℕ, ◌≤◌, length, Option, None, Some, unwrap_or}
use Rattle.std.proofs.Common.{sym, ap, subst, ◌∙◌, arith}
use Rattle.std.proofs.lemmas.Bool.{ne_eqb}
use Rattle.basics.specs.Base.{Bytes}
use Rattle.model.specs.Store as model
use Rattle.model.specs.Image.{encode}
use Rattle.model.specs.Step.{step_field}
use Rattle.answers.specs.Answers.{Answer, refusal}
use Rattle.laws.specs.ImageLaws.{decode-only}
use Rattle.basic_laws.specs.ValidNames.{valid_naming}
use Rattle.laws.specs.LengthLaws.{encode-length}
use Rattle.answer_laws.specs.EntryLaws.{lent-good}
use Rattle.store.specs.Stores.{store_of}
use Rattle.field.specs.Writing as writing
use Rattle.field.proofs.Written.{written-front}
use Rattle.steps.specs.Steps.{step_of}
use Rattle.steps.specs.CodeRuns.{left_of}
use Rattle.steps.specs.declared.Run.{Run}
use Rattle.steps.specs.declared.Step.{Step}
use Rattle.decode.specs.Decoding.{Accepts}
use Rattle.decode.specs.declared.Decoded.{Decoded}
use Rattle.handover.specs.Contract.{hands_back, Gives, StepGives, Writes}
use Rattle.handover.specs.Opening.{Held, Opened, field_of, stepped}

-- An image that is accepted.
module _ {image : Bytes} {d : Decoded} (w : Accepts image d) where
  held : Held image d.store
  held =
      let s : model.Store = store_of image d.store in
      let g = lent-good image s w.same in
      record {
        sound = w.sound;
        plain = w.plain;
        short = omega (arith, ap length (decode-only image s w.same).0, encode-length valid_naming s g);
        accepted = w.same;
        well = g;
      }

  pub opened : {room : Bool} → room ≡ true → Opened image room d
  opened {room} r = record { held = held; roomy = r; given = λ next. rw (w.same, r); kept = w.kept }

-- A refusal leaves all outputs.
module _ {n : ℕ} {out : Bytes} {written : ℕ} (h : hands_back n ≡ false) where
  pub left_alone : {a : Answer} → a ≡ refusal n → Gives a n out out written written
  left_alone e = record { number = sym (ap (λ (b : Answer). b.number) e); image = rw e; count = rw (e, h) }

  pub step-left-alone : {a : Answer} {step : Bytes} {step_written : ℕ} → a ≡ refusal n → StepGives a n out out written written step step step_written step_written
  step-left-alone e = record { given = left_alone e; field = rw e; field_count = rw (e, h) }

-- An image handed back with a number.
pub gives : {a : Answer} {n : ℕ} {image out out' : Bytes} {written written' : ℕ} → hands_back n ≡ true → n ≡ a.number → image ≡ a.image
    → Writes image out out' written' → Gives a n out out' written written'
gives {a} {n} h e i w = record { number = e; image = w.same ∙ rw i; count = w.size ∙ rw (sym e, h, i) }

-- The answer of a step entry.
pub is-left : (b : Option ℕ) → unwrap_or b 0 ≡ left_of b
is-left None = refl
is-left (Some n) = refl

pub stepped-past : (src : Bytes) (r : Run) (n : ℕ) → (left_of r.budget ≡ 0 → ⊥) → stepped src r n ≡ refusal 16
unfolding stepped
stepped-past src r n h = rw (ne_eqb (left_of r.budget) 0 h)

pub stepped-at : (src : Bytes) (r : Run) (n : ℕ) → left_of r.budget ≡ 0
    → stepped src r n ≡ record { number = 0; image = encode (store_of src r.store); step = field_of src r.last n }
unfolding stepped
stepped-at src r n z = rw z

pub step_gives : {a : Answer} {image field out out' step step' : Bytes} {written written' step_written step_written' : ℕ} → a ≡ record { number = 0; image = image; step = field } →
    Writes image out out' written' → Writes field step step' step_written' → StepGives a 0 out out' written written' step step' step_written step_written'
step_gives e w v = record {
  given = gives refl (sym (ap (λ (b : Answer). b.number) e)) (sym (ap (λ (b : Answer). b.image) e)) w;
  field = v.same ∙ rw e;
  field_count = v.size ∙ rw e;
}

-- The field of the last step.
pub no_field : (src : Bytes) (last : Step) (n : ℕ) (out : Bytes) → n ≡ 0 → Writes (field_of src last n) out out 0
unfolding field_of
no_field src last n out z = record { same = rw z; size = rw z }

pub field-of : (src : Bytes) (last : Step) (n : ℕ) → (n ≡ 0 → ⊥) → field_of src last n ≡ step_field (step_of src last)
unfolding field_of
field-of src last n h = rw (ne_eqb n 0 h)

pub field-written : (src : Bytes) (last : Step) (n : ℕ) {out out' : Bytes} {count : ℕ} → (n ≡ 0 → ⊥) → length (field_of src last n) ≤ length out
    → writing.Writes (step_field (step_of src last)) 0 out out' count → Writes (field_of src last n) out out' count
field-written src last n {out} h room w =
    let e = field-of src last n h in
    record { same = w.same ∙ written-front (step_field (step_of src last)) out (subst (λ (b : Bytes). length b ≤ length out) e room) ∙ rw e; size = w.size ∙ ap length (sym e) }
