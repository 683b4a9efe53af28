-- Calls of the exported entries. A call is what its contract says (`Gives`, `StepGives`: src/lib.rt, crate handover), for any outputs and counters; the
-- bytes that it hands back are the first of its output, as many as its counter says.
use Rattle.std.specs.Prelude.{◌≡◌, refl, ◌++◌, Bool, true, false, ◌&&◌, ℕ, length, take, drop, leb}
use Rattle.std.proofs.Common.{sym, ap, ◌∙◌, arith}
use Rattle.std.proofs.Math.Option.{Option, none, some}
use Rattle.std.proofs.Math.Seq.{take-append_seam}
use Rattle.basics.specs.Limits.{image_room, step_room}
use Rattle.basics.specs.Base.{Bytes, case_option}
use Rattle.model.specs.Store.{Store}
use Rattle.model.specs.Image.{decode}
use Rattle.answers.specs.Answers.{Answer, refusal, on_image, commit, commit_step, recover, recover_step}
use Rattle.handover.specs.Contract.{hands_back, Gives, StepGives}

-- A call that answers n, of an entry with one output: its answer by the output's length.
pub record Call (answers : ℕ → Answer) (n : ℕ) : Type 0 where
  pub out : Bytes
  pub out' : Bytes
  pub written : ℕ
  pub written' : ℕ
  pub gives : Gives (answers (length out)) n out out' written written'

-- A call that answers n, of a step entry: its answer by the lengths of both outputs.
pub record StepCall (answers : ℕ → ℕ → Answer) (n : ℕ) : Type 0 where
  pub out : Bytes
  pub out' : Bytes
  pub written : ℕ
  pub written' : ℕ
  pub step : Bytes
  pub step' : Bytes
  pub step_written : ℕ
  pub step_written' : ℕ
  pub gives : StepGives (answers (length out) (length step)) n out out' written written' step step' step_written step_written'

-- `cda_storage_commit` and `cda_storage_recover` on an image, `cda_storage_commit_step` and `cda_storage_recover_step` at the step number k.
abbrev pub CommitCall : Bytes → ℕ → Type 0
CommitCall image = Call (commit image)

abbrev pub RecoverCall : Bytes → ℕ → Type 0
RecoverCall image = Call (recover image)

abbrev pub CommitStepCall : ℕ → Bytes → ℕ → Type 0
CommitStepCall k image = StepCall (commit_step k image)

abbrev pub RecoverStepCall : ℕ → Bytes → ℕ → Type 0
RecoverStepCall k image = StepCall (recover_step k image)

-- What a call has handed back.
abbrev pub handed_back : {f : ℕ → Answer} {n : ℕ} → Call f n → Bytes
handed_back c = take c.written' c.out'

abbrev pub image_at : {f : ℕ → ℕ → Answer} {n : ℕ} → StepCall f n → Bytes
image_at c = take c.written' c.out'

abbrev pub field_at : {f : ℕ → ℕ → Answer} {n : ℕ} → StepCall f n → Bytes
field_at c = take c.step_written' c.step'

-- An entry that does not answer 2 had enough room: more makes no difference.
pub enough : (b : Bytes) (room : Bool) (next : Store → Answer) → ((on_image b room next).number ≡ 2 → ⊥) → on_image b true next ≡ on_image b room next
enough b true next h = refl
enough b false next h = go (decode b) h
  where
    go : (o : Option Store) → ((case_option o (refusal 1) (λ s. refusal 2)).number ≡ 2 → ⊥) →
        case_option o (refusal 1) (λ s. next s) ≡ case_option o (refusal 1) (λ s. refusal 2)
    go none h = refl
    go (some s) h = absurd (h refl)

front : (bytes out : Bytes) {out' : Bytes} {n : ℕ} → out' ≡ bytes ++ drop (length bytes) out → n ≡ length bytes → take n out' ≡ bytes
front bytes out {n = n} p q =
    ap (take n) p ∙ ap (λ (j : ℕ). take j (bytes ++ drop (length bytes) out)) q ∙ take-append_seam bytes (drop (length bytes) out)

-- Where a call hands an image back, that is its answer's.
pub handed : {f : ℕ → Answer} {n : ℕ} (c : Call f n) → hands_back n ≡ true → handed_back c ≡ (f (length c.out)).image
handed {f} c h = front (f (length c.out)).image c.out c.gives.image (c.gives.count ∙ rw (ap hands_back (sym c.gives.number) ∙ h))

pub commit-roomy : (image : Bytes) {n : ℕ} (c : CommitCall image n) → (n ≡ 2 → ⊥) → commit image image_room ≡ commit image (length c.out)
unfolding commit
commit-roomy image c h = enough image (leb image_room (length c.out)) _ (λ e. h (c.gives.number ∙ e))

-- A step entry that answers 0.
module _ {f : ℕ → ℕ → Answer} (c : StepCall f 0) where
  pub step-image : image_at c ≡ (f (length c.out) (length c.step)).image
  step-image =
      front (f (length c.out) (length c.step)).image c.out c.gives.given.image (c.gives.given.count ∙ rw (sym c.gives.given.number))

  pub step_field_lem : field_at c ≡ (f (length c.out) (length c.step)).step
  step_field_lem =
      front (f (length c.out) (length c.step)).step c.step c.gives.field (c.gives.field_count ∙ rw (sym c.gives.given.number))

-- An entry that answers 0 does not answer 2.
pub zero-not_2 : ◌≡◌ {A = ℕ} 0 2 → ⊥
zero-not_2 e = omega (arith, e)

pub step-roomy : (k : ℕ) (image : Bytes) {n : ℕ} (c : CommitStepCall k image n) → (n ≡ 2 → ⊥) →
    commit_step k image image_room step_room ≡ commit_step k image (length c.out) (length c.step)
unfolding commit_step
step-roomy k image c h = enough image (leb image_room (length c.out) && leb step_room (length c.step)) _ (λ e. h (c.gives.given.number ∙ e))

pub step-done : (k : ℕ) (image : Bytes) (c : CommitStepCall k image 0) → (commit_step k image image_room step_room).number ≡ 0
step-done k image c = ap (λ (a : Answer). a.number) (step-roomy k image c zero-not_2) ∙ sym c.gives.given.number

pub recover-step-roomy : (k : ℕ) (image : Bytes) (c : RecoverStepCall k image 0) →
    recover_step k image image_room step_room ≡ recover_step k image (length c.out) (length c.step)
unfolding recover_step
recover-step-roomy k image c =
    enough image (leb image_room (length c.out) && leb step_room (length c.step)) _ (λ e. zero-not_2 (c.gives.given.number ∙ e))
