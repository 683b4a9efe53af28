-- What the functions of a trace answer, by what is met.
use mathlib.Core.Path.{◌≡◌, refl, sym, ap, subst, ◌∙◌}
use mathlib.Core.List.{[], ◌∷◌, ◌++◌, append_assoc, append-nil}
use Prim.Native.Nat.{ℕ, suc, ◌+◌, ◌≤◌, ◌<◌}
use native.Mathlib.Omega.{arith}
use lib.ListN.{length, take, drop, get_or}
use lib.Seq.{take-suc, take_all, take-append_seam}
use Rattle.basics.specs.Limits.{image_room, step_room}
use Rattle.basics.specs.Base.{Bytes}
use Rattle.answers.specs.Answers.{Answer, commit_step}
use Rattle.answer_laws.specs.EntryLaws.{on-commit-step}
use Rattle.handover.specs.Contract.{counted, StepGives}
use Rattle.trace.specs.Tracking.{step_behind, steps_of, Tracks, Goes}
use Rattle.trace.specs.declared.Trace.{Trace}

-- A refusal has no field, so the counter, which it leaves at 0, is the field's length all the same.
counts : (image : Bytes) (n : ℕ) → counted (step_behind image n).number (step_behind image n).step 0 ≡ length (step_behind image n).step
counts image n = on-commit-step (λ a. counted a.number a.step 0 ≡ length a.step) (suc n) image image_room step_room (refl, (refl, (refl, (refl, tt)))) (λ s d. refl)

-- What the run up to the step behind n answers: its number, and the field at the front of the array.
module _ (image : Bytes) (n : ℕ) {number written written' len : ℕ} {out out' zeros field : Bytes} (p : length out ≡ image_room) (q : length zeros ≡ step_room)
    (g : StepGives (commit_step (n + 1) image (length out) (length zeros)) number out out' written written' zeros field 0 len) where
  is : commit_step (n + 1) image (length out) (length zeros) ≡ step_behind image n
  is = let k : n + 1 ≡ suc n = omega arith in rw (k, p, q)

  given : StepGives (step_behind image n) number out out' written written' zeros field 0 len
  given = subst (λ (a : Answer). StepGives a number out out' written written' zeros field 0 len) is g

  pub number-behind : number ≡ (step_behind image n).number
  number-behind = given.given.number

  pub field-behind : take len field ≡ (step_behind image n).step
  field-behind =
      ap (λ (k : ℕ). take k field) (given.field_count ∙ counts image n) ∙ ap (take (length (step_behind image n).step)) given.field
      ∙ take-append_seam (step_behind image n).step (drop (length (step_behind image n).step) zeros)

-- The bytes of a part, i of which were met.
pub record Fed (image part : Bytes) (t : Trace) (i : ℕ) (now : Trace) : Type 0 where
  pub steps : steps_of now ≤ steps_of t + i
  pub tracks : (b : Bytes) → Tracks image b t → Tracks image (b ++ take i part) now

pub unfed : (image part : Bytes) (t : Trace) → Fed image part t 0 t
unfed image part t = record { steps = omega arith; tracks = λ b w. subst (λ (y : Bytes). Tracks image y t) (sym (append-nil b)) w }

module _ {image part : Bytes} {t : Trace} {i : ℕ} {now : Trace} (f : Fed image part t i now) where
  pub fed-more : i < length part → {r : Trace} → Goes image (get_or part i 0 ∷ []) now r → Fed image part t (i + 1) r
  fed-more l {r} g = record {
    steps = omega (arith, g.steps, f.steps);
    tracks = λ b w. subst (λ (y : Bytes). Tracks image y r) (longer b) (g.tracks (b ++ take i part) (f.tracks b w));
  }
    where
      longer : (b : Bytes) → (b ++ take i part) ++ get_or part i 0 ∷ [] ≡ b ++ take (i + 1) part
      longer b =
          let k : i + 1 ≡ suc i = omega arith in
          append_assoc b (take i part) (get_or part i 0 ∷ []) ∙ (rw k (ap (b ++◌) (sym (take-suc part i 0 l))))

  pub fed-all : i ≡ length part → Goes image part t now
  fed-all h = record {
    steps = omega (arith, f.steps);
    tracks = λ b w. subst (λ (y : Bytes). Tracks image (b ++ y) now) (take_all i part (omega arith)) (f.tracks b w);
  }
