-- What the inner functions of the entries answer.
use Rattle.std.specs.Prelude.{◌≡◌, Bool, true, false, [], ℕ, ◌≤◌, length, eqb, Result, Ok, Err, if◌then◌else◌}
use Rattle.std.proofs.Math.Option.{none, some}
use Rattle.basics.specs.Limits.{image_room}
use Rattle.basics.specs.Base.{Bytes}
use Rattle.model.specs.Store as model
use Rattle.model.specs.Image.{encode, decode}
use Rattle.model.specs.Step.{step_field}
use Rattle.answers.specs.Answers.{Answer, refusal, outcome, on_image}
use Rattle.basic_laws.specs.ValidNames.{Valid}
use Rattle.laws.specs.StoreLaws.{Good}
use Rattle.refusals.specs.Numbers.{number_of}
use Rattle.refusals.specs.declared.Refusal.{Refusal}
use Rattle.store.specs.Tables.{map_of}
use Rattle.store.specs.Kept.{Kept}
use Rattle.store.specs.Stores.{AsRead, store_of, SoundStore}
use Rattle.store.specs.declared.Store.{Store}
use Rattle.wal.specs.Tails.{with_tail, SoundTail}
use Rattle.wal.specs.declared.Tail.{Tail}
use Rattle.steps.specs.Steps.{step_of, SoundStep}
use Rattle.steps.specs.CodeRuns.{left_of}
use Rattle.steps.specs.declared.Run.{Run}
use Rattle.steps.specs.declared.Step.{Step}
use Rattle.decode.specs.declared.Decoded.{Decoded}
use Rattle.local_storage.specs.Recording.{outcome_of}
use Rattle.local_storage.specs.declared.Recorded.{Recorded}
use Rattle.handover.specs.Contract.{hands_back}

-- A store that an image holds.
pub record Held (image : Bytes) (s : Store) : Type 0 where
  pub sound : SoundStore image s
  pub plain : AsRead s.log
  pub short : length image ≤ image_room
  pub accepted : decode image ≡ some (store_of image s)
  pub well : Good Valid (store_of image s)

-- The store that what follows begins with.
pub record Opened (image : Bytes) (room : Bool) (d : Decoded) : Type 0 where
  pub held : Held image d.store
  pub roomy : room ≡ true
  pub given : (next : model.Store → Answer) → on_image image room next ≡ next (store_of image d.store)
  pub kept : Kept image d.tree_end (map_of image d.store.tree)

-- The refusal 1 or 2.
pub record Shut (image : Bytes) (room : Bool) (e : Refusal) : Type 0 where
  pub alone : hands_back (number_of e) ≡ false
  pub broken : room ≡ true → (decode image ≡ none) × (number_of e ≡ 1)
  pub refused : (next : model.Store → Answer) → on_image image room next ≡ refusal (number_of e)

-- What `open_image` answers.
abbrev pub Opens : Bytes → Bool → Result Decoded Refusal → Type 0
Opens image room (Ok d) = Opened image room d
Opens image room (Err e) = Shut image room e

-- What lets a store's image be handed back: it has room, and the tree stands in the first `front` bytes (0 says nothing of it).
pub record ImageStands (src : Bytes) (s : Store) (tail : Tail) (front out : ℕ) : Type 0 where
  pub sound : SoundStore src s
  pub tail_sound : SoundTail src tail
  pub kept : Kept src front (map_of src s.tree)
  pub room : length (encode (with_tail src tail (store_of src s))) ≤ out

-- What lets a recording method's answer be handed on.
abbrev pub DoneStands : Bytes → Store → ℕ → Result Tail Refusal → Type 0
DoneStands src s front (Ok t) = SoundTail src t × Kept src front (map_of src s.tree)
DoneStands src s front (Err e) = hands_back (number_of e) ≡ false

pub record AnswerStands (src : Bytes) (r : Recorded) (front out : ℕ) : Type 0 where
  pub sound : SoundStore src r.storage.store
  pub done : DoneStands src r.storage.store front r.done
  pub room : length (outcome (outcome_of src r)).image ≤ out

-- The field of the step that was done last, as the n-th; none for n = 0.
unfoldable pub field_of : Bytes → Step → ℕ → Bytes
field_of src last n = if eqb n 0 then [] else step_field (step_of src last)

-- The answer of a step entry after n steps, by what is left of them.
unfoldable pub stepped : Bytes → Run → ℕ → Answer
stepped src r n = if eqb (left_of r.budget) 0 then record { number = 0; image = encode (store_of src r.store); step = field_of src r.last n } else refusal 16

-- What lets it be handed back: the image and the field have room.
pub record StepStands (src : Bytes) (r : Run) (n out step : ℕ) : Type 0 where
  pub sound : SoundStore src r.store
  pub last_sound : SoundStep src r.last
  pub room : left_of r.budget ≡ 0 → length (encode (store_of src r.store)) ≤ out
  pub step_room : left_of r.budget ≡ 0 → length (field_of src r.last n) ≤ step
