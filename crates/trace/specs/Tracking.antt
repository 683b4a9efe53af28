-- What the library knows of a trace, some bytes in.
use Rattle.std.specs.Prelude.{◌≡◌, ◌++◌, ℕ, suc, ◌+◌, ◌≤◌, ◌<◌, length, take}
use Rattle.basics.specs.Limits.{image_room, step_room}
use Rattle.basics.specs.Base.{Bytes, if_empty}
use Rattle.answers.specs.Answers.{Answer, refusal, commit_step}
use Rattle.refusals.specs.Numbers.{number_of}
use Rattle.trace.specs.Line.{differs_line, answer_line, line_from}
use Rattle.trace.specs.declared.Trace.{Trace}
use Rattle.trace.specs.declared.Trace.TheVariants.{Refused, Along, Differs}

-- What `commit_step` answers for the step behind n.
abbrev pub step_behind : Bytes → ℕ → Answer
step_behind image n = commit_step (suc n) image image_room step_room

-- How many steps were met; none where the commit is refused.
abbrev pub steps_of : Trace → ℕ
steps_of (Refused r) = 0
steps_of (Along n f m) = n
steps_of (Differs n f m) = n

-- The line, if these bytes follow.
abbrev pub told : Bytes → Trace → Bytes → Bytes
told image (Refused r) l = answer_line (number_of r)
told image (Along n f m) l = line_from image n (take m f.items ++ l)
told image (Differs n f m) l = differs_line (suc n)

-- The step behind n has this field, and it was not met whole; past the plan's end, which 16 tells, no step is behind n, and no field.
pub record Due (image : Bytes) (n : ℕ) (field : Bytes) (met : ℕ) : Type 0 where
  pub number : (step_behind image n).number ≡ if_empty field 16 0
  pub same : field ≡ (step_behind image n).step
  pub inside : 0 < met → met < length field

-- What is known of a trace beside its line. A commit that is refused is refused so whatever step is asked for.
abbrev pub Stands : Bytes → Trace → Type 0
Stands image (Refused r) = (n : ℕ) → step_behind image n ≡ refusal (number_of r)
Stands image (Along n f m) = Due image n f.items m
Stands image (Differs n f m) = Due image n f.items m

-- The bytes b were met behind the image: whatever follows, the line is known by the trace.
pub record Tracks (image b : Bytes) (t : Trace) : Type 0 where
  pub stands : Stands image t
  pub line : (l : Bytes) → line_from image 0 (b ++ l) ≡ told image t l

-- A trace before the first byte of the step behind n: it tracks any bytes behind which the line is that of n steps that were met.
pub record Fresh (image : Bytes) (n : ℕ) (t : Trace) : Type 0 where
  pub steps : steps_of t ≤ n
  pub tracks : (b : Bytes) → ((l : Bytes) → line_from image 0 (b ++ l) ≡ line_from image n l) → Tracks image b t

-- What comes of a trace by some bytes.
pub record Goes (image part : Bytes) (t r : Trace) : Type 0 where
  pub steps : steps_of r ≤ steps_of t + length part
  pub tracks : (b : Bytes) → Tracks image b t → Tracks image (b ++ part) r
