-- The contracts of the exported entries: what a call answers and what it leaves in the lent outputs, by the model's Answers alone.
use Rattle.std.specs.Prelude.{◌≡◌, Bool, ◌||◌, ℕ, length, eqb, if◌then◌else◌}
use Rattle.std.specs.Borrow.{Bor, MutBor}
use denote.Triple.Both.{Both}
use Rattle.basics.specs.Base.{Bytes}
use Rattle.answers.specs.Answers.{Answer, Pending, Broke, overwritten}

-- 01, Sixteen numbers: "A refusal gives its number alone; 14 and 15 also hand back the rolled-back image".
abbrev pub hands_back : ℕ → Bool
hands_back n = eqb n 0 || eqb n 14 || eqb n 15

-- 01, Sixteen numbers: "An answer says how many bytes were written". A refusal leaves the counter.
abbrev pub counted : ℕ → Bytes → ℕ → ℕ
counted number bytes before = if hands_back number then length bytes else before

-- Bytes written at the front of an output, and their count.
pub record Writes (bytes out out' : Bytes) (count : ℕ) : Type 0 where
  pub same : out' ≡ overwritten bytes out
  pub size : count ≡ length bytes

-- A call with one output: its number, the output and the counter of written bytes, each by an equation with the answer. `out` and `written` as
-- they were lent, `out'` and `written'` as they are handed back.
pub record Gives (a : Answer) (n : ℕ) (out out' : Bytes) (written written' : ℕ) : Type 0 where
  pub number : n ≡ a.number
  pub image : out' ≡ overwritten a.image out
  pub count : written' ≡ counted a.number a.image written

-- A call of a step entry: the same, and the same of the step output.
pub record StepGives (a : Answer) (n : ℕ) (out out' : Bytes) (written written' : ℕ) (step step' : Bytes) (step_written step_written' : ℕ) : Type 0 where
  pub given : Gives a n out out' written written'
  pub field : step' ≡ overwritten a.step step
  pub field_count : step_written' ≡ counted a.number a.step step_written

-- `cda_storage_has_pending_work`: 1 is yes, 0 is no.
pub record PendingGives (a : Pending) (n pending pending' : ℕ) : Type 0 where
  pub number : n ≡ a.number
  pub answer : pending' ≡ (if eqb a.number 0 then (if a.yes? then 1 else 0) else pending)

-- How the log broke is told where the number is 0; a refusal leaves `cause`.
pub record CauseGives (a : Broke) (n cause cause' : ℕ) : Type 0 where
  pub number : n ≡ a.number
  pub told : cause' ≡ (if eqb a.number 0 then a.cause else cause)

-- A part that is lent to a call to be read, and one that is lent to be written: as it was (`.entry`) and as it is handed back (`.exit`).
abbrev pub Shown : Type 0 → Type 0
Shown X = Both (Bor X) (Bor X)

abbrev pub Part : Type 0 → Type 0
Part X = Both (MutBor X) (MutBor X)

-- What was lent to be read; of a part that was lent to be written, what it was, how long it is, and what is handed back.
abbrev pub lent : {X : Type 0} → Shown X → X
lent p = p.entry.now

abbrev pub before : {X : Type 0} → Part X → X
before p = p.entry.now

abbrev pub room : Part Bytes → ℕ
room p = length (before p)

abbrev pub after : {X : Type 0} → Part X → X
after p = p.exit.now

-- What the contracts say: bytes were written at the front of an output and counted.
abbrev pub Written : Bytes → Part Bytes → Part ℕ → Type 0
Written bytes out written = Writes bytes (before out) (after out) (after written)

-- The call returns n and leaves the answer `a` in the parts that were lent to it.
abbrev pub Returns : Answer → ℕ → Part Bytes → Part ℕ → Type 0
Returns a n out written = Gives a n (before out) (after out) (before written) (after written)

abbrev pub StepReturns : Answer → ℕ → Part Bytes → Part ℕ → Part Bytes → Part ℕ → Type 0
StepReturns a n out written step step_written =
    StepGives a n (before out) (after out) (before written) (after written) (before step) (after step) (before step_written) (after step_written)

abbrev pub PendingReturns : Pending → ℕ → Part ℕ → Type 0
PendingReturns a n pending = PendingGives a n (before pending) (after pending)

abbrev pub CauseReturns : Broke → ℕ → Part ℕ → Type 0
CauseReturns a n cause = CauseGives a n (before cause) (after cause)
