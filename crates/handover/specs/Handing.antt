-- What the functions behind the exported entries answer: how many bytes they wrote, or a refusal. The entries tell C of it by `Returns` (Contract).
use Rattle.std.specs.Prelude.{ℕ, Result, Ok, Err}
use Rattle.basics.specs.Base.{Bytes}
use Rattle.answers.specs.Answers.{Answer}
use Rattle.refusals.specs.Numbers.{told}
use Rattle.refusals.specs.declared.Refusal.{Refusal}
use Rattle.handover.specs.Contract.{Gives, StepGives, Part, before, after}

-- What is handed on where the work was done; a refusal leaves what was there.
abbrev pub handed : {A : Type 0} → Result A Refusal → A → A
handed (Ok value) was = value
handed (Err e) was = was

-- A call with one output, whatever the counter was.
abbrev pub Hands : Answer → Result ℕ Refusal → Part Bytes → Type 0
Hands a r out = (written : ℕ) → Gives a (told r) (before out) (after out) written (handed r written)

-- A call of a step entry.
abbrev pub StepHands : Answer → Result (ℕ × ℕ) Refusal → Part Bytes → Part Bytes → Type 0
StepHands a r out step =
    (written step_written : ℕ) → StepGives a (told r) (before out) (after out) written (handed r (written, step_written)).0 (before step) (after step) step_written (handed r (written, step_written)).1
