-- The step count over calls of the exported step entry: item 13 of document 02. Words are those of crate cut_rule, Demand.antt; a call is what its contract
-- says (Calls.antt).
use Rattle.std.specs.Prelude.{◌≡◌, List, ℕ, leb, if◌then◌else◌}
use Rattle.std.proofs.Common.{sym, ap, ◌∙◌}
use Rattle.basics.specs.Order.{Name}
use Rattle.basics.specs.Base.{Bytes}
use Rattle.model.specs.Operation.{Write}
use Rattle.model.specs.Store.{Store}
use Rattle.answers.specs.Answers.{Answer}
use Rattle.cut_rule.specs.Demand.{TrueMarks, ListedOnce, step_count}
use Rattle.cut_rule.proofs.Count.{step-count-at}
use Rattle.cda_storage.specs.Calls.{CommitStepCall, step-roomy}
use Rattle.cda_storage.specs.CutRule.{Transaction, done-not_2, conditions}

-- Every call of the step entry at a number k answers 2 for too little room, else 0 for k up to 6 + w + 2b + c + s and 16 above it.
abbrev pub StepCountOfEntries : Type 0
StepCountOfEntries =
    (image : Bytes) (s : Store) (ws : List Write) (cs : List Name) (k n : ℕ) → Transaction image s ws → TrueMarks s.tree ws → ListedOnce cs ws →
    CommitStepCall k image n → (n ≡ 2 → ⊥) → n ≡ (if leb k (step_count s ws cs) then 0 else 16)

pub step-count-of-entries : StepCountOfEntries
step-count-of-entries image s ws cs k n t m l c room =
    c.gives.given.number ∙ sym (ap (λ (a : Answer). a.number) (step-roomy k image c room)) ∙ step-count-at image s ws cs k (conditions done-not_2 t) m l
