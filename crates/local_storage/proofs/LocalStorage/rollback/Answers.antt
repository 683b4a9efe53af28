-- `rollback` meets its contract.
use mathlib.Core.Path.{◌∙◌}
use Rattle.local_storage.proofs.Ends.{not_open, rolled_back}
use Rattle.local_storage.proofs.LocalStorage.rollback.Goals as goal

pub returns-then-is_none : goal.returns-then-is_none
returns-then-is_none c = λ g. not_open g c.open_transaction.ensures (c.is_none.ensures ∙ rw c.if-is_none.true) c.refuse.ensures

pub returns : goal.returns
returns c = λ g. rolled_back g c.open_transaction.ensures (c.is_none.ensures ∙ rw c.if-is_none.false) (c.discarded.ensures _)
