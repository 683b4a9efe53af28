-- `begin_transaction` meets its contract.
use Rattle.local_storage.proofs.Ends.{busy, still-held, begun}
use Rattle.local_storage.proofs.LocalStorage.begin_transaction.Goals as goal

pub returns-then-self : goal.returns-then-self
returns-then-self c = λ g. busy g c.if-self.true c.refuse.ensures

pub returns-then-is_held : goal.returns-then-is_held
returns-then-is_held c = λ g. still-held g c.if-self.false c.is_held.ensures c.if-is_held.true c.refuse-then-is_held.ensures

pub returns : goal.returns
returns c = λ g. begun g c.if-self.false c.is_held.ensures c.if-is_held.false
