-- `put_number` meets its contract.
use Rattle.inventory.proofs.Names.{number-room, number-none, number_put}
use Rattle.inventory.proofs.put_number.Goals as goal

pub returns-then-out-at : goal.returns-then-out-at
returns-then-out-at c = number-none c.digits-k.ensures c.if-out-at.true

pub put_decimal-requires : goal.put_decimal-requires
put_decimal-requires c = number-room c.digits-k.ensures _ _ c.if-out-at.false

pub returns : goal.returns
returns c = number_put c.digits-k.ensures c.put_decimal.ensures
