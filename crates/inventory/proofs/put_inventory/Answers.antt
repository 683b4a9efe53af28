-- `put_inventory` meets its contract.
use Rattle.inventory.proofs.Bridge.{walked-text, too_long, all-put}
use Rattle.inventory.proofs.put_inventory.Goals as goal

pub returns-then-out-size : goal.returns-then-out-size
returns-then-out-size c = too_long (walked-text _ c.requires.1 c.requires.0.sorted) c.put_text-size.ensures _ c.if-out-size.true

pub returns : goal.returns
returns c = all-put (walked-text _ c.requires.1 c.requires.0.sorted) c.put_text-size.ensures _ c.if-out-size.false c.put_text.ensures
