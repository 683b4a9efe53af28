-- `put_escaped` meets its contract.
use Rattle.inventory.proofs.Parts.{as_text}
use Rattle.inventory.proofs.Names.{escaped_quote, escaped-plain}
use Rattle.inventory.proofs.put_escaped.Goals as goal

pub returns-then-b-eq34 : goal.returns-then-b-eq34
returns-then-b-eq34 c = (as_text (escaped_quote _ c.if-b-eq34.true) c.put.ensures.0, c.put.ensures.1)

pub returns : goal.returns
returns c = (as_text (escaped-plain _ c.if-b-eq34.false) c.put-2.ensures.0, c.put-2.ensures.1)
