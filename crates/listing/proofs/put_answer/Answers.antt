-- `put_answer` meets its contract.
use Rattle.listing.proofs.Shapes.{number-room, answer-written}
use Rattle.listing.proofs.put_answer.Goals as goal

pub put_number-requires : goal.put_number-requires
put_number-requires c = number-room _ c.args.out.now c.requires c.put_bytes.ensures

pub returns : goal.returns
returns c = answer-written _ _ c.requires c.put_bytes.ensures c.put_number.ensures
