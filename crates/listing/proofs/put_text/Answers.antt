-- `put_text` meets its contract: the lines stand behind the number's.
use Rattle.listing.proofs.Placing.{no_room, all-written}
use Rattle.listing.proofs.put_text.Goals as goal

pub returns-then-out-n : goal.returns-then-out-n
returns-then-out-n c = no_room c.requires _ c.answer_size-a.ensures.1 c.lines_size.ensures _ c.if-out-n.true

pub returns : goal.returns
returns c = all-written c.requires _ c.answer_size-a.ensures.1 c.lines_size.ensures _ c.if-out-n.false c.put_answer.ensures c.put_lines.ensures
