-- `trace::put_said`: word, space, number, line feed.
use Rattle.trace.proofs.Saying.{unsaid, said_all}
use Rattle.trace.proofs.put_said.Goals as goal

pub returns-then-out-size : goal.returns-then-out-size
returns-then-out-size c =
    unsaid c.args.word.now c.args.n c.digits-k.ensures c.args.out.now c.if-out-size.true

pub returns : goal.returns
returns c =
    said_all c.args.word.now c.args.n c.digits-k.ensures c.args.out.now c.if-out-size.false c.put_bytes.ensures c.put_u8.ensures
    c.put_decimal.ensures c.put_u8-2.ensures
