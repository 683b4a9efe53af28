-- `decode::read_mark` meets its contract: no mark, one that holds bytes, or the mark.
use Rattle.decode.proofs.Single.{no-mark, mark-here, mark-long}
use Rattle.decode.proofs.read_mark.Goals as goal

pub returns-in_default : goal.returns-in_default
returns-in_default c = no-mark c.requires c.in_default.ensures

pub returns-then-x : goal.returns-then-x
returns-then-x c = mark-long c.in-Some.ensures c.if-x.true

pub returns : goal.returns
returns c = mark-here c.in-Some.ensures c.if-x.false
