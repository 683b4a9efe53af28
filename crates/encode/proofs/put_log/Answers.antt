-- `encode::put_log` meets its contract: no log, one with the header rewritten, or the log.
use Rattle.encode.proofs.Placing.{log-none, log-rewritten, log-copied}
use Rattle.encode.proofs.put_log.Goals as goal

pub returns-in_default : goal.returns-in_default
returns-in_default c = log-none _ c.in_default.is _ _ _

pub returns-in-Some-rewritten : goal.returns-in-Some-rewritten
returns-in-Some-rewritten c = log-rewritten _ c.in-Some.is c.from-start.ensures c.from.ensures _ _ _ c.in-Some-rewritten.is c.put_marked.ensures

pub returns-in-None : goal.returns-in-None
returns-in-None c = log-copied _ c.in-Some.is c.from-start.ensures c.from.ensures _ _ _ c.in-None.is c.put_plain.ensures
