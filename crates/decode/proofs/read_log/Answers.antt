-- `decode::read_log` meets its contract: no log, one that is too long, or the log.
use Rattle.decode.proofs.Single.{no-log, log-here}
use Rattle.decode.proofs.read_log.Goals as goal

pub returns-in_default : goal.returns-in_default
returns-in_default c = no-log c.requires.1 c.in_default.ensures

pub returns : goal.returns
returns c = log-here c.in-Some.ensures c.if-len-gt-LOG_LIMIT.false
