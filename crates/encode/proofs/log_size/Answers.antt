-- `encode::log_size` meets its contract.
use native.Mathlib.Omega.{arith}
use Rattle.encode.proofs.Counting.{no-log, plain-log, marked-log}
use Rattle.encode.proofs.log_size.Goals as goal

pub returns-in_default : goal.returns-in_default
returns-in_default c = no-log c.in_default.is

pub returns-in-Some-rewritten : goal.returns-in-Some-rewritten
returns-in-Some-rewritten c = marked-log c.in-Some.is c.from-n.ensures (omega arith) c.in-Some-rewritten.is c.saturating_sub.ensures

pub returns-in-None : goal.returns-in-None
returns-in-None c = plain-log c.in-Some.is c.from-n.ensures (omega arith) c.in-None.is
