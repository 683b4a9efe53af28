-- `encode::put_plain` meets its contract: tag and length, and the log.
use native.Mathlib.Omega.{arith}
use Rattle.encode.proofs.Placing.{plain-written, start_none}
use Rattle.encode.proofs.put_plain.Goals as goal

pub returns-then-log-saturating_sub : goal.returns-then-log-saturating_sub
returns-then-log-saturating_sub c = plain-written _ _ _ _ _ c.low.ensures c.put_field_head.ensures c.put_bytes.ensures (omega arith)

pub returns-else-log-saturating_sub : goal.returns-else-log-saturating_sub
returns-else-log-saturating_sub c = start_none _ _ _ _ (omega arith)
