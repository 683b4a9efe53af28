-- `encode::put_marked` meets its contract: tag and length, the header rewritten, the rest of the log.
use native.Mathlib.Omega.{arith}
use Rattle.encode.proofs.Placing.{behind-header, marked-written, marked-none}
use Rattle.encode.proofs.put_marked.Goals as goal

pub returns-then-rest-saturating_sub : goal.returns-then-rest-saturating_sub
returns-then-rest-saturating_sub c =
    marked-written c.args.log.now _ _ _ _ (behind-header c.args.log.now _ c.min.ensures) _ c.low.ensures c.put_field_head.ensures (rw c.from.ensures at c.rewrite_header.ensures) c.put_bytes.ensures (omega arith)

pub returns-else-rest-saturating_sub : goal.returns-else-rest-saturating_sub
returns-else-rest-saturating_sub c = marked-none c.args.log.now _ _ _ _ (behind-header c.args.log.now _ c.min.ensures) (omega arith)
