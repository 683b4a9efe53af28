-- `field::put_u8` meets its contract: one store.
use native.Mathlib.Omega.{arith}
use Rattle.field.proofs.Written.{stored, written_none}
use Rattle.field.proofs.put_u8.Goals as goal

pub returns-then-at-out : goal.returns-then-at-out
returns-then-at-out c = stored _ _ _ (omega arith) (omega arith)

pub returns-else-at-out : goal.returns-else-at-out
returns-else-at-out c = written_none _ _ _ (omega arith)
