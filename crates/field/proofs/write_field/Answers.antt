-- `field::write_field` meets its contract: tag and length, and the value behind them.
use mathlib.Core.Path.{refl, sym}
use native.Mathlib.Omega.{arith}
use Rattle.field.proofs.Written.{field-written, field-none, field-long}
use Rattle.field.proofs.write_field.Goals as goal

pub returns-then-len-saturating_sub : goal.returns-then-len-saturating_sub
returns-then-len-saturating_sub c = field-written _ _ _ _ (omega arith) _ c.put_field_head.ensures c.put_bytes.ensures refl (omega arith)

pub returns-else-len-saturating_sub : goal.returns-else-len-saturating_sub
returns-else-len-saturating_sub c = field-none _ _ _ _ (omega arith) (omega arith)

pub returns-else-len-le65535 : goal.returns-else-len-le65535
returns-else-len-le65535 c = sym (field-long _ _ _ (omega arith))
