-- `names::put_fronted_field` meets its contract: tag and length, the bytes in front, and the name behind them.
use mathlib.Core.Path.{refl}
use native.Mathlib.Omega.{arith}
use Rattle.names.proofs.Fields.{field-written, field-none}
use Rattle.names.proofs.put_fronted_field.Goals as goal

pub returns-then-n-saturating_sub : goal.returns-then-n-saturating_sub
returns-then-n-saturating_sub c = field-written c.requires.0 _ _ _ _ _ c.length_of.ensures.0 _ c.put_field_head.ensures c.put_bytes.ensures c.put_name.ensures refl (omega arith)

pub returns-else-n-saturating_sub : goal.returns-else-n-saturating_sub
returns-else-n-saturating_sub c = field-none c.requires.0 _ _ _ _ _ c.length_of.ensures.0 (omega arith)
