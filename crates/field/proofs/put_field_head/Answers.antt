-- `field::put_field_head` meets its contract: the tag, and the length behind it.
use mathlib.Core.Path.{refl}
use native.Mathlib.Omega.{arith}
use Rattle.basics.specs.Field.{little_endian}
use Rattle.field.proofs.Written.{written_then, written_none}
use Rattle.field.proofs.put_field_head.Goals as goal

pub returns-then-saturating_sub-ge3 : goal.returns-then-saturating_sub-ge3
unfolding little_endian
returns-then-saturating_sub-ge3 c = written_then _ _ _ _ _ c.put_u8.ensures c.put_u16.ensures refl (omega arith)

pub returns-else-saturating_sub-ge3 : goal.returns-else-saturating_sub-ge3
unfolding little_endian
returns-else-saturating_sub-ge3 c = written_none _ _ _ (omega arith)
