use native.Mathlib.Omega.{arith}
use Rattle.crc32.proofs.Register.{shifting, shifted, all-shifted}
use Rattle.crc32.proofs.update_bit_by_bit.Goals as goal

pub loop-n-init : goal.loop-n-init
loop-n-init c = shifting _ _ c.from.ensures

pub loop-n-preserved : goal.loop-n-preserved
loop-n-preserved c = shifted c.loop-n.invariant c.shift_once-r.ensures (omega arith)

pub returns : goal.returns
returns c = all-shifted c.loop-n.invariant (omega arith)
