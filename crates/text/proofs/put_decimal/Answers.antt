use native.Mathlib.Omega.{arith}
use Rattle.text.proofs.Decimal.{spelling, spelled-digit, all-spelled}
use Rattle.text.proofs.put_decimal.Goals as goal

pub loop-i-init : goal.loop-i-init
loop-i-init c = spelling _ _ c.digits-i.ensures c.requires

pub loop-i-preserved : goal.loop-i-preserved
loop-i-preserved c = spelled-digit c.loop-i.invariant c.loop-i-test.true c.last_digit.ensures

pub returns : goal.returns
returns c = all-spelled c.loop-i.invariant (omega arith)
