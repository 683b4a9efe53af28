-- `crc32::shift_once` meets its contract: the bit that falls out is the test's.
use mathlib.Core.Path.{◌≡◌}
use Prim.Native.Nat.{◌%◌}
use native.Mathlib.Omega.{arith}
use Rattle.basics.specs.Crc32.{shift, add_polynomial}
use Rattle.crc32.proofs.shift_once.Goals as goal

pub returns-then-c-eq1 : goal.returns-then-c-eq1
unfolding shift add_polynomial
returns-then-c-eq1 c = rw c.if-c-eq1.true

pub returns-else-c-eq1 : goal.returns-else-c-eq1
unfolding shift add_polynomial
returns-else-c-eq1 c = let even : c.args.c % 2 ≡ 0 = omega (arith, c.if-c-eq1.false) in rw even
