-- `crc32::update_bit_by_bit` meets its contract. The loop's invariant: the shifts that are left give the whole step.
use Rattle.crc32.proofs.Register.{Shifting}
use Rattle.crc32.proofs.update_bit_by_bit.Given as goal

abbrev pub invariant-loop-n : goal.invariant-loop-n
invariant-loop-n l = Shifting l.c l.b l._n l.r
