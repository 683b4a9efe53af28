-- `crc32::hash_bit_by_bit` meets its contract. The loop's invariant: the bytes that are left give the whole register. A slice's elements are bytes.
use Rattle.basics.specs.Crc32.{register}
use Rattle.crc32.proofs.Register.{Feeding}
use Rattle.crc32.proofs.hash_bit_by_bit.Given as goal

abbrev pub invariant-loop-b : goal.invariant-loop-b
invariant-loop-b l = Feeding (register 0xFFFF_FFFF l.s) l.s l.b-index l.r
