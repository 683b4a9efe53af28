-- `crc32::feed` meets its contract. The loop's invariant: the bytes that are left give the whole register.
use Rattle.basics.specs.Crc32.{register}
use Rattle.crc32.proofs.Register.{Feeding}
use Rattle.crc32.proofs.feed.Given as goal

abbrev pub invariant-loop-b : goal.invariant-loop-b
invariant-loop-b l = Feeding (register l.c l.s) l.s l.b-index l.r
