-- `crc32::hash_two` meets its contract. The loop's invariant: in each string the bytes that are left give the whole register.
use lib.ListN.{length}
use Rattle.basics.specs.Crc32.{register}
use Rattle.crc32.proofs.Register.{Feeding}
use Rattle.crc32.proofs.hash_two.Given as goal

abbrev pub invariant-loop-x : goal.invariant-loop-x
invariant-loop-x l = record {
  first : Feeding (register 0xFFFF_FFFF l.a) l.a (length l.yielded) l.c;
  second : Feeding (register 0xFFFF_FFFF l.b) l.b (length l.yielded) l.d;
}
