-- `field::put_bytes` meets its contract. The loop's invariant: so many bytes are written, and the others stand.
use Rattle.field.proofs.Written.{Pasting}
use Rattle.field.proofs.put_bytes.Given as goal

abbrev pub invariant-loop-i : goal.invariant-loop-i
invariant-loop-i l = Pasting l.at l.s l.initial.out l.i l.out
