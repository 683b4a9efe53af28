-- `paths::normalize_key` meets its contract. The loop's invariant: so many bytes of the lowered key are written.
use Rattle.basics.specs.Name.{lower}
use Rattle.field.proofs.Written.{Pasting}
use Rattle.paths.proofs.normalize_key.Given as goal

abbrev pub invariant-loop-i : goal.invariant-loop-i
invariant-loop-i l = Pasting l.at (lower l.key) l.initial.out l.i l.out
