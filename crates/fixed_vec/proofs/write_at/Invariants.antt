-- `write_at` meets its contract. The loop's invariant: so many elements are written, and the others stand.
use Rattle.std.specs.Prelude.{◌≡◌}
use Rattle.std.proofs.Math.Seq.{paste}
use Rattle.fixed_vec.proofs.write_at.Given as goal

abbrev pub invariant-loop-i : goal.invariant-loop-i
invariant-loop-i g l = l.cells ≡ paste l.initial.cells l.at l.xs l.i
