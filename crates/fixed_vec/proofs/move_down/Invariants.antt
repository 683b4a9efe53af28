-- `move_down` meets its contract. The loop's invariant: the front has the element taken out, and the rest stands.
use Rattle.std.specs.Prelude.{◌≡◌, remove}
use Rattle.fixed_vec.proofs.Cells.{spliced}
use Rattle.fixed_vec.proofs.move_down.Given as goal

abbrev pub invariant-loop-i : goal.invariant-loop-i
invariant-loop-i g l = l.cells ≡ spliced (remove l.initial.cells l.index) l.initial.cells l.i
