-- `move_up` meets its contract. The loop's invariant: what stood from a place on is moved up, and the rest stands.
use Rattle.std.specs.Prelude.{◌≡◌, ◌+◌, ◌≤◌}
use Rattle.fixed_vec.proofs.Cells.{spliced, raised}
use Rattle.fixed_vec.proofs.move_up.Given as goal

abbrev pub invariant-loop-i : goal.invariant-loop-i
invariant-loop-i g l = record {
  from : l.index ≤ l.i;
  moved : l.cells ≡ spliced l.initial.cells (raised l.initial.cells l.index l.len l.fn.x) (l.i + 1);
}
