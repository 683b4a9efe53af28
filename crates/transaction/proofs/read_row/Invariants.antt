-- `transaction::read_row` meets its contract: a field a turn, against the row's tags.
use Rattle.transaction.proofs.Decode.{Matching}
use Rattle.transaction.proofs.read_row.Given as goal

abbrev pub invariant-loop-i : goal.invariant-loop-i
invariant-loop-i l = Matching l.s l.start l.row l.parts l.at l.i
