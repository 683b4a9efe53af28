-- `without_dir` keeps the nodes of the other directories, in order.
use Rattle.store.proofs.Sweep.{Sweep}
use Rattle.store.proofs.Table.without_dir.Given as goal

abbrev pub invariant-loop-x : goal.invariant-loop-x
invariant-loop-x l = Sweep l.src l.self l.kept l.dir l.x-index
