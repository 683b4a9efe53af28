-- `rename_dir` puts the nodes of the directory in under the new name.
use Rattle.store.proofs.Rename.{Renaming}
use Rattle.store.proofs.Table.rename_dir.Given as goal

abbrev pub invariant-loop-x : goal.invariant-loop-x
invariant-loop-x l = Renaming l.src l.fn.self l.self l.from l.to l.x-index
