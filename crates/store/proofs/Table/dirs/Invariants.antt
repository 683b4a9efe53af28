-- `dirs` lists the nodes that are a directory's own.
use Rattle.store.proofs.Listing.{Dirs}
use Rattle.store.proofs.Table.dirs.Given as goal

abbrev pub invariant-loop-x : goal.invariant-loop-x
invariant-loop-x l = Dirs l.self l.names l.x-index
