-- `files` lists from the directory's first file on, until another directory's node or the end.
use Prim.Native.Nat.{◌+◌}
use Rattle.store.proofs.Listing.{Filing}
use Rattle.store.proofs.Table.files.Given as goal

abbrev pub invariant-loop-x : goal.invariant-loop-x
invariant-loop-x l = Filing l.src l.self l.dir l.names (l.from + l.x-index)
