-- `sync_collection_dirs`: the operations from i on are left.
use Rattle.commit.proofs.Namings.{Syncing}
use Rattle.commit.proofs.sync_collection_dirs.Given as goal

abbrev pub invariant-loop-i : goal.invariant-loop-i
invariant-loop-i l = Syncing l.src l.ops l.initial.run l.run l.i
