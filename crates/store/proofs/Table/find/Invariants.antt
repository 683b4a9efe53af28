-- `find` halves the part in which the key can stand.
use Prim.Native.Nat.{◌-◌}
use Rattle.store.proofs.Search.{Search}
use Rattle.store.proofs.Table.find.Given as goal

abbrev pub invariant-loop-lo : goal.invariant-loop-lo
invariant-loop-lo l = Search l.src l.self l.dir l.file l.lo l.hi

abbrev pub decreases-loop-lo : goal.decreases-loop-lo
decreases-loop-lo l = l.hi - l.lo
