-- `first_backup_file`: neither walk has met a backup yet.
use Prim.Native.Nat.{◌-◌}
use Rattle.model.specs.Store.{is_backup_file}
use lib.ListN.{length}
use Rattle.store.specs.Tables.{live}
use Rattle.recovery.proofs.Seek.{Seek, Inside}
use Rattle.recovery.proofs.search.first_backup_file.Given as goal

abbrev pub invariant-loop-i : goal.invariant-loop-i
invariant-loop-i l = Inside l.src l.t l.dir l.initial.i l.i

abbrev pub decreases-loop-i : goal.decreases-loop-i
decreases-loop-i l = length (live l.t) - l.i

abbrev pub invariant-directories : goal.invariant-directories
invariant-directories l = Seek is_backup_file l.src l.t l.i

abbrev pub decreases-directories : goal.decreases-directories
decreases-directories l = length (live l.t) - l.i
