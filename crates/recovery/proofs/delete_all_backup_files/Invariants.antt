-- `delete_all_backup_files` walks through the listing of the directories.
use Rattle.model.specs.Store.{dirs}
use Rattle.model.specs.Plan.{remove_backups_in}
use Rattle.store.specs.Tables.{map_of}
use Rattle.recovery.proofs.Follow.{lawful}
use Rattle.recovery.proofs.Over.{Over}
use Rattle.fixed_vec.specs.FixedVec.{of_items}
use Rattle.recovery.proofs.delete_all_backup_files.Given as goal

abbrev pub invariant-loop-dir : goal.invariant-loop-dir
invariant-loop-dir l = Over lawful l.src remove_backups_in (of_items l.dir-items) (dirs (map_of l.src l.initial.run.store.tree)) l.initial.run l.run l.dir-index
