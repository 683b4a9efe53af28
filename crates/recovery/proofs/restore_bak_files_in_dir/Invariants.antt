-- `restore_bak_files_in_dir` walks through the listing of the directory's files.
use Rattle.model.specs.Store.{files}
use Rattle.model.specs.Plan.{restore_file}
use Rattle.spans.specs.Spans.{name_of}
use Rattle.store.specs.Tables.{map_of}
use Rattle.recovery.proofs.Follow.{lawful}
use Rattle.recovery.proofs.Over.{Over}
use Rattle.fixed_vec.specs.FixedVec.{of_items}
use Rattle.recovery.proofs.restore_bak_files_in_dir.Given as goal

abbrev pub invariant-loop-file : goal.invariant-loop-file
invariant-loop-file l = Over lawful l.src (restore_file (name_of l.src l.dir)) (of_items l.file-items) (files (name_of l.src l.dir) (map_of l.src l.initial.run.store.tree)) l.initial.run l.run l.file-index
