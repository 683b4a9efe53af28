-- `backup_all_files_in_dir` walks through the listing, and backs up each file of the directory.
use Rattle.model.specs.Store.{files}
use Rattle.spans.specs.Spans.{name_of}
use Rattle.store.specs.Tables.{map_of}
use Rattle.recovery.proofs.Over.{Over}
use Rattle.operations.proofs.Careful.{lawful}
use Rattle.operations.proofs.Each.{each, back_up_file}
use Rattle.fixed_vec.specs.FixedVec.{of_items}
use Rattle.operations.proofs.backup_all_files_in_dir.Given as goal

abbrev pub invariant-loop-file : goal.invariant-loop-file
invariant-loop-file l = Over lawful l.src (each (back_up_file (name_of l.src l.dir))) (of_items l.file-items) (files (name_of l.src l.dir) (map_of l.src l.initial.run.store.tree)) l.initial.run l.run l.file-index
