-- `copy_dir_contents` walks through the listing, and copies each file of the directory.
use Rattle.model.specs.Store.{files}
use Rattle.model.specs.Step.{copy_file}
use Rattle.spans.specs.Spans.{name_of}
use Rattle.store.specs.Tables.{map_of}
use Rattle.recovery.proofs.Over.{Over}
use Rattle.operations.proofs.Careful.{lawful}
use Rattle.operations.proofs.Each.{each}
use Rattle.fixed_vec.specs.FixedVec.{of_items}
use Rattle.operations.proofs.copy_dir_contents.Given as goal

abbrev pub invariant-loop-file : goal.invariant-loop-file
invariant-loop-file l = Over lawful l.src (each (copy_file (name_of l.src l.from) (name_of l.src l.to))) (of_items l.file-items) (files (name_of l.src l.from) (map_of l.src l.initial.run.store.tree)) l.initial.run l.run l.file-index
