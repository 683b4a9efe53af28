-- `put_keys` goes through the listing and writes a field for each key.
use Rattle.model.specs.Store.{files}
use Rattle.spans.specs.Spans.{name_of}
use Rattle.store.specs.Tables.{map_of}
use Rattle.local_collection.proofs.Listed.{Listing}
use Rattle.fixed_vec.specs.FixedVec.{of_items}
use Rattle.local_collection.proofs.put_keys.Given as goal

abbrev pub invariant-loop-file : goal.invariant-loop-file
invariant-loop-file l = Listing l.src (of_items l.file-items) (files (name_of l.src l.fn.dir) (map_of l.src l.fn.t)) l.initial.out l.out l.at l.file-index
