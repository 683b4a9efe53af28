-- `other_case` goes through the listing until it finds a key that is the given one in another case.
use Rattle.model.specs.Store.{files}
use Rattle.spans.specs.Spans.{name_of}
use Rattle.store.specs.Tables.{map_of}
use Rattle.local_collection.proofs.Listed.{Seeking}
use Rattle.fixed_vec.specs.FixedVec.{of_items}
use Rattle.local_collection.proofs.other_case.Given as goal

abbrev pub invariant-loop-file : goal.invariant-loop-file
invariant-loop-file l = Seeking l.src (of_items l.file-items) (files (name_of l.src l.fn.dir) (map_of l.src l.fn.t)) l.key l.file-index
