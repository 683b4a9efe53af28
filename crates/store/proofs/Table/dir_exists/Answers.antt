-- `dir_exists`: a directory stands at its name with the empty file name.
use Rattle.spans.proofs.Parts.{empty-name}
use Rattle.store.proofs.Table.dir_exists.Goals as goal

pub returns : goal.returns
returns c = rw (empty-name _).same at c.exists.ensures
