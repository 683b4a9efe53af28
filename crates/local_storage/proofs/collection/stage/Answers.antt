-- `stage` meets its contract.
use Rattle.spans.proofs.Parts.{empty-name}
use Rattle.local_storage.proofs.Stagings.{added}
use Rattle.local_storage.proofs.collection.stage.Goals as goal

pub returns : goal.returns
returns c = λ g. added (empty-name _) g c.requires.1 c.put.ensures
