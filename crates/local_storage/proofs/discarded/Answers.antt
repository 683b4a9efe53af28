-- `discarded` meets its contract.
use Rattle.local_storage.proofs.Ends.{all-gone}
use Rattle.local_storage.proofs.discarded.Goals as goal

pub returns : goal.returns
returns c = λ src. all-gone src c.new.ensures
