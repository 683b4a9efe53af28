-- `encode::put_header` meets its contract.
use Rattle.encode.proofs.Tails.{new-header}
use Rattle.encode.proofs.put_header.Goals as goal

pub returns : goal.returns
returns c = new-header _ _ (rw c.from.ensures at c.encode_header.ensures) c.write_field.ensures
