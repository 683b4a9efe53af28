-- `number_size` meets its contract.
use native.Mathlib.Omega.{arith}
use Rattle.listing.proofs.Shapes.{end-length}
use Rattle.listing.proofs.number_size.Goals as goal

pub returns : goal.returns
returns c = (omega arith, end-length c.digits.ensures)
