-- `answer_size` meets its contract.
use native.Mathlib.Omega.{arith}
use Rattle.listing.proofs.Shapes.{answer-length}
use Rattle.listing.proofs.answer_size.Goals as goal

pub returns : goal.returns
returns c = (omega arith, omega (arith, answer-length c.args.n))
