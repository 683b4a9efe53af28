-- `encode::low` meets its contract.
use Rattle.encode.proofs.Tails.{low-bytes}
use Rattle.encode.proofs.low.Goals as goal

pub returns : goal.returns
returns c = low-bytes c.args.n
