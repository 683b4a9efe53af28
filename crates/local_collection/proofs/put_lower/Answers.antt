-- `put_lower` meets its contract: both slices of the name in lower case, or neither.
use native.Mathlib.Omega.{arith}
use Rattle.basics.specs.Name.{lower}
use Rattle.paths.proofs.Lower.{length-lower}
use Rattle.spans.proofs.Written.{both-written, both-none}
use Rattle.local_collection.proofs.Lowered.{both-lowered}
use Rattle.local_collection.proofs.put_lower.Goals as goal

pub returns-then-part-baks : goal.returns-then-part-baks
returns-then-part-baks c =
    both-written _ _ (lower c.slices.result.0.now) (lower c.slices.result.1.now) _ _ (both-lowered _ _ c.slices.ensures.whole) c.normalize_key.ensures c.normalize_key-then-part-baks.ensures
    (omega (arith, length-lower c.slices.result.0.now)) (omega (arith, length-lower c.slices.result.0.now, length-lower c.slices.result.1.now))

pub returns-else-part-baks : goal.returns-else-part-baks
returns-else-part-baks c =
    both-none _ (lower c.slices.result.0.now) (lower c.slices.result.1.now) _ _ (both-lowered _ _ c.slices.ensures.whole) (omega (arith, length-lower c.slices.result.0.now, length-lower c.slices.result.1.now))
