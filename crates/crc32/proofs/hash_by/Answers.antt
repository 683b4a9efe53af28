-- `crc32::hash_by` meets its contract: the register of all bytes, complemented. A slice's elements are bytes.
use native.Mathlib.Omega.{arith}
use Rattle.crc32.proofs.Register.{checksums}
use Rattle.crc32.proofs.hash_by.Goals as goal

pub returns : goal.returns
returns c = checksums _ (λ i. omega (arith, c.type_inv.s i)) c.feed.ensures
