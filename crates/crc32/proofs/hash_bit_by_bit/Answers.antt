use mathlib.Core.Path.{refl}
use native.Mathlib.Omega.{arith}
use Rattle.crc32.proofs.Register.{feeding, fed, all-fed, checksums}
use Rattle.crc32.proofs.hash_bit_by_bit.Goals as goal

pub loop-b-init : goal.loop-b-init
loop-b-init c = feeding _ 0 _

pub loop-b-preserved : goal.loop-b-preserved
loop-b-preserved c = fed c.loop-b.invariant refl c.update_bit_by_bit-r.ensures (omega arith)

pub returns : goal.returns
returns c = checksums _ (λ i. omega (arith, c.type_inv.s i)) (all-fed c.loop-b.invariant (omega arith))
