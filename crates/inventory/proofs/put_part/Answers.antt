use native.Mathlib.Omega.{arith}
use Rattle.inventory.proofs.Names.{quoting, byte_quoted, all-quoted}
use Rattle.inventory.proofs.put_part.Goals as goal

pub loop-b-init : goal.loop-b-init
loop-b-init c = quoting

pub put_escaped-p-requires : goal.put_escaped-p-requires
put_escaped-p-requires c = omega (arith, c.loop-b.invariant.bound, c.loop-b.invariant.within)

pub loop-b-preserved : goal.loop-b-preserved
loop-b-preserved c = byte_quoted c.loop-b.invariant (omega arith) c.put_escaped-p.ensures

pub returns : goal.returns
returns c = all-quoted c.loop-b.invariant (omega arith)
