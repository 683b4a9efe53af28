-- `put` meets its contract.
use mathlib.Core.Path.{refl}
use native.Mathlib.Omega.{arith}
use Rattle.inventory.proofs.Parts.{put}
use Rattle.inventory.proofs.put.Goals as goal

pub returns : goal.returns
returns c = (put c.put_bytes.ensures refl, omega arith)
