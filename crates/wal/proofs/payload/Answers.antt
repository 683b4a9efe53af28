-- `wal::payload` meets its contract.
use mathlib.Core.Path.{refl}
use Rattle.wal.proofs.Heads.{got}
use Rattle.wal.proofs.payload.Goals as goal

pub returns : goal.returns
returns c = rw c.unwrap_or.ensures (got c.args.log.now c.args.start c.args.end c.get.result _ refl c.get.ensures.lookup)
