-- `put_dir` meets its contract.
use Rattle.inventory.proofs.Names.{dir-put}
use Rattle.inventory.proofs.put_dir.Goals as goal

pub returns : goal.returns
returns c = dir-put _ _ c.divider.ensures c.put-p.ensures c.put_quoted-q.ensures c.put.ensures
