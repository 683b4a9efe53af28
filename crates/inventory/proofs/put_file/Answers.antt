-- `put_file` meets its contract.
use Rattle.inventory.proofs.Names.{file-put}
use Rattle.inventory.proofs.put_file.Goals as goal

pub returns : goal.returns
returns c = file-put _ _ _ c.divider.ensures c.put-p.ensures c.put_quoted-q.ensures c.put-r.ensures c.put_number.ensures
