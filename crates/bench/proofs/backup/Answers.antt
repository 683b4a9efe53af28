use Rattle.bench.proofs.Started.{backup-name}
use Rattle.bench.proofs.backup.Goals as goal

pub returns : goal.returns
returns c = backup-name _ _ _ c.backup.ensures
