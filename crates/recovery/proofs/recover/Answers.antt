-- `recover`: from the log as it stands.
use Rattle.recovery.proofs.Recovering.{as_it_stands}
use Rattle.recovery.proofs.recover.Goals as goal

pub returns : goal.returns
returns c = as_it_stands c.args.src.now c.args.store c.open_log-status.result c.open_log-status.ensures c.args.budget c.recover_from.result c.recover_from.ensures
