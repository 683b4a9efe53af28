-- `running::run`: by the plan.
use Rattle.running.proofs.Plans.{recoverable, keepable, recover_runs, revert_runs, keep_runs}
use Rattle.running.proofs.run.Goals as goal

pub recover-requires : goal.recover-requires
recover-requires c = recoverable c.requires

pub revert-requires : goal.revert-requires
revert-requires c = recoverable c.requires

pub keep-requires : goal.keep-requires
keep-requires c = keepable c.requires

pub returns-in-Recover : goal.returns-in-Recover
returns-in-Recover c = rw c.in-Recover.is (recover_runs c.args.image.now c.args.store c.args.budget c.recover.result c.recover.ensures c.map.result c.map.ensures.cases)

pub returns-in-Revert : goal.returns-in-Revert
returns-in-Revert c = rw c.in-Revert.is (revert_runs c.args.image.now c.args.store c.args.budget c.revert.result c.revert.ensures c.map-in-Revert.result c.map-in-Revert.ensures.cases)

pub returns-in-Keep : goal.returns-in-Keep
returns-in-Keep c = rw c.in-Keep.is (keep_runs c.args.image.now c.args.store c.args.budget c.keep.result c.keep.ensures c.map-in-Keep.result c.map-in-Keep.ensures.cases)
