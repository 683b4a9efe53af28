-- `open_log`: the status of the log's bytes, where one stands.
use mathlib.Core.Path.{subst}
use Rattle.store.specs.Stores.{AsRead}
use Rattle.recovery.proofs.Journals.{no-journal, log-part, opened}
use Rattle.recovery.proofs.open_log.Goals as goal

pub returns-in_default : goal.returns-in_default
returns-in_default c = rw c.in_default.is (no-journal c.args.src.now)

pub returns : goal.returns
returns c = rw c.in-Some.is (opened _ _ c.open_wal.result (subst AsRead c.in-Some.is c.requires.1) (rw (c.from-start.ensures, c.from.ensures, log-part c.args.src.now c.in-Some.l) at c.open_wal.ensures.journal))
