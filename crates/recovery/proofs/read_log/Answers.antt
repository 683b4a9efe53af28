-- `read_log` reads the bytes between the log's first and its end.
use Rattle.recovery.proofs.Journals.{read_none, read_whole}
use Rattle.recovery.proofs.read_log.Goals as goal

pub returns-in_default : goal.returns-in_default
returns-in_default c = rw c.in_default.is (read_none _ c.requires.1 c.read_wal.ensures)

pub returns : goal.returns
returns c = rw c.in-Some.is (read_whole _ _ (rw c.in-Some.is at c.requires.0) c.requires.1 (rw (c.from-start.ensures, c.from.ensures) at c.read_wal-2.ensures))
