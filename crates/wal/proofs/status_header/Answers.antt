-- `wal::status_header` meets its contract.
use Rattle.wal.proofs.Appended.{header_made}
use Rattle.wal.proofs.status_header.Goals as goal

pub returns : goal.returns
returns c = header_made _ _ c.header_checksum.ensures (rw c.from.ensures at c.put_u32.ensures)
