-- `wal::encode_header` meets its contract: a status's header, or one made with the checksum of any byte.
use Rattle.wal.proofs.Appended.{header_made}
use Rattle.wal.proofs.encode_header.Goals as goal

pub returns : goal.returns
returns c = header_made _ _ c.hash.ensures.0 c.put_u32.ensures
