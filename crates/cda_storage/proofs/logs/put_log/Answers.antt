-- `cda_storage::logs::put_log`: the header, then the bytes behind it.
use Rattle.basics.specs.Status.{status_byte}
use Rattle.cda_storage.proofs.CanonicalLogs.{log-put}
use Rattle.cda_storage.proofs.logs.put_log.Goals as goal

pub returns : goal.returns
returns c =
    log-put (status_byte c.args.status) c.args.log.now c.args.out.now c.requires.0 c.requires.1
    (rw c.from.ensures at c.rewrite_header.ensures) c.put_bytes.ensures
