-- `shown::pending`: the image is read, whether work is left is told.
use Rattle.std.proofs.lemmas.Result.{err_from_is_err_and}
use Rattle.cda_storage.proofs.Pending.{pending-refused, pending-gives}
use Rattle.cda_storage.proofs.shown.pending.Goals as goal

pub returns-in_err-opened : goal.returns-in_err-opened
returns-in_err-opened c =
    let p = err_from_is_err_and c.from_residual.result c.from_residual.ensures.1 in
    rw (p.1, p.2) (pending-refused c.in_err-opened.ensures)

pub returns : goal.returns
returns c = pending-gives c.in_ok-opened.ensures c.has_pending_work.ensures
