-- `shown::find_backup`: the image is read, the search's hit is written.
use Rattle.std.proofs.lemmas.Result.{err_from_is_err_and}
use mathlib.Core.Path.{refl}
use lib.ListN.{length}
use Rattle.cda_storage.proofs.Hits.{hit-refused, hit-asks, hit-gives}
use Rattle.cda_storage.proofs.shown.find_backup.Goals as goal

pub returns-in_err-opened : goal.returns-in_err-opened
returns-in_err-opened c =
    let p = err_from_is_err_and c.from_residual.result c.from_residual.ensures.1 in
    rw (p.1, p.2) (hit-refused c.args.image.now (length c.args.out.now) c.in_err-opened.ensures)

pub put_hit-requires : goal.put_hit-requires
put_hit-requires c = hit-asks c.args.image.now (length c.args.out.now) c.in_ok-opened.ensures c.find_backup-hit.ensures

pub returns : goal.returns
returns c = hit-gives c.args.image.now (length c.args.out.now) c.in_ok-opened.ensures c.find_backup-hit.ensures refl c.put_hit.ensures
