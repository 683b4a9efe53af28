-- `keys::list`: the image is read; a small one takes the small buffer.
use Rattle.std.proofs.lemmas.Result.{err_from_is_err_and}
use native.Mathlib.Omega.{arith}
use lib.ListN.{length}
use Rattle.recording.proofs.Lent.{has_room}
use Rattle.cda_storage.proofs.Listed.{keys-refused}
use Rattle.cda_storage.proofs.keys.list.Goals as goal

pub returns-in_err-opened : goal.returns-in_err-opened
returns-in_err-opened c =
    let p = err_from_is_err_and c.from_residual.result c.from_residual.ensures.1 in
    rw (p.1, p.2) (keys-refused c.args.collection.now c.args.image.now (length c.args.out.now) c.in_err-opened.ensures)

pub list_in-requires : goal.list_in-requires
list_in-requires c =
    let small = c.if-image-le-SMALL_IMAGE.true in
    record { opens = c.in_ok-opened.ensures; roomy = has_room {n = 2240} (omega arith) (omega arith) (omega arith) }

pub list_in-requires-2 : goal.list_in-requires-2
list_in-requires-2 c = record { opens = c.in_ok-opened.ensures; roomy = has_room {n = 19582} (omega arith) (omega (arith, c.in_ok-opened.ensures.held.short)) (omega arith) }
