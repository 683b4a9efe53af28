-- `recording::ask`: the image is read; a small one takes the small buffer.
use Rattle.std.proofs.lemmas.Result.{err_from_is_err_and}
use native.Mathlib.Omega.{arith}
use lib.ListN.{length}
use Rattle.recording.proofs.Lent.{has_room}
use Rattle.recording.proofs.Handed.{not_opened}
use Rattle.recording.proofs.ask.Goals as goal

pub returns-in_err-opened : goal.returns-in_err-opened
returns-in_err-opened c =
    let p = err_from_is_err_and c.from_residual.result c.from_residual.ensures.1 in
    rw (p.1, p.2) (λ written. not_opened c.args.op c.args.collection.now c.args.key.now c.args.other.now c.args.image.now (length c.args.out.now) c.in_err-opened.ensures)

pub ask_in-requires : goal.ask_in-requires
ask_in-requires c =
    let small = c.if-image-le-SMALL_IMAGE.true in
    record { opens = c.in_ok-opened.ensures; roomy = has_room {n = 2240} (omega arith) (omega arith) (omega arith) }

pub ask_in-requires-2 : goal.ask_in-requires-2
ask_in-requires-2 c = record { opens = c.in_ok-opened.ensures; roomy = has_room {n = 19582} (omega arith) (omega (arith, c.in_ok-opened.ensures.held.short)) (omega arith) }
