-- `recording::ask_unnamed`: the image itself is lent, and no name.
use Rattle.std.proofs.lemmas.Result.{err_from_is_err_and}
use mathlib.Core.List.{[]}
use lib.ListN.{length}
use Rattle.recording.proofs.Lent.{alone}
use Rattle.recording.proofs.Given.{no_names, asks}
use Rattle.recording.proofs.Handed.{not_opened, hands_on, handed}
use Rattle.recording.proofs.ask_unnamed.Goals as goal

pub returns-in_err-opened : goal.returns-in_err-opened
returns-in_err-opened c =
    let p = err_from_is_err_and c.from_residual.result c.from_residual.ensures.1 in
    rw (p.1, p.2) (λ written. not_opened c.args.op [] [] [] c.args.image.now (length c.args.out.now) c.in_err-opened.ensures)

pub answer-r-requires : goal.answer-r-requires
answer-r-requires c =
    let h = c.in_ok-opened.ensures.held in
    asks (no_names (alone h.short) c.not_valid-none.ensures.0) h

pub hand_on-requires : goal.hand_on-requires
hand_on-requires c =
    let w = c.in_ok-opened.ensures in
    hands_on c.args.op [] [] [] c.args.image.now (length c.args.out.now) w (alone w.held.short) c.answer-r.ensures c.kept-front.ensures

pub returns : goal.returns
returns c written =
    let w = c.in_ok-opened.ensures in
    handed c.args.op [] [] [] c.args.image.now (length c.args.out.now) w (alone w.held.short) c.answer-r.ensures (c.hand_on.ensures written)
