-- `running::run_whole`: the image is read, the plan is run, what it leaves is handed back.
use Rattle.std.specs.Prelude.{length}
use Rattle.std.proofs.lemmas.Result.{err_from_is_err_and}
use Rattle.running.proofs.Handed.{not_opened, nothing-back, image-stands, handed}
use Rattle.running.proofs.run_whole.Goals as goal

pub returns-in_err-opened : goal.returns-in_err-opened
returns-in_err-opened c =
    let p = err_from_is_err_and c.from_residual.result c.from_residual.ensures.1 in
    rw (p.1, p.2) (λ written cause. not_opened c.args.p c.args.image.now (length c.args.out.now) c.in_err-opened.ensures)

pub returns-in_err-ran : goal.returns-in_err-ran
returns-in_err-ran c =
    let p = err_from_is_err_and c.from_residual-in_err-ran.result c.from_residual-in_err-ran.ensures.1 in
    rw (p.1, p.2) (λ written cause. nothing-back c.args.p c.args.image.now (length c.args.out.now) c.in_ok-opened.ensures c.in_err-ran.ensures)

pub hand_image-written-requires : goal.hand_image-written-requires
hand_image-written-requires c = image-stands c.args.p c.args.image.now (length c.args.out.now) c.in_ok-opened.ensures c.in_ok-ran.ensures

pub returns : goal.returns
returns c written cause = handed c.args.p c.args.image.now (length c.args.out.now) c.in_ok-opened.ensures c.in_ok-ran.ensures c.hand_image-written.ensures written cause
