-- `running::run_steps`: the same, of the first n steps.
use Rattle.std.specs.Prelude.{length}
use Rattle.std.proofs.lemmas.Result.{err_from_is_err_and}
use Rattle.running.proofs.Handed.{steps-not-opened, no-steps-back, step-stands, steps-handed}
use Rattle.running.proofs.run_steps.Goals as goal

pub returns-in_err-opened : goal.returns-in_err-opened
returns-in_err-opened c =
    let p = err_from_is_err_and c.from_residual.result c.from_residual.ensures.1 in
    rw (p.1, p.2) (λ written step_written. steps-not-opened c.args.p c.args.n c.args.image.now (length c.args.out.now) (length c.args.step.now) (rw c.has_room.ensures at c.in_err-opened.ensures))

pub returns-in_err-ran : goal.returns-in_err-ran
returns-in_err-ran c =
    let p = err_from_is_err_and c.from_residual-in_err-ran.result c.from_residual-in_err-ran.ensures.1 in
    rw (p.1, p.2)
    (λ written step_written. no-steps-back c.args.p c.args.n c.args.image.now (length c.args.out.now) (length c.args.step.now) (rw c.has_room.ensures at c.in_ok-opened.ensures) c.in_err-ran.ensures)

pub hand_step-requires : goal.hand_step-requires
hand_step-requires c =
    step-stands c.args.p c.args.n c.args.image.now (length c.args.out.now) (length c.args.step.now) (rw c.has_room.ensures at c.in_ok-opened.ensures) c.in_ok-ran.ensures

pub returns : goal.returns
returns c written step_written =
    steps-handed c.args.p c.args.n c.args.image.now (length c.args.out.now) (length c.args.step.now) (rw c.has_room.ensures at c.in_ok-opened.ensures) c.in_ok-ran.ensures (c.hand_step.ensures written step_written)
