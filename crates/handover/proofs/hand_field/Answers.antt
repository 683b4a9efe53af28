-- `handover::hand_field` meets its contract.
use Rattle.handover.proofs.Outputs.{no_field, field-written}
use Rattle.handover.proofs.hand_field.Goals as goal

pub returns-then-n-eq0 : goal.returns-then-n-eq0
returns-then-n-eq0 c =
    no_field c.args.src.now c.args.last c.args.n c.args.step.now c.if-n-eq0.true

pub returns : goal.returns
returns c =
    field-written c.args.src.now c.args.last c.args.n c.if-n-eq0.false c.requires.1 c.write_step.ensures
