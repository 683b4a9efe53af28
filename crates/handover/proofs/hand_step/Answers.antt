-- `handover::hand_step` meets its contract.
use Rattle.std.specs.Prelude.{refl}
use Rattle.std.proofs.Common.{sym, ◌∙◌}
use Rattle.handover.proofs.Outputs.{step-left-alone, stepped-past, stepped-at, step_gives, is-left}
use Rattle.handover.proofs.hand_step.Goals as goal

pub returns-then-unwrap_or-ne0 : goal.returns-then-unwrap_or-ne0
returns-then-unwrap_or-ne0 c written step_written =
    step-left-alone refl (stepped-past c.args.src.now c.args.run.now c.args.n (λ z. c.if-unwrap_or-ne0.true (c.unwrap_or.ensures ∙ is-left c.args.run.now.budget ∙ z)))

pub returns : goal.returns
returns c written step_written =
    step_gives (stepped-at c.args.src.now c.args.run.now c.args.n (sym (is-left c.args.run.now.budget) ∙ sym c.unwrap_or.ensures ∙ c.if-unwrap_or-ne0.false)) c.hand_image-written.ensures c.hand_field-step_written.ensures
