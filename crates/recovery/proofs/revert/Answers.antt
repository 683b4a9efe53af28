-- `revert`: from a Held log as from a Committing one.
use mathlib.Core.Path.{ap, ◌∙◌}
use Rattle.std.specs.Prelude.{Some}
use Rattle.recovery.proofs.Recovering.{reverts}
use Rattle.recovery.proofs.revert.Goals as goal

pub returns : goal.returns
returns c =
    reverts c.args.src.now c.args.store c.open_log.result c.open_log.ensures (c.in-Some-Held.is ∙ ap Some c.in-Some-Held.field-0-is) c.args.budget c.recover_from.result c.recover_from.ensures
