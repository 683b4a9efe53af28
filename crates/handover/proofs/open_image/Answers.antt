-- `handover::open_image` meets its contract.
use Rattle.handover.proofs.Outputs.{opened}
use Rattle.handover.proofs.open_image.Goals as goal

pub returns-then-room : goal.returns-then-room
returns-then-room c = opened c.in-Some.ensures c.if-room.true
