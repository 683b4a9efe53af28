-- `handover::hand_image` meets its contract.
use Rattle.encode.proofs.Image.{in_room_lem}
use Rattle.handover.proofs.hand_image.Goals as goal

pub returns : goal.returns
returns c =
    let e = in_room_lem c.encode.ensures c.requires.room in
    record { same = e.1; size = e.0 }
