-- A decoded store fits, and has an image for which there is room.
use Rattle.bench.proofs.Started.{started, image-room}
use Rattle.bench.proofs.read.Goals as goal

pub returns-clause-fits : goal.returns-clause-fits
returns-clause-fits c = started _ _ c.in_ok-d.ensures

pub returns-clause-room : goal.returns-clause-room
returns-clause-room c = image-room _ _ c.in_ok-d.ensures
