-- `put_in`: there is room, so it is the put of the map.
use Rattle.steps.proofs.Found.{put_as}
use Rattle.steps.proofs.put_in.Goals as goal

pub returns : goal.returns
returns c = put_as _ _ _ c.requires.1 c.put.ensures
