-- `decode::decode` meets its contract.
use Rattle.decode.proofs.Whole.{too_long}
use Rattle.decode.proofs.decode.Goals as goal

pub returns-then-src-gt-IMAGE_ROOM : goal.returns-then-src-gt-IMAGE_ROOM
returns-then-src-gt-IMAGE_ROOM c = too_long _ c.if-src-gt-IMAGE_ROOM.true
