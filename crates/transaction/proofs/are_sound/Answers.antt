-- `transaction::are_sound` meets its contract: the first name decides, or the second.
use Rattle.spans.proofs.Sounds.{first_decides, second_decides}
use Rattle.transaction.proofs.are_sound.Goals as goal

pub returns-then-is_sound : goal.returns-then-is_sound
returns-then-is_sound c = second_decides c.is_sound.ensures c.if-is_sound.true c.is_sound-then-is_sound.ensures

pub returns-else-is_sound : goal.returns-else-is_sound
returns-else-is_sound c = first_decides c.is_sound.ensures c.if-is_sound.false
