-- `crc32::update` meets its contract: what the byte is added to is shifted by eight places.
use Rattle.basics.specs.Crc32.{feed_byte}
use Rattle.crc32.proofs.update.Goals as goal

pub returns : goal.returns
unfolding feed_byte
returns c = rw c.from.ensures at c.shift_byte.ensures
