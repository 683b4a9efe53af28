-- `wal::header_checksum` meets its contract: the three constants are computed.
use Rattle.basics.specs.Crc32.{add_polynomial, shift, shifts, feed_byte, register, crc32}
use Rattle.wal.proofs.header_checksum.Goals as goal

pub returns-in-Recording : goal.returns-in-Recording
unfolding crc32 register feed_byte shifts shift add_polynomial
returns-in-Recording c = rw c.in-Recording.is

pub returns-in-Committing : goal.returns-in-Committing
unfolding crc32 register feed_byte shifts shift add_polynomial
returns-in-Committing c = rw c.in-Committing.is

pub returns-in-Held : goal.returns-in-Held
unfolding crc32 register feed_byte shifts shift add_polynomial
returns-in-Held c = rw c.in-Held.is
