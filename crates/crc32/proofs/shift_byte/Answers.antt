-- `crc32::shift_byte` meets its contract: the table's number for the lowest byte.
use Rattle.crc32.proofs.Shifts.{byte_shifted}
use Rattle.crc32.proofs.shift_byte.Goals as goal

pub returns : goal.returns
returns c = byte_shifted c.args.c c.requires
