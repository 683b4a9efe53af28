-- `crc32::byte_table` meets its contract: one test, which the checker computes over the whole table.
use mathlib.Core.Path.{refl}
use Rattle.basics.specs.Crc32.{shifts, shift, add_polynomial}
use Rattle.crc32.specs.Table.{numbers_from, byte_table}
use Rattle.crc32.proofs.byte_table.Goals as goal

pub returns : goal.returns
unfolding byte_table numbers_from shifts shift add_polynomial
returns c = refl
