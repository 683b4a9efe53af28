-- `field::put_u32` meets its contract: the library's bytes of a number are the definition's.
use Rattle.field.proofs.Numbers.{bytes-four}
use Rattle.field.proofs.put_u32.Goals as goal

pub returns : goal.returns
returns c = rw (← bytes-four c.args.n, ← c.to_le_bytes.ensures) c.put_bytes.ensures
