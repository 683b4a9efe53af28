-- `field::put_u16` meets its contract: the library's bytes of a number are the definition's.
use Rattle.field.proofs.Numbers.{bytes-two}
use Rattle.field.proofs.put_u16.Goals as goal

pub returns : goal.returns
returns c = rw (← bytes-two c.args.n, ← c.to_le_bytes.ensures) c.put_bytes.ensures
