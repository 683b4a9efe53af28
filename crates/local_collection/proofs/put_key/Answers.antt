-- `put_key` meets its contract: tag and length, and the name in lower case behind them.
use Rattle.local_collection.proofs.Lowered.{key-written, key-none}
use native.Mathlib.Omega.{arith}
use Rattle.local_collection.proofs.put_key.Goals as goal

pub returns-then-saturating_sub-n : goal.returns-then-saturating_sub-n
returns-then-saturating_sub-n c = key-none c.requires _ _ _ c.length_of-n.ensures.0 (omega arith)

pub returns : goal.returns
returns c = key-written c.requires _ _ _ c.length_of-n.ensures.0 c.put_field_head.ensures c.put_lower.ensures (omega arith)
