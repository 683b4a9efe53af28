-- `wal::append_operation` meets its contract: checksum, length and payload, one behind the other.
use mathlib.Core.Path.{ap, ◌∙◌}
use native.Mathlib.Omega.{arith}
use Rattle.basics.specs.Crc32.{crc32}
use Rattle.wal.proofs.Appended.{entry-written, entry-none, one_entry}
use Rattle.wal.proofs.append_operation.Goals as goal

pub returns-then-len-saturating_sub : goal.returns-then-len-saturating_sub
returns-then-len-saturating_sub c =
    let sum = c.hash.ensures.0 ∙ ap crc32 c.deref.ensures.0 in
    let bytes = rw c.deref-then-len-saturating_sub.ensures.0 at c.put_bytes.ensures in
    let size = rw (c.len.ensures.value, ← c.len-len.ensures.value) at c.put_u32-then-len-saturating_sub.ensures in
    one_entry c.args.src.now c.args.op c.in_ok-payload.ensures.0 c.in_ok-payload.ensures.1
    (entry-written _ _ _ _ c.len-len.ensures.value sum c.put_u32.ensures size bytes (omega arith))

pub returns-else-len-saturating_sub : goal.returns-else-len-saturating_sub
returns-else-len-saturating_sub c = one_entry c.args.src.now c.args.op c.in_ok-payload.ensures.0 c.in_ok-payload.ensures.1 (entry-none _ _ _ _ c.len-len.ensures.value (omega arith))
