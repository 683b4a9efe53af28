-- `put_entry` meets its contract: the key is lent behind the collection, and the entry made of both.
use native.Mathlib.Omega.{arith}
use Rattle.key_set.proofs.Entry.{entry-short, one_entry}
use Rattle.key_set.proofs.put_entry.Goals as goal

pub lend_key-k-requires : goal.lend_key-k-requires
lend_key-k-requires c = let w = c.requires.0.roomy in (w.room, w.short)

pub overflow_add-result : goal.overflow_add-result
overflow_add-result c = let n = entry-short c.requires.0.roomy c.lend_key-k.ensures c.in_ok-a.was c.in_ok-b.was c.in_ok-append_operation.ensures in omega (arith, c.requires.1)

pub returns : goal.returns
returns c = λ collection w. one_entry w c.lend_key-k.ensures c.in_ok-a.was c.in_ok-b.was c.in_ok-append_operation.ensures
