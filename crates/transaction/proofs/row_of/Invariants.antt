-- `transaction::row_of` meets its contract: a field a turn. What is written and what is left are the whole row.
use Rattle.transaction.proofs.Encode.{Writing}
use Rattle.transaction.proofs.row_of.Given as goal

abbrev pub invariant-loop-tag : goal.invariant-loop-tag
invariant-loop-tag l = Writing l.src l.fn.kind l.fn.values l.payload.items l.tag-iterator.a.rest.now l.tag-iterator.b.rest.now
