-- `transaction::operation_of` meets its contract, arm by arm.
use Rattle.transaction.proofs.Arms.{makes}
use Rattle.transaction.proofs.operation_of.Goals as goal

pub returns-in-Write : goal.returns-in-Write
returns-in-Write c = rw c.in-Write.is (makes _ c.requires)

pub returns-in-Delete : goal.returns-in-Delete
returns-in-Delete c = rw c.in-Delete.is (makes _ c.requires)

pub returns-in-DeleteAll : goal.returns-in-DeleteAll
returns-in-DeleteAll c = rw c.in-DeleteAll.is (makes _ c.requires)

pub returns-in-CreateCollection : goal.returns-in-CreateCollection
returns-in-CreateCollection c = rw c.in-CreateCollection.is (makes _ c.requires)

pub returns-in-DeleteCollection : goal.returns-in-DeleteCollection
returns-in-DeleteCollection c = rw c.in-DeleteCollection.is (makes _ c.requires)

pub returns-in-CopyCollection : goal.returns-in-CopyCollection
returns-in-CopyCollection c = rw (c.in-CopyCollection.is, c.is_marked.ensures) (makes _ c.requires)

pub returns-in-MarkedWrite : goal.returns-in-MarkedWrite
returns-in-MarkedWrite c = rw (c.in-MarkedWrite.is, c.is_marked-in-MarkedWrite.ensures) (makes _ c.requires)
