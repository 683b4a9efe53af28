-- `recording::answer`: by what is asked.
use Rattle.local_storage.proofs.Givens.{given-key, given-write}
use Rattle.recording.proofs.Given.{given-asks, given-file}
use Rattle.recording.proofs.answer.Goals as goal

pub write-requires : goal.write-requires
write-requires c =
    let w = c.requires in
    (w.ready, (given-asks _ _ _ w.collection, (given-asks _ _ _ w.key, given-asks _ _ _ w.other)))

pub delete-requires : goal.delete-requires
delete-requires c =
    let w = c.requires in
    ((w.ready, w.within), (given-asks _ _ _ w.collection, given-file _ _ _ w.key))

pub delete_all-requires : goal.delete_all-requires
delete_all-requires c =
    let w = c.requires in
    (w.ready.readable, given-asks _ _ _ w.collection)

pub create_collection-requires : goal.create_collection-requires
create_collection-requires c =
    let w = c.requires in
    (w.ready, given-asks _ _ _ w.collection)

pub delete_collection-requires : goal.delete_collection-requires
delete_collection-requires c =
    let w = c.requires in
    (w.ready, given-asks _ _ _ w.collection)

pub copy_collection-requires : goal.copy_collection-requires
copy_collection-requires c =
    let w = c.requires in
    (w.ready, (given-asks _ _ _ w.collection, given-asks _ _ _ w.other))

pub returns-in-Begin : goal.returns-in-Begin
returns-in-Begin c = rw c.in-Begin.is (c.begin_transaction.ensures c.requires.ready.sound)

pub returns-in-Write : goal.returns-in-Write
returns-in-Write c = rw c.in-Write.is (c.write.ensures c.args.collection.now c.args.key.now c.args.other.now (given-write _ _ _ _ _ _ _ c.requires.collection c.requires.key c.requires.other))

pub returns-in-Delete : goal.returns-in-Delete
returns-in-Delete c = rw c.in-Delete.is (c.delete.ensures c.args.collection.now c.args.key.now (given-key _ _ _ _ _ c.requires.collection c.requires.key))

pub returns-in-DeleteAll : goal.returns-in-DeleteAll
returns-in-DeleteAll c = rw c.in-DeleteAll.is (c.delete_all.ensures c.requires.ready.sound c.args.collection.now c.requires.collection)

pub returns-in-CreateCollection : goal.returns-in-CreateCollection
returns-in-CreateCollection c = rw c.in-CreateCollection.is (c.create_collection.ensures c.args.collection.now c.requires.collection)

pub returns-in-DeleteCollection : goal.returns-in-DeleteCollection
returns-in-DeleteCollection c = rw c.in-DeleteCollection.is (c.delete_collection.ensures c.args.collection.now c.requires.collection)

pub returns-in-CopyCollection : goal.returns-in-CopyCollection
returns-in-CopyCollection c = rw c.in-CopyCollection.is (c.copy_collection.ensures c.args.collection.now c.args.other.now c.requires.collection c.requires.other)

pub returns-in-Rollback : goal.returns-in-Rollback
returns-in-Rollback c = rw c.in-Rollback.is (c.rollback.ensures c.requires.ready.sound)
