-- `undo_operation`: by the operation's kind.
use Rattle.recovery.proofs.Follow.{lawful, stays, follows_as, rests}
use Rattle.recovery.proofs.Artifacts.{by-write, by-marked, by-stood, by_create, by_copy, by_existed, undoes-nothing}
use Rattle.recovery.proofs.undo_operation.Goals as goal

pub returns-then-run : goal.returns-then-run
returns-then-run c = rests c.if-run.true c.requires.0

pub returns-else-not-existed : goal.returns-else-not-existed
returns-else-not-existed c = stays lawful c.requires.0 (rw c.in-CopyCollection.is (by_existed _ _ _ _ c.if-not-existed.false))

pub returns-else-not-stood : goal.returns-else-not-stood
returns-else-not-stood c = stays lawful c.requires.0 (rw c.in-MarkedWrite.is (by-stood _ _ _ _ _ c.if-not-stood.false))

pub returns-in-Write : goal.returns-in-Write
returns-in-Write c = follows_as lawful c.undo_write.ensures (rw c.in-Write.is (by-write _ _ _ _))

pub returns-in-CreateCollection : goal.returns-in-CreateCollection
returns-in-CreateCollection c = follows_as lawful c.undo_create.ensures (rw c.in-CreateCollection.is (by_create _ _))

pub returns-then-not-existed : goal.returns-then-not-existed
returns-then-not-existed c = follows_as lawful c.undo_copy.ensures (rw c.in-CopyCollection.is (by_copy _ _ _ _ c.if-not-existed.true))

pub returns-then-not-stood : goal.returns-then-not-stood
returns-then-not-stood c = follows_as lawful c.undo_write-then-not-stood.ensures (rw c.in-MarkedWrite.is (by-marked _ _ _ _ _ c.if-not-stood.true))

pub returns-in-Delete : goal.returns-in-Delete
returns-in-Delete c = stays lawful c.requires.0 (undoes-nothing c.args.src.now _ c.args.op c.in-Delete.in-Delete-own.keys5)
