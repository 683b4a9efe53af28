-- `is_new_artifact`: by the operation's kind.
use mathlib.Core.Path.{sym, ap, ◌∙◌}
use mathlib.Core.Bool.{not, true≢false}
use Rattle.recovery.proofs.Artifacts.{write_new, marked-new, marked-stood, create_new, copy_new, copy_old, copy_existed, no_artifact}
use Rattle.recovery.proofs.is_new_artifact.Goals.{then-not-existed, else-not-existed}
use Rattle.recovery.proofs.is_new_artifact.Goals as goal

pub returns-then-dir_exists : goal.returns-then-dir_exists
returns-then-dir_exists c =
    elim c.if-not-existed.branch [
      | then-not-existed w ↦ rw c.in-CopyCollection.is (copy_new _ _ _ _ w.if-not-existed.true (sym w.dir_exists-then-not-existed.ensures ∙ sym w.value-is ∙ c.if-dir_exists.true) c.has_backup_dir.ensures)
      | else-not-existed w ↦ absurd (true≢false (sym c.if-dir_exists.true ∙ w.value-is ∙ ap not w.if-not-existed.false))
    ]

pub returns-else-dir_exists : goal.returns-else-dir_exists
returns-else-dir_exists c =
    c.if-dir_exists.false ∙ elim c.if-not-existed.branch [
      | then-not-existed w ↦ rw c.in-CopyCollection.is (copy_old _ _ _ _ w.if-not-existed.true (sym w.dir_exists-then-not-existed.ensures ∙ sym w.value-is ∙ c.if-dir_exists.false))
      | else-not-existed w ↦ rw c.in-CopyCollection.is (copy_existed _ _ _ _ w.if-not-existed.false)
    ]

pub returns-then-not-stood : goal.returns-then-not-stood
returns-then-not-stood c = rw c.in-MarkedWrite.is (marked-new _ _ _ _ _ c.if-not-stood.true c.is_new_file-then-not-stood.ensures)

pub returns-else-not-stood : goal.returns-else-not-stood
returns-else-not-stood c = ap not c.if-not-stood.false ∙ rw c.in-MarkedWrite.is (marked-stood _ _ _ _ _ c.if-not-stood.false)

pub returns-in-Write : goal.returns-in-Write
returns-in-Write c = rw c.in-Write.is (write_new _ _ _ _ c.is_new_file.ensures)

pub returns-in-CreateCollection : goal.returns-in-CreateCollection
returns-in-CreateCollection c = rw c.in-CreateCollection.is (create_new _ _ c.dir_exists.ensures)

pub returns-in-Delete : goal.returns-in-Delete
returns-in-Delete c = no_artifact c.args.src.now _ c.args.op c.in-Delete.in-Delete-own.keys5
