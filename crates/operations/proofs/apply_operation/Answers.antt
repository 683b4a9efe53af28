-- `apply_operation`: by the operation's kind.
use mathlib.Core.Logic.{inl, inr}
use mathlib.Core.Option.{none, some}
use Rattle.basic_laws.specs.ValidNames.{valid-named}
use Rattle.steps.proofs.FileNames.{file-name}
use Rattle.recovery.proofs.Follow.{follows_as}
use Rattle.operations.proofs.Careful.{lawful, stopped}
use Rattle.operations.proofs.ByKind.{by-delete, by-delete-all, by_create, by-delete-collection}
use Rattle.operations.proofs.apply_operation.Goals as goal

pub returns-then-run : goal.returns-then-run
returns-then-run c = stopped c.requires.0 c.if-run.true

pub write-requires : goal.write-requires
write-requires c =
    elim c.in-Write.is [
      | inl e ↦ let o = rw e at c.requires.1 in (c.requires.0, (o.0.0, (file-name o.0.1.0 (valid-named _ o.1.1), o.0.1.1)))
      | inr e ↦ let o = rw e.1 at c.requires.1 in (c.requires.0, (o.0.0, (file-name o.0.1.0 (valid-named _ o.1.1), o.0.1.1)))
    ]

pub back_up_standing-requires : goal.back_up_standing-requires
back_up_standing-requires c = let o = rw c.in-Delete.is at c.requires.1 in (c.requires.0, (o.0.0, file-name o.0.1 (valid-named _ o.1.1)))

pub returns-in-Write : goal.returns-in-Write
returns-in-Write c =
    elim c.in-Write.is [
      | inl e ↦ rw e (c.write.ensures none)
      | inr e ↦ rw e.1 (c.write.ensures (some _))
    ]

pub returns-in-Delete : goal.returns-in-Delete
returns-in-Delete c = follows_as lawful c.back_up_standing.ensures (rw c.in-Delete.is (by-delete _ _ _))

pub returns-in-DeleteAll : goal.returns-in-DeleteAll
returns-in-DeleteAll c = follows_as lawful c.backup_all_files_in_dir.ensures (rw c.in-DeleteAll.is (by-delete-all _ _))

pub returns-in-CreateCollection : goal.returns-in-CreateCollection
returns-in-CreateCollection c = follows_as lawful c.make_missing.ensures (rw c.in-CreateCollection.is (by_create _ _))

pub returns-in-DeleteCollection : goal.returns-in-DeleteCollection
returns-in-DeleteCollection c = follows_as lawful c.back_up_standing_dir.ensures (rw c.in-DeleteCollection.is (by-delete-collection _ _))

pub returns-in-CopyCollection : goal.returns-in-CopyCollection
returns-in-CopyCollection c = rw c.in-CopyCollection.is (c.copy_collection.ensures _)
