-- `apply`: each arm does what its step does.
use Rattle.spans.proofs.Parts.{empty-name}
use Rattle.steps.proofs.Room.{room}
use Rattle.steps.proofs.Arms.{names_of}
use Rattle.steps.proofs.Applying.{marks, holds, unlogs, makes, renames, renames-dir, copies, removes, removes-dir, unstages, moves, syncs}
use Rattle.steps.proofs.Step.apply.Goals as goal

pub put_in-requires : goal.put_in-requires
put_in-requires c = ((c.requires.0.0.sound.tree, (names_of c.requires.0.1 c.in-MakeDirectory.is, (empty-name _).sound)), room c.requires.0.0.within)

pub rename_file-requires : goal.rename_file-requires
rename_file-requires c = (((c.requires.0.0.sound.tree, (names_of c.requires.0.1 c.in-RenameFile.is).0), ((names_of c.requires.0.1 c.in-RenameFile.is).1.0.sound, (names_of c.requires.0.1 c.in-RenameFile.is).1.1.sound)), room c.requires.0.0.within)

pub put_held-requires : goal.put_held-requires
put_held-requires c = ((c.requires.0.0.sound.tree, ((names_of c.requires.0.1 c.in-MoveStaged.is).1.0, (names_of c.requires.0.1 c.in-MoveStaged.is).1.1.sound)), room c.requires.0.0.within)

pub put_held-requires-in-CopyFile : goal.put_held-requires-in-CopyFile
put_held-requires-in-CopyFile c = ((c.requires.0.0.sound.tree, ((names_of c.requires.0.1 c.in-CopyFile.is).1.0, (names_of c.requires.0.1 c.in-CopyFile.is).1.1.sound)), room c.requires.0.0.within)

pub returns-in-RewriteHeader : goal.returns-in-RewriteHeader
returns-in-RewriteHeader c = marks c.requires c.in-RewriteHeader.is c.rewritten-store.ensures

pub returns-in-HoldHeader : goal.returns-in-HoldHeader
returns-in-HoldHeader c = holds c.requires c.in-HoldHeader.is c.rewritten-store-in-HoldHeader.ensures

pub returns-in-RemoveLog : goal.returns-in-RemoveLog
returns-in-RemoveLog c = unlogs c.requires c.in-RemoveLog.is

pub returns-in-MakeDirectory : goal.returns-in-MakeDirectory
returns-in-MakeDirectory c = makes c.requires c.in-MakeDirectory.is c.put_in.ensures

pub returns-in-RenameFile : goal.returns-in-RenameFile
returns-in-RenameFile c = renames c.requires c.in-RenameFile.is c.rename_file.ensures

pub returns-in-MoveStaged : goal.returns-in-MoveStaged
returns-in-MoveStaged c = moves c.requires c.in-MoveStaged.is c.look-held.ensures c.put_held.ensures c.del.ensures

pub returns-in-RenameDirectory : goal.returns-in-RenameDirectory
returns-in-RenameDirectory c = renames-dir c.requires c.in-RenameDirectory.is c.rename_dir.ensures

pub returns-in-CopyFile : goal.returns-in-CopyFile
returns-in-CopyFile c = copies c.requires c.in-CopyFile.is c.look-held-in-CopyFile.ensures c.put_held-in-CopyFile.ensures

pub returns-in-RemoveFile : goal.returns-in-RemoveFile
returns-in-RemoveFile c = removes c.requires c.in-RemoveFile.is c.del-in-RemoveFile.ensures

pub returns-in-RemoveDirectory : goal.returns-in-RemoveDirectory
returns-in-RemoveDirectory c = removes-dir c.requires c.in-RemoveDirectory.is c.remove_dir.ensures

pub returns-in-RemoveStaging : goal.returns-in-RemoveStaging
returns-in-RemoveStaging c = unstages c.requires c.in-RemoveStaging.is c.del-in-RemoveStaging.ensures

pub returns-in-SyncStaging : goal.returns-in-SyncStaging
returns-in-SyncStaging c = syncs c.requires c.in-SyncStaging.is
