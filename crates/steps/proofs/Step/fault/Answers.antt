-- `fault`: each arm tells what its step fails with.
use mathlib.Core.Path.{sym, ◌∙◌}
use Rattle.steps.proofs.Faults.{few-dirs, many-dirs, moves, target, copies, never}
use Rattle.steps.proofs.Step.fault.Goals as goal

pub returns-then-n-lt-DIR_LIMIT : goal.returns-then-n-lt-DIR_LIMIT
returns-then-n-lt-DIR_LIMIT c = few-dirs c.requires c.in-MakeDirectory.is (c.count-n.ensures _ c.requires.0.tree) c.if-n-lt-DIR_LIMIT.true

pub returns-else-n-lt-DIR_LIMIT : goal.returns-else-n-lt-DIR_LIMIT
returns-else-n-lt-DIR_LIMIT c = many-dirs c.requires c.in-MakeDirectory.is (c.count-n.ensures _ c.requires.0.tree) c.if-n-lt-DIR_LIMIT.false

pub returns-in-MoveStaged : goal.returns-in-MoveStaged
returns-in-MoveStaged c = moves c.requires c.in-MoveStaged.is c.look-held.ensures c.from_held.ensures

pub returns-then-is_dir_empty : goal.returns-then-is_dir_empty
returns-then-is_dir_empty c = target c.requires c.in-RenameDirectory.is (sym c.if-is_dir_empty.true ∙ c.is_dir_empty.ensures)

pub returns-else-is_dir_empty : goal.returns-else-is_dir_empty
returns-else-is_dir_empty c = target c.requires c.in-RenameDirectory.is (sym c.if-is_dir_empty.false ∙ c.is_dir_empty.ensures)

pub returns-in-CopyFile : goal.returns-in-CopyFile
returns-in-CopyFile c = copies c.requires c.in-CopyFile.is c.look-held-in-CopyFile.ensures c.from_held-in-CopyFile.ensures

pub returns-in_default : goal.returns-in_default
returns-in_default c = never c.args.self c.requires c.in_default.not-MakeDirectory c.in_default.not-MoveStaged c.in_default.not-RenameDirectory c.in_default.not-CopyFile
