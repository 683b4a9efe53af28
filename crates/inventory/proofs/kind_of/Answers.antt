-- `kind_of` meets its contract.
use mathlib.Core.Path.{sym, ◌∙◌}
use Rattle.inventory.proofs.Walks.{dir-kind, file-kind}
use Rattle.inventory.proofs.kind_of.Goals as goal

pub returns-then-is_dir : goal.returns-then-is_dir
returns-then-is_dir c = dir-kind (sym c.is_dir.ensures.by_length ∙ c.if-is_dir.true)

pub returns-else-is_dir : goal.returns-else-is_dir
returns-else-is_dir c = file-kind (sym c.is_dir.ensures.by_length ∙ c.if-is_dir.false)
