-- `is_new_file`: the file stands, and its backup does not.
use mathlib.Core.Path.{sym, ◌∙◌}
use Rattle.recovery.proofs.Artifacts.{file-new, file-old}
use Rattle.recovery.proofs.is_new_file.Goals as goal

pub returns-then-exists : goal.returns-then-exists
returns-then-exists c = file-new _ _ _ (sym c.exists.ensures ∙ c.if-exists.true) c.has_backup.ensures

pub returns-else-exists : goal.returns-else-exists
returns-else-exists c = c.if-exists.false ∙ file-old _ _ _ (sym c.exists.ensures ∙ c.if-exists.false)
