-- `paths::is_backup` meets its contract by the law of the last four bytes.
use mathlib.Core.Path.{sym, ◌∙◌}
use Rattle.basic_laws.specs.NameLaws.{backup-ends}
use Rattle.paths.proofs.is_backup.Goals as goal

pub returns : goal.returns
returns c = c.has_extension.ensures ∙ sym (backup-ends _)
