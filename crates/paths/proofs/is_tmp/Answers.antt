-- `paths::is_tmp` meets its contract by the law of the last four bytes.
use mathlib.Core.Path.{sym, ◌∙◌}
use Rattle.basic_laws.specs.NameLaws.{tmp_ends}
use Rattle.paths.proofs.is_tmp.Goals as goal

pub returns : goal.returns
returns c = c.has_extension.ensures ∙ sym (tmp_ends _)
