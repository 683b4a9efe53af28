-- `paths::is_refused` meets its contract, name by name.
use mathlib.Core.Path.{◌∙◌}
use Rattle.basics.specs.Name.{refused_names, backup_extension}
use Rattle.paths.proofs.Same.{turned}
use Rattle.paths.proofs.is_refused.Goals as goal

pub returns : goal.returns
unfolding refused_names backup_extension
returns c = c.contains.ensures.value ∙ simp turned
