-- `has_backup_files`: yes where the search names a hit.
use mathlib.Core.Path.{◌∙◌}
use Rattle.recovery.proofs.Seek.{answered}
use Rattle.recovery.proofs.search.has_backup_files.Goals as goal

pub returns : goal.returns
returns c = c.is_some.ensures ∙ answered c.find_backup.ensures
