-- `is_backup`: what has ".bak" behind it is a backup but where nothing stands before; else the span's extension tells.
use mathlib.Core.Path.{ap, ◌∙◌}
use native.Mathlib.Omega.{arith}
use Rattle.basics.specs.Name.{is_backup}
use Rattle.spans.proofs.Backups.{behind_backup, only_span}
use Rattle.spans.proofs.is_backup.Goals as goal

pub returns-then-r-gt0 : goal.returns-then-r-gt0
returns-then-r-gt0 c = behind_backup c.requires _ c.length_of.ensures.0 (omega arith)

pub returns : goal.returns
returns c = c.is_backup.ensures ∙ ap is_backup (only_span c.requires _ _ c.slices.ensures.whole c.slices.ensures.lengths.0 (omega arith))
