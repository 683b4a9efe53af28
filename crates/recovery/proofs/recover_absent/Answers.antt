-- `recover_absent`: the backups, a log that is none, the staging files.
use mathlib.Core.List.{[], ◌∷◌}
use Rattle.model.specs.Plan.{remove_standing_log, remove_staging_files}
use Rattle.recovery.proofs.Follow.{last-part, part_then}
use Rattle.recovery.proofs.recover_absent.Goals as goal

pub returns : goal.returns
returns c = part_then c.delete_all_backup_files.ensures (remove_standing_log ∷ remove_staging_files ∷ []) (part_then c.remove_log.ensures (remove_staging_files ∷ []) (last-part c.cleanup_staging_dir.ensures))
