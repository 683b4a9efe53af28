-- `roll_back`: the operations undone, the log, the staging files.
use mathlib.Core.List.{[], ◌∷◌}
use Rattle.model.specs.Step.{remove_log, sync_journal}
use Rattle.model.specs.Plan.{remove_staging_files}
use Rattle.recovery.proofs.Follow.{last-part, part_then, undone_then}
use Rattle.commit.proofs.roll_back.Goals as goal

pub returns : goal.returns
returns c = undone_then _ c.undo_all.ensures ((λ s. remove_log ∷ sync_journal ∷ []) ∷ remove_staging_files ∷ []) (part_then c.remove_log_durably.ensures (remove_staging_files ∷ []) (last-part c.cleanup_staging_dir.ensures))
