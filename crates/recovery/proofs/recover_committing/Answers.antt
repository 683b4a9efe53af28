-- `recover_committing`: a whole log is undone; then the log and the staging files go.
use mathlib.Core.List.{[], ◌∷◌}
use Rattle.model.specs.Step.{remove_log}
use Rattle.model.specs.Plan.{remove_staging_files}
use Rattle.recovery.proofs.Follow.{undone_then}
use Rattle.recovery.proofs.recover_committing.Goals as goal

pub returns-in-Whole : goal.returns-in-Whole
returns-in-Whole c = rw c.in-Whole.is (undone_then _ (rw c.deref.ensures.0 at c.undo_all.ensures) ((λ s. remove_log ∷ []) ∷ remove_staging_files ∷ []) c.clean_up.ensures)
