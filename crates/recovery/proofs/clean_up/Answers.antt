-- `clean_up`: the log, then the staging files.
use mathlib.Core.List.{[], ◌∷◌}
use Rattle.steps.specs.Steps.{step_of}
use Rattle.model.specs.Plan.{remove_staging_files}
use Rattle.recovery.proofs.Follow.{last-part, part_then}
use Rattle.recovery.proofs.clean_up.Goals as goal

pub advance-requires : goal.advance-requires
unfolding step_of
advance-requires c = ((c.requires, record { names = tt }), tt)

pub returns : goal.returns
unfolding step_of
returns c = part_then c.advance.ensures (remove_staging_files ∷ []) (last-part c.cleanup_staging_dir.ensures)
