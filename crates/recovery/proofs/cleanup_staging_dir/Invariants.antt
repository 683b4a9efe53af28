-- `cleanup_staging_dir` walks through the listing of the staging files.
use Rattle.model.specs.Store.{staging_names}
use Rattle.model.specs.Step.{remove_staging}
use Rattle.plans.specs.Machine.{single}
use Rattle.store.specs.Tables.{map_of}
use Rattle.recovery.proofs.Follow.{lawful}
use Rattle.recovery.proofs.Over.{Over}
use Rattle.fixed_vec.specs.FixedVec.{of_items}
use Rattle.recovery.proofs.cleanup_staging_dir.Given as goal

abbrev pub invariant-loop-file : goal.invariant-loop-file
invariant-loop-file l = Over lawful l.src (λ f. single (remove_staging f)) (of_items l.file-items) (staging_names (map_of l.src l.initial.run.store.staging)) l.initial.run l.run l.file-index
