-- `finish`: the collections synced; then the log held, or the log and the backups removed; the staging files.
use mathlib.Core.List.{[], ◌∷◌, map}
use Rattle.model.specs.Step.{sync_collections, remove_log, sync_journal, hold_header, sync_log}
use Rattle.model.specs.Plan.{remove_backups, remove_staging_files}
use Rattle.steps.specs.Steps.{step_of}
use Rattle.transaction.specs.Operations.{op_of}
use Rattle.recovery.proofs.Follow.{step_then, last-part, part_then}
use Rattle.commit.proofs.Parts.{ends_as-told}
use Rattle.commit.proofs.finish.Goals as goal
use Rattle.commit.proofs.finish.Goals.{in-Remove, in-Hold}

pub advance-requires : goal.advance-requires
unfolding step_of
advance-requires c = ((c.sync_collection_dirs.ensures.sound, record { names = tt }), tt)

pub returns : goal.returns
unfolding step_of
returns c =
    elim c.match-end.branch [
      | in-Remove w ↦
          ends_as-told c.args.src.now (map (op_of c.args.src.now) c.args.ops.now) w.in-Remove.is
          (part_then c.sync_collection_dirs.ensures ((λ s. sync_collections ∷ remove_log ∷ sync_journal ∷ []) ∷ remove_backups ∷ remove_staging_files ∷ [])
          (part_then (step_then c.advance.ensures (remove_log ∷ sync_journal ∷ []) w.remove_log_durably.ensures) (remove_backups ∷ remove_staging_files ∷ [])
          (part_then (rw w.run-is w.delete_all_backup_files.ensures) (remove_staging_files ∷ []) (last-part c.cleanup_staging_dir.ensures))))
      | in-Hold w ↦
          ends_as-told c.args.src.now (map (op_of c.args.src.now) c.args.ops.now) w.in-Hold.is
          (part_then c.sync_collection_dirs.ensures ((λ s. sync_collections ∷ hold_header ∷ sync_log ∷ []) ∷ remove_staging_files ∷ [])
          (part_then (step_then c.advance.ensures (hold_header ∷ sync_log ∷ []) (rw w.run-is w.hold_log.ensures)) (remove_staging_files ∷ []) (last-part c.cleanup_staging_dir.ensures)))
    ]
