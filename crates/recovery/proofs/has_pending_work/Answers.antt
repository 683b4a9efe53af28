-- `has_pending_work`: a log, a backup, or a staging file.
use mathlib.Core.Path.{sym, ap, ◌∙◌}
use mathlib.Core.Bool.{not}
use Rattle.recovery.proofs.Pending.{by-log, by-backup, by-staging}
use Rattle.recovery.proofs.has_pending_work.Goals as goal
use Rattle.recovery.proofs.has_pending_work.Goals.{then-is_some-via-then-is_some, then-is_some-via-else-is_some+then-has_backup_files}

pub returns-then-is_some : goal.returns-then-is_some
returns-then-is_some c =
    elim c.then-is_some.branch [
      | then-is_some-via-then-is_some w ↦ by-log _ _ (sym c.is_some.ensures ∙ w.if-is_some.true)
      | then-is_some-via-else-is_some+then-has_backup_files w ↦ by-backup _ _ (sym c.is_some.ensures ∙ w.if-is_some.false) (sym w.has_backup_files.ensures ∙ w.if-has_backup_files.true)
    ]

pub returns : goal.returns
returns c = ap not c.is_empty.ensures ∙ by-staging _ _ (sym c.is_some.ensures ∙ c.if-is_some.false) (sym c.has_backup_files.ensures ∙ c.if-has_backup_files.false)
