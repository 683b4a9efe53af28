-- `keep`: the log, then the backups.
use mathlib.Core.Path.{refl, ap, ◌∙◌}
use mathlib.Core.List.{[], ◌∷◌}
use Rattle.std.specs.Prelude.{Some, Ok}
use Rattle.model.specs.Plan.{remove_backups, keep_plan}
use Rattle.recovery.proofs.Follow.{last-part, part_then}
use Rattle.recovery.proofs.Recovering.{does, keeps}
use Rattle.recovery.proofs.keep.Goals as goal

pub returns : goal.returns
unfolding keep_plan
returns c =
    let done = does (c.begun-run.ensures.begins c.args.src.now c.requires.0) keep_plan refl refl (part_then c.remove_log_durably.ensures (remove_backups ∷ []) (last-part c.delete_all_backup_files.ensures)) in
    keeps c.args.src.now c.args.store c.open_log.result c.open_log.ensures (c.in-Some-Held.is ∙ ap Some c.in-Some-Held.field-0-is) c.args.budget (Ok _) done
