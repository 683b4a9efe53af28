-- What the small functions of recovery do, as plans. The model's plans are made of these.
use Rattle.std.specs.Prelude.{List, [], ◌∷◌, reverse, Bool, not, ◌&&◌}
use Rattle.basics.specs.Order.{Name}
use Rattle.basics.specs.Map.{Map, look}
use Rattle.basics.specs.Base.{if_empty, is_some, if_present, if_missing}
use Rattle.basics.specs.Name.{backup_name}
use Rattle.model.specs.Operation.{Op}
use Rattle.model.specs.Store.{Store, files}
use Rattle.model.specs.Step.{Step, remove_file, remove_directory, remove_log, apply}
use Rattle.model.specs.Plan.{in_turn, in_sequence, undo_steps, restore_backups, remove_staging_files}
use Rattle.plans.specs.Machine.{seq}

-- A file stands whose backup does not.
unfoldable pub is_new_file : Map → Name → Name → Bool
is_new_file t c k = is_some (look (c, k) t) && not (is_some (look (c, backup_name k) t))

-- The plan of each file of d in turn, by the listing as it stands when the walk starts.
unfoldable pub over_files : (Name → Name → Store → List Step) → Name → Store → List Step
over_files g d s = in_turn (g d) (files d s.tree) s

-- The removal of what stands.
unfoldable pub clear_file : Name → Name → Store → List Step
clear_file d f s = if_present (look (d, f) s.tree) (remove_file d f ∷ [])

unfoldable pub clear_dir : Name → Store → List Step
clear_dir d s = if_present (look (d, []) s.tree) (remove_directory d ∷ [])

-- The removal of the new artifact of a Write, of a CreateCollection, of a CopyCollection whose destination did not exist.
unfoldable pub undo_write : Name → Name → Store → List Step
undo_write c k s = if_present (look (c, k) s.tree) (if_missing (look (c, backup_name k) s.tree) (remove_file c k ∷ []))

unfoldable pub undo_create : Name → Store → List Step
undo_create c s = if_present (look (c, []) s.tree) (if_empty (files c s.tree) (remove_directory c ∷ []) [])

unfoldable pub undo_copy : Name → Store → List Step
undo_copy b s = if_present (look (b, []) s.tree) (if_missing (look (backup_name b, []) s.tree) (remove_directory b ∷ []))

-- What undoes operations: their new artifacts go, the last operation's first; then the backups are restored.
unfoldable pub undo_all : List Op → Store → List Step
undo_all ops s = seq apply (in_turn undo_steps (reverse ops)) restore_backups s

-- What recovery does in any case where a valid log stands.
abbrev pub clean_up : Store → List Step
clean_up = in_sequence ((λ s. remove_log ∷ []) ∷ remove_staging_files ∷ [])
