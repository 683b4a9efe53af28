-- What a `Step` stands for, and what lets it be done on a store.
use Rattle.std.specs.Prelude.{◌≡◌, ◌≤◌, length, Some}
use Rattle.std.proofs.Math.Option.{none}
use Rattle.basics.specs.Limits.{dir_limit, file_limit}
use Rattle.basics.specs.Base.{Bytes}
use Rattle.basics.specs.declared.Status.{Status}
use Rattle.basics.specs.Map.{Map}
use Rattle.model.specs.Store as model
use Rattle.model.specs.Store.{dirs, file_count}
use Rattle.model.specs.Step as step
use Rattle.model.specs.Step.{step_fault, apply}
use Rattle.spans.specs.Spans.{name_of, length_of, Sound}
use Rattle.spans.specs.declared.NameRef.{NameRef}
use Rattle.store.specs.Tables.{map_of}
use Rattle.store.specs.Stores.{store_of, SoundStore}
use Rattle.store.specs.declared.LogRef.{LogRef}
use Rattle.store.specs.declared.Store.{Store}
use Rattle.steps.specs.declared.Step.{Step}
use Rattle.steps.specs.declared.Step.TheVariants as code

unfoldable pub step_of : Bytes → Step → step.Step
step_of src code.RewriteHeader = step.rewrite_header
step_of src code.HoldHeader = step.hold_header
step_of src code.SyncStaging = step.sync_staging
step_of src code.SyncLog = step.sync_log
step_of src code.RemoveLog = step.remove_log
step_of src code.SyncJournal = step.sync_journal
step_of src code.SyncCollections = step.sync_collections
step_of src (code.MakeDirectory d) = step.make_directory (name_of src d)
step_of src (code.RenameFile d a b) = step.rename_file (name_of src d) (name_of src a) (name_of src b)
step_of src (code.MoveStaged f d k) = step.move_staged (name_of src f) (name_of src d) (name_of src k)
step_of src (code.RenameDirectory a b) = step.rename_directory (name_of src a) (name_of src b)
step_of src (code.CopyFile a b f) = step.copy_file (name_of src a) (name_of src b) (name_of src f)
step_of src (code.RemoveFile d f) = step.remove_file (name_of src d) (name_of src f)
step_of src (code.RemoveDirectory d) = step.remove_directory (name_of src d)
step_of src (code.RemoveStaging f) = step.remove_staging (name_of src f)
step_of src (code.SyncDirectory d) = step.sync_directory (name_of src d)

-- The name of a file that a step makes: not empty, as a directory's own place is.
pub record FileName (src : Bytes) (r : NameRef) : Type 0 where
  pub sound : Sound src r
  pub some : 1 ≤ length_of r

abbrev pub Names : Bytes → Step → Type 0
Names src code.RewriteHeader = Unit {0}
Names src code.HoldHeader = Unit {0}
Names src code.SyncStaging = Unit {0}
Names src code.SyncLog = Unit {0}
Names src code.RemoveLog = Unit {0}
Names src code.SyncJournal = Unit {0}
Names src code.SyncCollections = Unit {0}
Names src (code.MakeDirectory d) = Sound src d
Names src (code.RenameFile d a b) = Sound src d × (FileName src a × FileName src b)
Names src (code.MoveStaged f d k) = Sound src f × (Sound src d × FileName src k)
Names src (code.RenameDirectory a b) = Sound src a × Sound src b
Names src (code.CopyFile a b f) = Sound src a × (Sound src b × FileName src f)
Names src (code.RemoveFile d f) = Sound src d × Sound src f
Names src (code.RemoveDirectory d) = Sound src d
Names src (code.RemoveStaging f) = Sound src f
Names src (code.SyncDirectory d) = Sound src d

-- What every step that the code holds meets.
pub record SoundStep (src : Bytes) (x : Step) : Type 0 where
  pub names : Names src x

-- A tree within its limits: 01, How a store is handed over, "At most 16 directories, 128 files".
pub record Within (t : Map) : Type 0 where
  pub dirs : length (dirs t) ≤ dir_limit
  pub files : file_count t ≤ file_limit

-- What every store that steps are done on meets: so there is room for one node more.
pub record Fits (src : Bytes) (s : Store) : Type 0 where
  pub sound : SoundStore src s
  pub within : Within (map_of src s.tree)

-- A step that makes a node is done only where it does not fail; the others make none.
abbrev pub Allowed : step.Step → model.Store → Type 0
Allowed step.rewrite_header s = Unit {0}
Allowed step.hold_header s = Unit {0}
Allowed step.sync_staging s = Unit {0}
Allowed step.sync_log s = Unit {0}
Allowed step.remove_log s = Unit {0}
Allowed step.sync_journal s = Unit {0}
Allowed step.sync_collections s = Unit {0}
Allowed (step.make_directory d) s = step_fault (step.make_directory d) s ≡ none
Allowed (step.rename_file d a b) s = Unit {0}
Allowed (step.move_staged f d k) s = step_fault (step.move_staged f d k) s ≡ none
Allowed (step.rename_directory a b) s = Unit {0}
Allowed (step.copy_file a b f) s = step_fault (step.copy_file a b f) s ≡ none
Allowed (step.remove_file d f) s = Unit {0}
Allowed (step.remove_directory d) s = Unit {0}
Allowed (step.remove_staging f) s = Unit {0}
Allowed (step.sync_directory d) s = Unit {0}

-- A log whose header is rewritten with a status.
abbrev pub rewritten_as : Status → LogRef → LogRef
rewritten_as s l = record { start = l.start; len = l.len; rewritten = Some s }

-- What `apply` makes.
pub record Applied (src : Bytes) (x : Step) (s r : Store) : Type 0 where
  pub fits : Fits src r
  pub same : store_of src r ≡ apply (step_of src x) (store_of src s)
