-- What must stand, or must not, for a step's calls to succeed.
use Rattle.std.specs.Prelude.{◌≡◌, []}
use Rattle.std.proofs.Math.Option.{some}
use Rattle.basics.specs.Order.{Name}
use Rattle.basics.specs.Map.{Has}
use Rattle.basics.specs.Base.{Bytes}
use Rattle.model.specs.Store.{Store, staging_key, files}
use Rattle.model.specs.Step.{Step, rewrite_header, sync_staging, sync_log, remove_log, sync_journal, sync_collections, make_directory, rename_file, move_staged, rename_directory, copy_file, remove_file, remove_directory, remove_staging, sync_directory, hold_header}

-- The empty file name is a directory's own place.
abbrev pub IsName : Name → Type 0
IsName f = f ≡ [] → ⊥

abbrev pub LogStands : Store → Type 0
LogStands s = (l : Bytes) × (s.log ≡ some l)

abbrev pub DirectoryStands : Name → Store → Type 0
DirectoryStands d s = Has (d, []) s.tree

abbrev pub FileStands : Name → Name → Store → Type 0
FileStands d f s = IsName f × Has (d, f) s.tree

abbrev pub StagedStands : Name → Store → Type 0
StagedStands f s = Has (staging_key f) s.staging

abbrev pub Ready : Step → Store → Type 0
Ready rewrite_header s = LogStands s
Ready hold_header s = LogStands s
Ready sync_staging s = Unit {0}
Ready sync_log s = LogStands s
Ready remove_log s = LogStands s
Ready sync_journal s = Unit {0}
Ready sync_collections s = Unit {0}
Ready (make_directory d) s = DirectoryStands d s → ⊥
Ready (rename_file d a b) s = FileStands d a s × IsName b
Ready (move_staged f d k) s = StagedStands f s × DirectoryStands d s × IsName k
Ready (rename_directory a b) s = DirectoryStands a s × (files b s.tree ≡ []) × (a ≡ b → ⊥)
Ready (copy_file a b f) s = FileStands a f s × DirectoryStands b s
Ready (remove_file d f) s = FileStands d f s
Ready (remove_directory d) s = DirectoryStands d s
Ready (remove_staging f) s = StagedStands f s
Ready (sync_directory d) s = DirectoryStands d s
