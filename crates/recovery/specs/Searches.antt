-- What the search for a backup answers: 02, item 2.
use Rattle.std.specs.Prelude.{◌≡◌, Bool, Option, None, Some}
use Rattle.std.proofs.Math.Option.{none, some}
use Rattle.basics.specs.Map as model
use Rattle.basics.specs.Base.{Bytes, first_of}
use Rattle.model.specs.Store as search
use Rattle.model.specs.Store.{backup_file, backup_directory, no_backup, first_backup}
use Rattle.spans.specs.Spans.{name_of, Sound}
use Rattle.store.specs.Tables.{node_of, SoundNode}
use Rattle.store.specs.declared.Node.{Node}
use Rattle.recovery.specs.declared.search.BackupHit.{BackupHit}
use Rattle.recovery.specs.declared.search.BackupHit.TheVariants.{File, Directory}

-- What a hit says, and that its names lie in the lent bytes.
abbrev pub hit_of : Bytes → Option BackupHit → search.BackupHit
hit_of src (Some (File x)) = backup_file (node_of src x)
hit_of src (Some (Directory d)) = backup_directory (name_of src d)
hit_of src None = no_backup

abbrev pub SoundHit : Bytes → Option BackupHit → Type 0
SoundHit src (Some (File x)) = SoundNode src x
SoundHit src (Some (Directory d)) = Sound src d
SoundHit src None = Unit {0}

pub record FindsBackup (src : Bytes) (m : model.Map) (r : Option BackupHit) : Type 0 where
  pub sound : SoundHit src r
  pub same : hit_of src r ≡ first_backup m

-- The first node that passes the test, if one does.
abbrev pub FirstOf : (model.Node → Bool) → Bytes → model.Map → Option Node → Type 0
FirstOf p src m (Some x) = SoundNode src x × (first_of p m ≡ some (node_of src x))
FirstOf p src m None = first_of p m ≡ none
