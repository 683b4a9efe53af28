-- What a table stands for: the model's map of its nodes. 01, How a store is handed over: directories "in ascending byte order of name",
-- each "followed by its files ascending".
use Rattle.std.specs.Prelude.{◌≡◌, ℕ, ◌≤◌, List, [], map, length, drop, Option, None, Some, Result, Ok, Err}
use Rattle.std.proofs.Math.Option as maths
use Rattle.std.proofs.Math.Option.{none, some}
use Rattle.fixed_vec.specs.FixedVec.{FixedVec}
use Rattle.basics.specs.Order.{Key, Name}
use Rattle.basics.specs.Map as model
use Rattle.basics.specs.Base.{Bytes}
use Rattle.model.specs.Store.{dirs, files, file_count}
use Rattle.basic_laws.specs.MapLaws.{Sorted}
use Rattle.basic_laws.specs.Tests.{All}
use Rattle.spans.specs.Spans.{name_of, Sound}
use Rattle.spans.specs.declared.NameRef.{NameRef}
use Rattle.store.specs.Places.{Over, Hit, Gap, table_room}
use Rattle.store.specs.declared.Node.{Node}
use Rattle.store.specs.declared.Counts.{Counts}
use Rattle.store.specs.declared.Table.{Table}

abbrev pub key_of : Bytes → NameRef → NameRef → Key
key_of src d f = (name_of src d, name_of src f)

abbrev pub node_of : Bytes → Node → model.Node
node_of src x = (key_of src x.dir x.file, x.number)

-- The nodes of a table.
abbrev pub live : Table → List Node
live t = t.nodes.items

unfoldable pub map_of : Bytes → Table → model.Map
map_of src t = map (node_of src) (live t)

pub record SoundNode (src : Bytes) (x : Node) : Type 0 where
  pub dir : Sound src x.dir
  pub file : Sound src x.file

-- What every table that the code holds meets.
pub record SoundTable (src : Bytes) (t : Table) : Type 0 where
  pub room : length (live t) ≤ table_room
  pub each : All (SoundNode src) (live t)
  pub sorted : Sorted (map_of src t)

-- A table holds a map.
pub record Holds (src : Bytes) (t : Table) (m : model.Map) : Type 0 where
  pub sound : SoundTable src t
  pub same : map_of src t ≡ m

-- What `find` answers.
pub record Finds (k : Key) (m : model.Map) (r : Result ℕ ℕ) : Type 0 where
  pub at : (i : ℕ) → r ≡ Ok i → (v : ℕ) × Hit k v m i
  pub missing : (i : ℕ) → r ≡ Err i → Gap k m i

-- The number that `look` answers, as the model has it.
abbrev pub held_of : Option ℕ → maths.Option ℕ
held_of None = none
held_of (Some v) = some v

-- What `count` answers.
pub record Counted (m : model.Map) (c : Counts) : Type 0 where
  pub dirs : c.dirs ≡ length (dirs m)
  pub files : c.files ≡ file_count m

-- Where the files of a directory start: before i there is none, and from i on stands what comes behind the directory's own node.
pub record FilesFrom (d : Name) (m : model.Map) (i : ℕ) : Type 0 where
  pub within : i ≤ length m
  pub same : files d m ≡ files d (drop i m)
  pub above : All (Over (d, [])) (drop i m)

-- A listing of names.
pub record Lists (src : Bytes) (l : FixedVec NameRef) (names : List Name) : Type 0 where
  pub each : All (Sound src) l.items
  pub same : map (name_of src) l.items ≡ names
