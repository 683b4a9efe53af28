-- How many bytes a part of an image has, in whatever bytes its names stand.
use Rattle.std.specs.Prelude.{◌≡◌, Bool, ℕ, ◌≤◌, length, Option}
use Rattle.basics.specs.Base.{Bytes}
use Rattle.basics.specs.Field.{encode_field, encode_fields}
use Rattle.model.specs.Image.{log_field}
use Rattle.laws.specs.ImageLaws.{listed}
use Rattle.store.specs.declared.Node.{Node}
use Rattle.store.specs.declared.LogRef.{LogRef}
use Rattle.store.specs.Tables.{node_of, SoundNode}
use Rattle.store.specs.Stores.{log_bytes, SoundLog}

pub record NodeSize (staged : Bool) (x : Node) (n : ℕ) : Type 0 where
  pub same : (src : Bytes) → SoundNode src x → n ≡ length (encode_field (listed staged (node_of src x)))

-- The bound only says that no sum wraps.
pub record LogSize (l : Option LogRef) (n : ℕ) : Type 0 where
  pub bound : n ≤ 65_546
  pub same : (src : Bytes) → SoundLog src l → n ≡ length (encode_fields (log_field (log_bytes src l)))
