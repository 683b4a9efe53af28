-- What a listing asks of a node.
use Rattle.std.specs.Prelude.{Bool, true, false}
use Rattle.basics.specs.Map.{Node}
use Rattle.basics.specs.Base.{if_empty}

-- A node is a directory's own.
unfoldable pub is_dir : Node → Bool
is_dir n = if_empty n.0.1 true false
