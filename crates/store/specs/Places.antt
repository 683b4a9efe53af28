-- Places in a sorted map, and changes of a map at its end.
use Rattle.std.specs.Prelude.{◌≡◌, ℕ, suc, ◌≤◌, ◌<◌, ◌∷◌, length, take, drop, ltb, if◌then◌else◌}
use Rattle.basics.specs.Order.{lt, gt, Key, cmp_key}
use Rattle.basics.specs.Map.{Node, Map, put}
use Rattle.basic_laws.specs.Tests.{All}

-- A node below a key, and one above it.
abbrev pub Under : Key → Node → Type 0
Under k n = cmp_key k n.0 ≡ gt

abbrev pub Over : Key → Node → Type 0
Over k n = cmp_key k n.0 ≡ lt

-- The key stands at i, with number v.
pub record Hit (k : Key) (v : ℕ) (m : Map) (i : ℕ) : Type 0 where
  pub within : i < length m
  pub under : All (Under k) (take i m)
  pub here : drop i m ≡ (k, v) ∷ drop (suc i) m
  pub over : All (Over k) (drop (suc i) m)

-- The key stands nowhere; its place is before what stands at i.
pub record Gap (k : Key) (m : Map) (i : ℕ) : Type 0 where
  pub within : i ≤ length m
  pub under : All (Under k) (take i m)
  pub over : All (Over k) (drop i m)

-- How many nodes a table holds: 16 directories and 128 files (Limits), and one more, so that what stands within the limits has room for a put.
abbrev pub table_room : ℕ
table_room = 145

-- A put, where there is room for one more.
unfoldable pub put_in : Key → ℕ → Map → Map
put_in k v m = if ltb (length m) table_room then put k v m else m
