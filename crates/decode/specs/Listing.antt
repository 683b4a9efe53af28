-- The two listings of an image: the directories with their files, and the staging files. One word for what differs: `staged`.
use Rattle.std.specs.Prelude.{◌≡◌, Bool, true, false, ◌&&◌, ◌||◌, [], ◌∷◌, ℕ, ◌+◌, ◌≤◌, eqb}
use Rattle.basics.specs.Limits.{dir_limit, file_limit, staging_limit}
use Rattle.basics.specs.Order.{lt, Name, Key, cmp_name, cmp_key, case_cmp}
use Rattle.basics.specs.Map.{Map, Node}
use Rattle.model.specs.Store.{valid_node, valid_staged, ascending}
use Rattle.laws.specs.TreeLaws.{size, is_dir, is_file}

-- The tag of a file's field, and the tags of all fields of the listing.
abbrev pub file_tag : Bool → ℕ
file_tag false = 0x11
file_tag true = 0x12

abbrev pub own : Bool → ℕ → Bool
own false t = eqb t 0x10 || eqb t 0x11
own true t = eqb t 0x12

-- 01, How a store is handed over: "128 files, 32 staging files".
abbrev pub files_of : Bool → ℕ
files_of false = file_limit
files_of true = staging_limit

-- A node behind one of the directory d, and all nodes behind it.
abbrev pub valid_at : Bool → Name → Node → Bool
valid_at false d n = valid_node d n
valid_at true d n = valid_staged n

abbrev pub valid_from : Bool → Name → Map → Bool
valid_from staged d [] = true
valid_from staged d (n ∷ r) = valid_at staged d n && valid_from staged n.0.0 r

pub record Formed (staged : Bool) (m : Map) : Type 0 where
  pub ascends : ascending m ≡ true
  pub valid : valid_from staged [] m ≡ true
  pub dirs : size is_dir m ≤ dir_limit
  pub files : size is_file m ≤ files_of staged

-- The last key; before the first node stands the empty one.
abbrev pub last_key : Key → Map → Key
last_key k [] = k
last_key k (n ∷ r) = last_key n.0 r

-- A name may stand before another.
abbrev pub is_below : Name → Name → Bool
is_below a b = case_cmp (cmp_name a b) true false false

-- A node may stand behind a key and so many directories and files.
pub record Fits (staged : Bool) (k : Key) (dirs files : ℕ) (n : Node) : Type 0 where
  pub valid : valid_at staged k.0 n ≡ true
  pub above : cmp_key k n.0 ≡ lt
  pub dirs_fit : dirs + is_dir n.0 ≤ dir_limit
  pub files_fit : files + is_file n.0 ≤ files_of staged
