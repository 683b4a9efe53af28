-- The inventory's text as the code walks the tree: each node's part by what stood before it.
use Rattle.std.specs.Prelude.{◌≡◌, [], ◌∷◌, ◌++◌, ℕ, None, Some}
use Rattle.std.specs.declared.option.Option.{Option}
use Rattle.basics.specs.Order.{Name}
use Rattle.basics.specs.Map.{Map, Node}
use Rattle.basics.specs.Base.{Bytes, if_empty}
use Rattle.answers.specs.Answers.{decimal}
use Rattle.answers.specs.Inventory.{quoted}
use Rattle.store.specs.declared.Node as store
use Rattle.store.specs.Tables.{node_of, SoundNode}
use Rattle.inventory.specs.declared.Kind.{Kind}
use Rattle.inventory.specs.declared.Kind.TheVariants.{Directory, File}

-- A node is a directory, or a file.
abbrev pub kind_of : Node → Kind
kind_of n = if_empty n.0.1 Directory File

pub record IsKind (x : store.Node) (k : Kind) : Type 0 where
  pub same : (src : Bytes) → SoundNode src x → k ≡ kind_of (node_of src x)

-- What stands between a node's part and what is before it, if anything: a directory closes the object of the one before it; a file stands behind a comma
-- if it is not the first.
abbrev pub divider : Option Kind → Kind → Bytes
divider None k = []
divider (Some Directory) Directory = 0x7D ∷ 0x2C ∷ []
divider (Some Directory) File = []
divider (Some File) Directory = 0x7D ∷ 0x2C ∷ []
divider (Some File) File = 0x2C ∷ []

-- The braces that close the last directory, if there is one, and the whole.
abbrev pub ending : Option Kind → Bytes
ending None = 0x7D ∷ []
ending (Some k) = 0x7D ∷ 0x7D ∷ []

-- A directory opens its own object.
unfoldable pub dir_text : Option Kind → Name → Bytes
dir_text before d = divider before Directory ++ (quoted d ++ 0x3A ∷ 0x7B ∷ [])

unfoldable pub file_text : Option Kind → Name → ℕ → Bytes
file_text before f x = divider before File ++ (quoted f ++ 0x3A ∷ decimal 10 x)

abbrev pub node_text : Option Kind → Node → Bytes
node_text before n = if_empty n.0.1 (dir_text before n.0.0) (file_text before n.0.1 n.1)

-- What is left of the text, behind the braces of the last directory and of the whole.
unfoldable pub text_from : Option Kind → Map → Bytes
text_from before [] = ending before
text_from before (n ∷ r) = node_text before n ++ text_from (Some (kind_of n)) r
