-- The parts of the listing program's text, and how long they are. The bounds only say that no sum wraps.
use Rattle.std.specs.Prelude.{◌≡◌, [], ◌∷◌, ◌++◌, ℕ, ◌*◌, ◌≤◌, length}
use Rattle.basics.specs.Map.{Map}
use Rattle.basics.specs.Base.{Bytes, flat_map}
use Rattle.answers.specs.Answers.{decimal, listing_line}
use Rattle.store.specs.declared.Node.{Node}
use Rattle.store.specs.Places.{table_room}
use Rattle.store.specs.declared.Table.{Table}
use Rattle.store.specs.Tables.{node_of, map_of, SoundNode, SoundTable}

-- What a line ends in that has a number: a space, the number in decimal, a line feed.
unfoldable pub number_end : ℕ → Bytes
number_end n = 0x20 ∷ decimal 10 n ++ 0x0A ∷ []

-- 01, Listings and file steps: "writes "answer " and the number".
unfoldable pub answer_line : ℕ → Bytes
answer_line n = 0x61 ∷ 0x6E ∷ 0x73 ∷ 0x77 ∷ 0x65 ∷ 0x72 ∷ number_end n

-- The lines of a tree.
unfoldable pub lines_of : Map → Bytes
lines_of t = flat_map listing_line t

-- The text for a number and a tree.
abbrev pub text_of : ℕ → Map → Bytes
text_of n t = answer_line n ++ lines_of t

abbrev pub line_bound : ℕ
line_bound = 4_107

pub record LineSize (x : Node) (n : ℕ) : Type 0 where
  pub bound : n ≤ line_bound
  pub same : (src : Bytes) → SoundNode src x → n ≡ length (listing_line (node_of src x))

pub record LinesSize (t : Table) (n : ℕ) : Type 0 where
  pub bound : n ≤ table_room * line_bound
  pub same : (src : Bytes) → SoundTable src t → n ≡ length (lines_of (map_of src t))
