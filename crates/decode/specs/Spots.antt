-- What the results of reading a listing stand for.
use Rattle.std.specs.Prelude.{◌≡◌, Bool, true, false, List, [], ◌∷◌, ◌++◌, ℕ, ◌+◌, ◌≤◌, ◌<◌, length, drop, Option, None, Some}
use Rattle.std.proofs.Math.Option.{none, some}
use Rattle.basics.specs.Limits.{dir_limit, image_room}
use Rattle.basics.specs.Order.{Name}
use Rattle.basics.specs.Map.{Node}
use Rattle.basics.specs.Base.{Bytes, case_option}
use Rattle.basics.specs.Name.{valid_name}
use Rattle.basics.specs.Field.{Field, encode_field, fields_from}
use Rattle.laws.specs.TreeLaws.{is_dir, is_file}
use Rattle.laws.specs.ImageLaws.{listed}
use Rattle.field.specs.declared.Item.{Item}
use Rattle.field.specs.Reading.{Stands}
use Rattle.spans.specs.Spans.{name_of}
use Rattle.store.specs.Tables.{key_of, node_of, SoundNode}
use Rattle.decode.specs.declared.Spot.{Spot}
use Rattle.decode.specs.Reading.{Ahead, starts}
use Rattle.decode.specs.Listing.{own, files_of, Fits}

-- The directory of the last node: none yet or a valid name; a staging file has none.
abbrev pub LastDir : Bool → Name → Type 0
LastDir false d = (d ≡ [] → ⊥) → valid_name d ≡ true
LastDir true d = d ≡ []

pub record SoundSpot (staged : Bool) (src : Bytes) (p : Spot) : Type 0 where
  pub node : SoundNode src p.node
  pub within : p.next ≤ length src
  pub dir : LastDir staged (name_of src p.node.dir)
  pub dirs_fit : p.dirs ≤ dir_limit
  pub files_fit : p.files ≤ files_of staged

abbrev pub FitsAt : Bool → Bytes → Spot → Node → Type 0
FitsAt staged src p n = Fits staged (key_of src p.node.dir p.node.file) p.dirs p.files n

-- One node more was read.
pub record Follows (staged : Bool) (src : Bytes) (p q : Spot) : Type 0 where
  pub spot : SoundSpot staged src q
  pub moved : p.next < q.next
  pub fits : FitsAt staged src p (node_of src q.node)
  pub dirs : q.dirs ≡ p.dirs + is_dir (key_of src q.node.dir q.node.file)
  pub files : q.files ≡ p.files + is_file (key_of src q.node.dir q.node.file)
  pub bytes : drop p.next src ≡ encode_field (listed staged (node_of src q.node)) ++ drop q.next src
  pub fields : fields_from 0 (drop p.next src) ≡ case_option (fields_from 0 (drop q.next src)) none (λ fs. some (listed staged (node_of src q.node) ∷ fs))

-- A field of the listing stands there, and no node that may follow has it.
pub record Breaks (staged : Bool) (src : Bytes) (p : Spot) : Type 0 where
  pub here : (fs : List Field) → Ahead src p.next fs → starts (own staged) fs ≡ true
  pub unfit : (n : Node) (fs : List Field) → FitsAt staged src p n → Ahead src p.next (listed staged n ∷ fs) → ⊥

-- What an answer of `node_of` says.
abbrev pub Gives : Bool → Bytes → Spot → Option Spot → Type 0
Gives staged src p None = Breaks staged src p
Gives staged src p (Some q) = Follows staged src p q

-- A whole field of this tag stands behind the last node.
pub record AtField (staged : Bool) (src : Bytes) (p : Spot) (x : Item) (t : ℕ) : Type 0 where
  pub short : length src ≤ image_room
  pub spot : SoundSpot staged src p
  pub stands : Stands src p.next x
  pub tag : x.tag ≡ t

-- The directory that a file is read into.
abbrev pub InDir : Bool → Name → Type 0
InDir false d = valid_name d ≡ true
InDir true d = d ≡ []
