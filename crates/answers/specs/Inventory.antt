-- The inventory: 02, item 9. "Write the collections of an image as one object without spaces or line ends: each directory name with an object of
-- its file names and content numbers in decimal, both in image order." The text is JSON (RFC 8259).
use Rattle.std.specs.Prelude.{ℕ, List, [], ◌∷◌, ◌++◌, map, length, leb, eqb, if◌then◌else◌}
use Rattle.basics.specs.Order.{Name, cmp_name, case_cmp}
use Rattle.basics.specs.Map.{Map}
use Rattle.basics.specs.Base.{Bytes, case_option, if_empty, flat_map}
use Rattle.model.specs.Store.{dirs}
use Rattle.model.specs.Image.{decode}
use Rattle.answers.specs.Answers.{Answer, refusal, decimal}

-- A directory's name with its files and their content numbers.
abbrev pub Collection : Type 0
Collection = Name × List (Name × ℕ)

-- The files of a directory with their content numbers, in the tree's order; their names are its `files`.
unfoldable pub contents : Name → Map → List (Name × ℕ)
contents d [] = []
contents d (n ∷ r) = let rest = contents d r in case_cmp (cmp_name d n.0.0) rest (if_empty n.0.1 rest ((n.0.1, n.1) ∷ rest)) rest

unfoldable pub collections : Map → List Collection
collections t = map (λ d. (d, contents d t)) (dirs t)

-- "A double quote in a name is written with a backslash before it; no other byte of a name needs escaping": a backslash, and a byte below 0x20,
-- cannot stand in a name (`is_name_byte`).
unfoldable pub escaped : Name → Bytes
escaped n = flat_map (λ b. if eqb b 0x22 then 0x5C ∷ 0x22 ∷ [] else b ∷ []) n

unfoldable pub quoted : Name → Bytes
quoted n = 0x22 ∷ escaped n ++ 0x22 ∷ []

-- An object of these members: braces around them, commas between them.
unfoldable pub object : List Bytes → Bytes
object [] = 0x7B ∷ 0x7D ∷ []
object (m ∷ l) = 0x7B ∷ m ++ flat_map (λ n. 0x2C ∷ n) l ++ 0x7D ∷ []

unfoldable pub file_member : Name × ℕ → Bytes
file_member f = quoted f.0 ++ 0x3A ∷ decimal 10 f.1

unfoldable pub collection_member : Collection → Bytes
collection_member c = quoted c.0 ++ 0x3A ∷ object (map file_member c.1)

-- "Staging files, log and open mark aren't shown."
unfoldable pub inventory_text : Map → Bytes
inventory_text t = object (map collection_member (collections t))

abbrev pub in_room : Bytes → ℕ → Answer
in_room text out = if leb (length text) out then record { number = 0; image = text; step = [] } else refusal 2

-- `cda_storage_inventory`: 1, 2. "Refusal 2 here means that the text is longer than the lent output, which is then untouched."
unfoldable pub inventory : Bytes → ℕ → Answer
inventory b out = case_option (decode b) (refusal 1) λ s. in_room (inventory_text s.tree) out
