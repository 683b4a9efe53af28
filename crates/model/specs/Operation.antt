-- The operations, of seven kinds, and their payload: transaction.rs.
use Rattle.std.specs.Prelude.{ℕ, ◌-◌, List, [], ◌∷◌, map, Bool, false, ◌&&◌, ◌||◌, length, get_or, eqb, if◌then◌else◌}
use Rattle.std.proofs.Math.Option.{Option, none, some}
use Rattle.std.proofs.Math.ListN.{get_elem?}
use Rattle.basics.specs.Order.{Name, Key}
use Rattle.basics.specs.Base.{Bytes, case_option, same_bytes, all_of}
use Rattle.basics.specs.Name.{valid_name, backup_name}
use Rattle.basics.specs.Field.{Field, encode_fields, decode_fields}

-- A Write: its collection, its key, the name of its staging file, and its mark. 02, item 4: a marked Write (kind 7) says whether "the key's file
-- stood when it was recorded"; one of kind 1 has no mark.
pub record Write : Type 0 where
  pub collection : Name
  pub key : Name
  pub staged : Name
  pub mark : Option Bool

-- Where it puts its file, and where the backup of a file there goes.
abbrev pub target : Write → Key
target w = (w.collection, w.key)

abbrev pub backup : Write → Key
backup w = (w.collection, backup_name w.key)

-- 02, item 4: its target is new only if "the mark is 0". "Kind 1 keeps its meaning": without a mark it is asked as if the mark were 0.
abbrev pub stood : Write → Bool
stood w = case_option w.mark false (λ x. x)

-- A copy holds its source, its destination, and whether the destination existed.
pub data Op : Type 0 where
  write : Write → Op
  delete : Name → Name → Op
  delete_all : Name → Op
  create_collection : Name → Op
  delete_collection : Name → Op
  copy_collection : Name → Name → Bool → Op

-- 01, How a store is handed over: "The fields of each kind stand in one constant table of six rows: 1 Write 1,2,3,4; 2 Delete 1,2,3;
-- 3 DeleteAll, 4 CreateCollection and 5 DeleteCollection 1,2; 6 CopyCollection 1,2,5,6." 02, item 4: "A new kind 7, marked Write, the table's
-- seventh row, has tags 1, 2, 3, 4 and 7".
unfoldable pub field_table : List (List ℕ)
field_table =
    (1 ∷ 2 ∷ 3 ∷ 4 ∷ [])
    ∷ (1 ∷ 2 ∷ 3 ∷ [])
    ∷ (1 ∷ 2 ∷ [])
    ∷ (1 ∷ 2 ∷ [])
    ∷ (1 ∷ 2 ∷ [])
    ∷ (1 ∷ 2 ∷ 5 ∷ 6 ∷ [])
    ∷ (1 ∷ 2 ∷ 3 ∷ 4 ∷ 7 ∷ [])
    ∷ []

-- The row of a kind, counted from 1; what is no kind has an empty row.
unfoldable pub field_tags : ℕ → List ℕ
field_tags k = get_or ([] ∷ field_table) k []

unfoldable pub kind : Op → ℕ
kind (write w) = case_option w.mark 1 (λ x. 7)
kind (delete c k) = 2
kind (delete_all c) = 3
kind (create_collection c) = 4
kind (delete_collection c) = 5
kind (copy_collection a b x) = 6

-- A mark, "one byte 0 or 1".
abbrev pub mark_byte : Bool → Bytes
mark_byte x = (if x then 1 else 0) ∷ []

-- The values behind the kind, in the order of its row.
unfoldable pub values : Op → List Bytes
values (write w) = w.collection ∷ w.key ∷ w.staged ∷ case_option w.mark [] (λ x. mark_byte x ∷ [])
values (delete c k) = c ∷ k ∷ []
values (delete_all c) = c ∷ []
values (create_collection c) = c ∷ []
values (delete_collection c) = c ∷ []
values (copy_collection a b x) = a ∷ b ∷ mark_byte x ∷ []

-- Values under the tags of a row.
unfoldable pub tagged : List ℕ → List Bytes → List Field
tagged [] vs = []
tagged (t ∷ ts) [] = []
tagged (t ∷ ts) (v ∷ vs) = record { tag = t; value = v } ∷ tagged ts vs

-- 01, How a store is handed over: "Tags: 0x01 kind, one byte; 0x02 collection or source; 0x03 key; 0x04 staging name;
-- 0x05 destination; 0x06 destination existed, one byte 0 or 1." 02, item 4: "tag 0x07 is one byte, 1 if the key's file stood when it was
-- recorded, else 0".
unfoldable pub encode_payload : Op → Bytes
encode_payload o = encode_fields (tagged (field_tags (kind o)) ((kind o ∷ []) ∷ values o))

-- The operation of each kind, from the values behind the kind.
unfoldable pub makers : List (List Bytes → Op)
makers =
    (λ v. write (record { collection = get_or v 0 []; key = get_or v 1 []; staged = get_or v 2 []; mark = none }))
    ∷ (λ v. delete (get_or v 0 []) (get_or v 1 []))
    ∷ (λ v. delete_all (get_or v 0 []))
    ∷ (λ v. create_collection (get_or v 0 []))
    ∷ (λ v. delete_collection (get_or v 0 []))
    ∷ (λ v. copy_collection (get_or v 0 []) (get_or v 1 []) (same_bytes (get_or v 2 []) (1 ∷ [])))
    ∷ (λ v. write (record { collection = get_or v 0 []; key = get_or v 1 []; staged = get_or v 2 []; mark = some (same_bytes (get_or v 3 []) (1 ∷ [])) }))
    ∷ []

-- The tags of a mark.
abbrev pub is_mark : ℕ → Bool
is_mark t = eqb t 6 || eqb t 7

-- Each value by its tag: the kind has one byte, a mark is 0 or 1 (02, item 4: "another value doesn't decode"), all else is a valid name.
unfoldable pub valid_value : Field → Bool
valid_value f =
    if eqb f.tag 1 then eqb (length f.value) 1
    else if is_mark f.tag then same_bytes f.value (0 ∷ []) || same_bytes f.value (1 ∷ [])
    else valid_name f.value

-- 01, How a store is handed over: "Ascending tags, exactly these, all names valid, nothing behind."
unfoldable pub op_of_fields : List Field → Option Op
op_of_fields [] = none
op_of_fields (f ∷ fs) =
    let k : ℕ = get_or f.value 0 0 in
    if same_bytes (f.tag ∷ map (λ g. g.tag) fs) (field_tags k) && all_of valid_value (f ∷ fs)
    then case_option (get_elem? makers (k - 1)) none (λ make. some (make (map (λ g. g.value) fs)))
    else none

-- The operation that a payload holds, if it decodes.
unfoldable pub decode_payload : Bytes → Option Op
decode_payload p = case_option (decode_fields p) none op_of_fields
