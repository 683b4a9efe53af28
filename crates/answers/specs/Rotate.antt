-- `cda_storage_rotate`, the update rotation: 02, item 7.
use Rattle.std.specs.Prelude.{ℕ, [], ◌∷◌, Bool, true, false, ◌&&◌, leb, eqb, if◌then◌else◌}
use Rattle.basics.specs.Limits.{image_room}
use Rattle.basics.specs.Order.{Name}
use Rattle.basics.specs.Base.{Bytes, if_empty}
use Rattle.model.specs.Store.{Store, files}
use Rattle.model.specs.Record.{has_dir}
use Rattle.answers.specs.Answers.{Answer, refusal, on_image, begin, copy_collection, delete_collection, commit}

-- "Our updater holds three collections, always named current, next and backup."
unfoldable pub current : Name
current = 0x63 ∷ 0x75 ∷ 0x72 ∷ 0x72 ∷ 0x65 ∷ 0x6E ∷ 0x74 ∷ []

unfoldable pub next : Name
next = 0x6E ∷ 0x65 ∷ 0x78 ∷ 0x74 ∷ []

unfoldable pub backup : Name
backup = 0x62 ∷ 0x61 ∷ 0x63 ∷ 0x6B ∷ 0x75 ∷ 0x70 ∷ []

-- A collection that stands and has a file, of any name.
abbrev pub holds_file : Name → Store → Bool
holds_file d s = has_dir d s && if_empty (files d s.tree) false true

-- "One call shall record [..] as one transaction: copy current to backup, copy next to current, delete next": the image that is committed.
abbrev pub rotation : Bytes → Bytes
rotation b =
    (delete_collection next
    (copy_collection next current (copy_collection current backup (begin b image_room).image image_room).image image_room).image image_room).image

-- `cda_storage_rotate`: 1, 2, 3, 17, 19, 20; "Turned away: 19, current is missing; 20, next is missing or has no file; both after 3 and 17, in this order, before
-- anything is recorded." Then what commit answers: "Refusals of the commit come through with its image."
unfoldable pub rotate : Bytes → ℕ → Answer
rotate b out =
    on_image b (leb image_room out) λ s.
    if eqb (begin b image_room).number 0
    then (if has_dir current s then (if holds_file next s then commit (rotation b) out else refusal 20) else refusal 19)
    else begin b image_room
