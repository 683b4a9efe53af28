-- Worked cases of the exported entries, computed: what only they have. The corners of document 01 stand in crate model, Cases.
use Rattle.std.specs.Prelude.{◌≡◌, refl, ℕ, List, [], ◌∷◌, ◌++◌, map, true, false, drop, take}
use Rattle.basics.specs.Limits.{image_room, step_room, hit_room}
use Rattle.basics.specs.Order.{cmp_key}
use Rattle.basics.specs.Map.{look, put, del}
use Rattle.basics.specs.Base.{Bytes, flat_map}
use Rattle.basics.specs.Name.{last_dot, extension, strip_extension, backup_extension, staging_extension, backup_name, original_name, strip_tmp, is_name_byte, refused_names, valid_name, lower_byte, lower}
use Rattle.basics.specs.Crc32.{crc32, register, feed_byte, shifts, shift, add_polynomial, polynomial}
use Rattle.basics.specs.Field.{little_endian, from_little_endian, encode_field, encode_fields, fields_from, decode_fields, has_tag}
use Rattle.basics.specs.Worked.{text, digit, pairs, hex, bit, times, Row, row, equal, agree}
use Rattle.model.specs.Operation.{field_table, field_tags, kind, values, tagged, encode_payload, makers, valid_value, op_of_fields, decode_payload, Op}
use Rattle.model.specs.Log.{header, entry, valid_header, first_payload, first_cause, walk, entries, read_journal, mark_committing, append_operation, mark_held, write_log}
use Rattle.model.specs.Operation as operation
use Rattle.model.specs.Store.{dirs, files, valid_node, valid_nodes, valid_staged, ascending, well_formed, has_backup_files, first_backup, has_pending_work}
use Rattle.model.specs.Image.{image_fields, encode, tree_of, staging_of, log_of, store_of, decode}
use Rattle.model.specs.Step.{remove_dir, rename_dir, apply, zero_separated, tag_and_names, step_field, step_fault}
use Rattle.model.specs.Plan.{op_steps, undo_steps, restore_file, restore_directory, remove_backup_file, remove_backups_in, first_namings, sync_existing, commit_fault, plan_ending, ending_at, is_new_artifact, recover_plan, recovered_at, recovered, revert_plan, reverted_at, reverted, keep_plan, kept_at, kept}
use Rattle.model.specs.Record.{transaction, begin_transaction, discard, record_write, record_delete_collection, record_copy, key_list}
use Rattle.answers.specs.Answers.{Answer, Pending, begin, rollback, write, copy_collection, delete_collection, commit, recover_store, recover, Broke, recover_cause, log_cause, commit_step, recover_step, pending, list_keys, find_backup, decimal, listing_line, listing, ending_store, hold, keep_store, keep, revert_store, revert, hold_step, keep_step, revert_step, canonical_log, revert_cause}
use Rattle.answers.specs.Inventory.{contents, collections, escaped, quoted, object, file_member, collection_member, inventory_text, inventory}
use Rattle.answers.specs.Rotate.{current, next, backup, rotate}
use Rattle.std.proofs.Math.Option.{none, some}

-- An answer as its number, its image and its step field; the pending question's as its number and 1 for yes; a number and how the log broke.
flat : Answer → Bytes
flat a = a.number ∷ a.image ++ a.step

asked : Pending → Bytes
asked a = a.number ∷ bit a.yes?

broke : Broke → Bytes
broke a = a.number ∷ a.cause ∷ []

-- The image of db/a with this number. 01: "The store db/a=7 is 10 02 00 64 62 11 05 00 07 00 00 00 61".
db : ℕ → Bytes
db x = hex "10 02 00 64 62 11 05 00" ++ x ∷ hex "00 00 00 61"

-- 01's ten-step case, recorded by the entries: begin, then a Write of 9 to a, staged as s.tmp.
ten_steps : Bytes
unfolding db
ten_steps = (write (text "db") (text "a") (text "s.tmp") 9 (begin (db 7) image_room).image image_room).image

held_ten : Bytes
unfolding ten_steps
held_ten = (hold ten_steps image_room).image

-- Two operations, of kinds 3 and 7.
two_ops : List Op
two_ops = operation.delete_all (text "db") ∷ operation.write (record { collection = text "db"; key = text "a"; staged = text "s"; mark = some false }) ∷ []

-- An operation of each of the seven kinds.
seven_ops : List Op
seven_ops =
    operation.write (record { collection = text "d"; key = text "a"; staged = text "s"; mark = none })
    ∷ operation.delete (text "d") (text "a")
    ∷ operation.delete_all (text "d")
    ∷ operation.create_collection (text "e")
    ∷ operation.delete_collection (text "d")
    ∷ operation.copy_collection (text "e") (text "d") true
    ∷ operation.write (record { collection = text "e"; key = text "a"; staged = text "s"; mark = some false })
    ∷ []

step_on : Bytes → ℕ → Answer
step_on b n = commit_step n b image_room step_room

-- What the listing program writes of the image after n steps of commit.
list_at : ℕ → Bytes
unfolding step_on ten_steps
list_at n = listing (step_on ten_steps n).image

-- The entry of 01's CreateCollection of db, "01 01 00 04 02 02 00 64 62"; that with a wrong checksum.
created : Bytes
created = entry (hex "01 01 00 04 02 02 00 64 62")

wrong : Bytes
unfolding created
wrong = hex "00 00 00 00" ++ drop 4 created

-- db/a=7 with a log.
logged : Bytes → Bytes
unfolding db
logged l = db 7 ++ encode_field (record { tag = 0x13; value = l })

-- The fields of a directory with one file a of this number.
with_a : Bytes → ℕ → Bytes
with_a d x = encode_field (record { tag = 0x10; value = d }) ++ hex "11 05 00" ++ x ∷ hex "00 00 00 61"

table : List Row
unfolding with_a db flat asked broke ten_steps step_on list_at created wrong logged held_ten two_ops seven_ops
table =
    row "begin, a Write, commit: a=9"
    (flat (commit ten_steps image_room))
    (0 ∷ db 9)
    ∷ row "begin, a Write, rollback: a=7"
    (flat (rollback ten_steps image_room))
    (0 ∷ db 7)
    ∷ row "cut after 4 steps and recovered: a=7"
    (flat (recover (step_on ten_steps 4).image image_room))
    (0 ∷ db 7)
    ∷ row "the field of step 4: a to a.bak"
    (step_on ten_steps 4).step
    (hex "24 0A 00 64 62 00 61 00 61 2E 62 61 6B")
    ∷ row "step 11 is past the plan's end: refusal 16"
    (flat (step_on ten_steps 11))
    (hex "10")
    ∷ row "recovery of db/a=7 has no step: 16 for n = 1"
    (flat (recover_step 1 (db 7) image_room step_room))
    (hex "10")
    ∷ row "begin while a transaction is open: 3"
    (flat (begin ten_steps image_room))
    (hex "03")
    ∷ row "commit and rollback without one: 4"
    (flat (commit (db 7) image_room) ++ flat (rollback (db 7) image_room))
    (hex "04 04")
    ∷ row "an output one byte too short: 2"
    (flat (recover (db 7) 19_389) ++ flat (commit_step 0 ten_steps image_room 196) ++ flat (list_keys (text "db") (db 7) 8_575) ++ flat (find_backup (db 7) 137))
    (hex "02 02 02 02")
    ∷ row "a byte behind the image: 1, before 2"
    (flat (recover (db 7 ++ hex "00") 0))
    (hex "01")
    ∷ row "the refused name ..bak, which a restore can make: 1"
    (flat (recover (hex "10 05 00 2E 2E 62 61 6B") image_room))
    (hex "01")
    ∷ row "work is pending while a log stands, not in db/a=7; an image that is refused: 1"
    (asked (pending ten_steps) ++ asked (pending (db 7)) ++ asked (pending (hex "10")))
    (hex "00 01 00 00 01 00")
    ∷ row "02: the held ten-step case: nine steps and no tenth, its last two rewrite header and sync log"
    ((hold_step 9 ten_steps image_room step_room).number ∷ (hold_step 10 ten_steps image_room step_room).number ∷ (hold_step 8 ten_steps image_room step_room).step ++ (hold_step 9 ten_steps image_room step_room).step)
    (hex "00 10 20 00 00 22 00 00")
    ∷ row "02: hold, then revert: db/a=7; hold, then keep: the commit's image, as after three steps of keep"
    (flat (revert held_ten image_room) ++ flat (keep held_ten image_room) ++ 0 ∷ (keep_step 3 held_ten image_room step_room).image)
    (0 ∷ db 7 ++ flat (commit ten_steps image_room) ++ flat (commit ten_steps image_room))
    ∷ row "02: at a Held log begin is 17, recording, commit and rollback are 4, recovery changes nothing, and work is pending"
    (flat (begin held_ten image_room) ++ flat (write (text "db") (text "b") (text "t") 1 held_ten image_room) ++ flat (commit held_ten image_room)
    ++ flat (hold held_ten image_room) ++ flat (rollback held_ten image_room) ++ flat (recover held_ten image_room) ++ asked (pending held_ten))
    (hex "11 04 04 04 04 00" ++ held_ten ++ hex "00 01")
    ∷ row "02: keep and revert without a Held log: 18; so their step entries, before 16"
    (flat (keep ten_steps image_room) ++ flat (revert (db 7) image_room) ++ flat (keep_step 99 (db 7) image_room step_room) ++ flat (revert_step 99 ten_steps image_room step_room))
    (hex "12 12 12 12")
    ∷ row "02: a log whose bytes 2 and 3 hold anything is written with zeros there: the log of this status and these operations, Held here"
    (flat (canonical_log (hex "CA 02 41 42 17 4C C2 9E" ++ drop 8 (write_log 0 seven_ops)) 199))
    (0 ∷ write_log 2 seven_ops)
    ∷ row "02: written again it is the same, a Recording log and a Committing one"
    (flat (canonical_log (write_log 0 seven_ops) 199) ++ flat (canonical_log (write_log 1 seven_ops) 199))
    (0 ∷ write_log 0 seven_ops ++ 0 ∷ write_log 1 seven_ops)
    ∷ row "02: a log whose bytes 2 and 3 hold anything is written with zeros there: the log of this status and these operations, Held here"
    (flat (canonical_log (hex "CA 02 41 42 17 4C C2 9E" ++ drop 8 (write_log 0 two_ops)) 99))
    (0 ∷ write_log 2 two_ops)
    ∷ row "02: written again it is the same" (flat (canonical_log (write_log 1 two_ops) 99)) (0 ∷ write_log 1 two_ops)
    ∷ row "02: one byte less of output: 2; no valid header: 21, after 2; an entry header too short: 21; a payload that doesn't decode: 11"
    (flat (canonical_log (write_log 0 []) 7) ++ flat (canonical_log (hex "CA 03 00 00 00 00 00 00") 8) ++ flat (canonical_log (hex "CA") 0)
    ++ flat (canonical_log (write_log 2 two_ops ++ hex "00") 99) ++ flat (canonical_log (header 0 ++ entry (text "x")) 99))
    (hex "02 15 02 15 0B")
    ∷ row "02: the same of a log of seven operations"
    (flat (canonical_log (write_log 2 seven_ops ++ hex "00") 199))
    (hex "15")
    ∷ row "02: the backup that stands after 4 steps, db/a.bak=7"
    (flat (find_backup (step_on ten_steps 4).image hit_room))
    (hex "00 10 02 00 64 62 11 09 00 07 00 00 00 61 2E 62 61 6B")
    ∷ row "02: no backup stands: nothing is written"
    (flat (find_backup (db 7) hit_room))
    (hex "00")
    ∷ row "02: a log with one operation, whole; a byte behind it: 1; length 0 and a payload past the end: 2; a wrong checksum: 3"
    (flat_map (λ l. broke (log_cause (header 1 ++ l))) (created ∷ (created ++ hex "00") ∷ (created ++ entry []) ∷ take 16 created ∷ (created ++ wrong) ∷ []))
    (hex "00 00 00 01 00 02 00 02 00 03")
    ∷ row "02: a log of 7 bytes and one of status 0x03: 21; a payload that doesn't decode: 11; 32 operations and a byte: 12; 6,953 bytes: 1"
    (flat_map (λ l. broke (log_cause l)) (take 7 (header 0) ∷ header 3 ∷ (header 0 ++ entry (text "x")) ∷ (header 0 ++ times 32 created ++ hex "00") ∷ times 6_953 (hex "00") ∷ []))
    (hex "15 00 15 00 0B 00 0C 00 01 00")
    ∷ row "02: recovery that discards a truncated Committing log: 1, 2 and 3; one whose log has no operation, and no log: 0"
    (flat_map (λ b. broke (recover_cause b image_room)) (logged (header 1 ++ hex "00") ∷ logged (header 1 ++ entry []) ∷ logged (header 1 ++ wrong) ∷ logged (header 1) ∷ db 7 ∷ []))
    (hex "00 01 00 02 00 03 00 00 00 00")
    ∷ row "02: revert that discards a truncated Held log: 1, 2 and 3; recovery reads no Held one: 0; revert without one: 18"
    (flat_map (λ l. broke (revert_cause (logged (header 2 ++ l)) image_room)) (hex "00" ∷ entry [] ∷ wrong ∷ [])
    ++ broke (recover_cause (logged (header 2 ++ wrong)) image_room) ++ take 1 (broke (revert_cause (logged (header 1)) image_room)))
    (hex "00 01 00 02 00 03 00 00 12")
    ∷ row "02: a Recording log is discarded unread: 0"
    (flat_map (λ l. broke (recover_cause (logged (header 0 ++ l)) image_room)) (hex "00" ∷ entry [] ∷ wrong ∷ []))
    (hex "00 00 00 00 00 00")
    ∷ row "the listing of the ten-step case cut after 4"
    (list_at 4)
    (text "answer 0\ndb/\ndb/a 7\n")
    ∷ row "the listing of an image that is refused"
    (listing (hex "10"))
    (text "answer 1\n")
    ∷ row "the inventory of db/a=7, and of an empty store"
    (flat (inventory (db 7) 14) ++ flat (inventory [] 2))
    (0 ∷ text "{\"db\":{\"a\":7}}" ++ 0 ∷ text "{}")
    ∷ row "the inventory of a directory named by a double quote, its files number 10 and b; staging file, log and open mark are not shown"
    (flat (inventory (hex "10 01 00 22 11 05 00 0A 00 00 00 22 11 05 00 FF FF FF FF 62 10 01 00 7A 12 05 00 01 00 00 00 73 13 00 00 14 00 00") 99))
    (0 ∷ text "{\"\\\"\":{\"\\\"\":10,\"b\":4294967295},\"z\":{}}")
    ∷ row "the inventory with one byte too few: 2; of an image that is refused: 1, before 2"
    (flat (inventory (db 7) 13) ++ flat (inventory [] 1) ++ flat (inventory (hex "10") 0))
    (hex "02 02 01")
    ∷ row "02: the rotation of current/a=1, db/a=7 and next/a=2, without a backup, and of what it leaves with a next/a=3 beside it"
    (flat (rotate (with_a current 1 ++ db 7 ++ with_a next 2) image_room) ++ flat (rotate (with_a backup 1 ++ with_a current 2 ++ db 7 ++ with_a next 3) image_room))
    (0 ∷ with_a backup 1 ++ with_a current 2 ++ db 7 ++ 0 ∷ with_a backup 2 ++ with_a current 3 ++ db 7)
    ∷ row "02: it is turned away: no current 19, before no next 20; a next without a file 20; an open transaction 3 and a Held log 17 before both; 2 before 3"
    (flat (rotate (db 7) image_room) ++ flat (rotate (with_a current 1) image_room) ++ flat (rotate (with_a current 1 ++ encode_field (record { tag = 0x10; value = next })) image_room)
    ++ flat (rotate ten_steps image_room) ++ flat (rotate held_ten image_room) ++ flat (rotate ten_steps 19_389) ++ flat (rotate (hex "10") 0))
    (hex "13 14 14 03 11 02 01")
    ∷ []

-- Every row computes to what is stated.
worked : map (λ r. r.computed) table ≡ map (λ r. r.stated) table
unfolding table with_a flat asked broke db ten_steps step_on list_at created wrong logged held_ten two_ops seven_ops
    text digit pairs hex bit times row equal
    crc32 register feed_byte shifts shift add_polynomial polynomial
    little_endian from_little_endian encode_field encode_fields fields_from decode_fields has_tag
    last_dot extension strip_extension backup_extension staging_extension backup_name original_name strip_tmp is_name_byte refused_names valid_name lower_byte lower
    field_table field_tags kind values tagged encode_payload makers valid_value op_of_fields decode_payload
    header entry valid_header first_payload first_cause walk entries read_journal mark_committing append_operation mark_held write_log
    cmp_key look put del dirs files valid_node valid_nodes valid_staged ascending well_formed has_backup_files first_backup has_pending_work
    image_fields encode tree_of staging_of log_of store_of decode
    remove_dir rename_dir apply zero_separated tag_and_names step_field step_fault
    op_steps undo_steps restore_file restore_directory remove_backup_file remove_backups_in first_namings sync_existing commit_fault plan_ending ending_at is_new_artifact recover_plan recovered_at recovered revert_plan reverted_at reverted keep_plan kept_at kept
    transaction begin_transaction discard record_write record_delete_collection record_copy key_list
    begin rollback write copy_collection delete_collection current next backup rotate commit recover_store recover recover_cause log_cause commit_step recover_step pending list_keys find_backup decimal listing_line listing ending_store hold keep_store keep revert_store revert hold_step keep_step revert_step canonical_log revert_cause
    contents collections escaped quoted object file_member collection_member inventory_text inventory
worked = agree table refl
