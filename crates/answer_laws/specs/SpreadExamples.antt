-- 02, item 14, by examples, computed: an altered file after which one file differs, others after which nothing does, and a commit that spreads one number
-- to two files.
use Rattle.std.specs.Prelude.{◌≡◌, refl, ℕ, suc, List, [], ◌∷◌, ◌++◌, map, take, drop}
use Rattle.basics.specs.Limits.{image_room, step_room}
use Rattle.basics.specs.Order.{cmp_key}
use Rattle.basics.specs.Map.{look, put, del}
use Rattle.basics.specs.Base.{Bytes}
use Rattle.basics.specs.Name.{last_dot, extension, strip_extension, backup_extension, staging_extension, backup_name, original_name, strip_tmp, is_name_byte, refused_names, valid_name, lower_byte, lower}
use Rattle.basics.specs.Crc32.{crc32, register, feed_byte, shifts, shift, add_polynomial, polynomial}
use Rattle.basics.specs.Field.{little_endian, from_little_endian, encode_field, encode_fields, fields_from, decode_fields}
use Rattle.basics.specs.Worked.{text, digit, pairs, hex, Row, row, equal, agree}
use Rattle.model.specs.Operation.{field_table, field_tags, kind, values, tagged, encode_payload, makers, valid_value, op_of_fields, decode_payload}
use Rattle.model.specs.Log.{header, entry, valid_header, first_payload, walk, entries, read_journal, mark_committing, mark_held, append_operation}
use Rattle.model.specs.Store.{dirs, files, valid_node, valid_nodes, valid_staged, ascending, well_formed}
use Rattle.model.specs.Image.{image_fields, encode, tree_of, staging_of, log_of, store_of, decode}
use Rattle.model.specs.Step.{remove_dir, rename_dir, apply, zero_separated, tag_and_names, step_field, step_fault}
use Rattle.model.specs.Plan.{op_steps, undo_steps, restore_file, restore_directory, remove_backup_file, remove_backups_in, first_namings, sync_existing, commit_fault, plan_ending, ending_at}
use Rattle.model.specs.Plan.{recover_plan, recovered, revert_plan, reverted, keep_plan, kept}
use Rattle.model.specs.Record.{transaction, begin_transaction, record_write, record_copy}
use Rattle.answers.specs.Answers.{Answer, begin, write, copy_collection, ending_store, commit, hold, recover_store, recover, keep_store, keep, revert_store, revert, commit_step}

-- An answer as its number and its image.
flat : Answer → Bytes
flat a = a.number ∷ a.image

-- The directory db with its file a, of this number (01: "The store db/a=7").
db : ℕ → Bytes
db x = hex "10 02 00 64 62 11 05 00" ++ x ∷ hex "00 00 00 61"

-- 01's ten-step case: begin, and a Write of y, staged as s.tmp, to db/a, which has the number x; cut after n of its steps; held.
writing : ℕ → ℕ → Bytes
unfolding db
writing x y = (write (text "db") (text "a") (text "s.tmp") y (begin (db x) image_room).image image_room).image

cut : ℕ → ℕ → ℕ → Bytes
unfolding writing
cut n x y = (commit_step n (writing x y) image_room step_room).image

holding : ℕ → ℕ → Bytes
unfolding writing
holding x y = (hold (writing x y) image_room).image

-- A transaction that copies db to e, and what it leaves: db/a and e/a.
copying : ℕ → Bytes
unfolding db
copying x = (copy_collection (text "db") (text "e") (begin (db x) image_room).image image_room).image

copied : ℕ → ℕ → Bytes
unfolding db
copied x y = db x ++ hex "10 01 00 65 11 05 00" ++ y ∷ hex "00 00 00 61"

-- An image with another byte at this place; a number's lowest byte stands first.
but : ℕ → ℕ → Bytes → Bytes
but n x b = take n b ++ x ∷ drop (suc n) b

table : List Row
unfolding flat db writing cut holding copying copied but
table =
    row "the images below are equal but for one number: of a.bak, of s.tmp, of a behind the move; at the held log of a, of a.bak; of a before the copy"
    (cut 4 8 9 ++ cut 4 7 5 ++ cut 5 7 5 ++ holding 7 5 ++ holding 8 9 ++ copying 8)
    (but 8 8 (cut 4 7 9) ++ but 20 5 (cut 4 7 9) ++ but 8 5 (cut 5 7 9) ++ but 8 5 (holding 7 9) ++ but 16 8 (holding 7 9) ++ but 8 8 (copying 7))
    ∷ row "cut after four steps and recovered: a.bak, altered from 7 to 8, is the one file that differs, as a"
    (flat (recover (cut 4 7 9) image_room) ++ flat (recover (cut 4 8 9) image_room))
    (0 ∷ db 7 ++ 0 ∷ db 8)
    ∷ row "cut before the move, and behind it: the written number, altered from 9 to 5, is removed, and nothing differs"
    (flat (recover (cut 4 7 9) image_room) ++ flat (recover (cut 4 7 5) image_room) ++ flat (recover (cut 5 7 9) image_room) ++ flat (recover (cut 5 7 5) image_room))
    (0 ∷ db 7 ++ 0 ∷ db 7 ++ 0 ∷ db 7 ++ 0 ∷ db 7)
    ∷ row "held, then reverted: what a.bak held; held, then kept: what a held. The other of both may be altered"
    (flat (revert (holding 7 5) image_room) ++ flat (revert (holding 8 9) image_room) ++ flat (keep (holding 7 5) image_room) ++ flat (keep (holding 8 9) image_room))
    (0 ∷ db 7 ++ 0 ∷ db 8 ++ 0 ∷ db 5 ++ 0 ∷ db 9)
    ∷ row "a commit that copies db to e, with db/a altered from 7 to 8: two files differ"
    (flat (commit (copying 7) image_room) ++ flat (commit (copying 8) image_room))
    (0 ∷ copied 7 7 ++ 0 ∷ copied 8 8)
    ∷ []

-- Every row computes to what is stated.
worked : map (λ r. r.computed) table ≡ map (λ r. r.stated) table
unfolding table flat db writing cut holding copying copied but
    text digit pairs hex row equal
    crc32 register feed_byte shifts shift add_polynomial polynomial
    little_endian from_little_endian encode_field encode_fields fields_from decode_fields
    last_dot extension strip_extension backup_extension staging_extension backup_name original_name strip_tmp is_name_byte refused_names valid_name lower_byte lower
    field_table field_tags kind values tagged encode_payload makers valid_value op_of_fields decode_payload
    header entry valid_header first_payload walk entries read_journal mark_committing mark_held append_operation
    cmp_key look put del dirs files valid_node valid_nodes valid_staged ascending well_formed image_fields encode tree_of staging_of log_of store_of decode
    remove_dir rename_dir apply zero_separated tag_and_names step_field step_fault
    op_steps undo_steps restore_file restore_directory remove_backup_file remove_backups_in first_namings sync_existing commit_fault plan_ending ending_at
    recover_plan recovered revert_plan reverted keep_plan kept transaction begin_transaction record_write record_copy
    begin write copy_collection ending_store commit hold recover_store recover keep_store keep revert_store revert commit_step
worked = agree table refl
