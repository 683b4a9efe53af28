-- The worked cases of document 01, computed: each row's name, what the definitions compute, and what 01 says. [P] as in 01. Rows that begin with
-- 02 are of document 02's requests. What only the exported entries have stands in crate answers, Cases.
use Rattle.std.specs.Prelude.{◌≡◌, refl, ℕ, List, [], ◌∷◌, ◌++◌, map, Bool, true, false, length, take}
use Prim.Native.String.{String}
use Rattle.std.proofs.Math.Option.{Option, none, some}
use Rattle.std.proofs.Math.Bool.{xor}
use Rattle.basics.specs.Order.{cmp_key}
use Rattle.basics.specs.Map.{Map, Node, look, put, del}
use Rattle.basics.specs.Base.{Bytes, case_option, is_some, flat_map}
use Rattle.basics.specs.Name.{last_dot, extension, strip_extension, backup_extension, staging_extension, backup_name, original_name, strip_tmp, is_backup, is_name_byte, refused_names, valid_name, lower_byte, lower}
use Rattle.basics.specs.Crc32.{polynomial, generator, add_front, divide, remainder, bits_of, of_bits, message_bits, complement_first, zeros, dividend, ieee_crc32, crc32, register, feed_byte, shifts, shift, add_polynomial}
use Rattle.basics.specs.Field.{little_endian, from_little_endian, encode_field, encode_fields, fields_from, decode_fields, has_tag}
use Rattle.basics.specs.Worked.{text, digit, pairs, hex, bit, times, Row, row, equal, agree}
use Rattle.model.specs.Operation as operation
use Rattle.model.specs.Operation.{Op, field_table, field_tags, kind, values, tagged, encode_payload, makers, valid_value, op_of_fields, decode_payload}
use Rattle.model.specs.Log.{header, entry, valid_header, first_payload, walk, entries, read_journal, mark_committing, mark_held, append_operation, write_log, Journal, absent, recording, committing, held, journal, Ending, whole, truncated, undecodable, too_many, cause_number, first_cause}
use Rattle.model.specs.Store.{Store, dirs, files, valid_node, valid_nodes, valid_staged, ascending, well_formed, has_backup_files, first_backup}
use Rattle.model.specs.Image.{hit_fields, image_fields, encode, tree_of, staging_of, log_of, store_of, decode}
use Rattle.model.specs.Step.{remove_dir, rename_dir, apply, zero_separated, tag_and_names, step_field, field_at, step_fault, commit_number}
use Rattle.model.specs.Plan.{op_steps, undo_steps, restore_file, restore_directory, remove_backup_file, remove_backups_in, first_namings, sync_existing, commit_fault, commit_plan, committed_at, hold_plan, held_at, plan_ending, ending_at, is_new_artifact, unheld, recover_fault, recover_plan, recovered_at, recovered, revert_plan, reverted_at, reverted, keep_plan, kept_at, kept}
use Rattle.model.specs.Record.{Outcome, refuse, give, transaction, begin_transaction, discard, record_write, other_case, case_renamed, record_delete, key_fields, key_set, record_deletes, record_delete_keys, record_delete_all, record_create, record_delete_collection, record_copy, key_list}

-- A log by how it is read: "absent", or status, number of operations, and 0 whole, 1 to 3 how it is truncated, 11, 12.
ending : Ending → ℕ
ending whole = 0
ending (truncated c) = cause_number c
ending undecodable = 11
ending too_many = 12

read_as : Journal → Bytes
unfolding ending
read_as absent = text "absent"
read_as (recording o e) = 0 ∷ length o ∷ ending e ∷ []
read_as (committing o e) = 1 ∷ length o ∷ ending e ∷ []
read_as (held o e) = 2 ∷ length o ∷ ending e ∷ []

read_log : Bytes → Bytes
unfolding read_as
read_log l = read_as (journal (some l))

-- A directory, a file of it, a staging file; a log of this status and operations.
dir : String → Node
dir d = ((text d, []), 0)

file : String → String → ℕ → Node
file d f x = ((text d, text f), x)

staged : String → ℕ → Node
staged f x = (([], text f), x)

logged : ℕ → List Op → Option Bytes
logged status ops = some (write_log status ops)

-- A store with nothing else; with a standing log; with a transaction open whose operations these are.
plain : Map → Store
plain t = record { tree = t; staging = []; log = none; open_mark = false }

with_log : Map → Option Bytes → Store
with_log t l = record { tree = t; staging = []; log = l; open_mark = false }

recorded : Map → Map → List Op → Store
unfolding logged
recorded t g ops = record { tree = t; staging = g; log = logged 0 ops; open_mark = true }

-- A Write into collection db of kind 1 (no mark) or 7; into another collection.
into : Option Bool → String → String → String → Op
into mark c key f = operation.write (record { collection = text c; key = text key; staged = text f; mark = mark })

to_db : Option Bool → String → String → Op
unfolding into
to_db mark = into mark "db"

-- db/a with this number.
db : ℕ → Map
unfolding dir file
db x = dir "db" ∷ file "db" "a" x ∷ []

-- The ten-step case of 01, "db/a=7, Write of 9 to a, staged as s.tmp", in an old log, of kind 1; the same as it is recorded now, of kind 7.
ten_steps : Store
unfolding recorded db staged to_db
ten_steps = recorded (db 7) (staged "s.tmp" 9 ∷ []) (to_db none "a" "s.tmp" ∷ [])

marked_ten : Store
unfolding recorded db staged to_db
marked_ten = recorded (db 7) (staged "s.tmp" 9 ∷ []) (to_db (some true) "a" "s.tmp" ∷ [])

-- "db/a=1, then Writes of 2 and 3 to a"
two_writes : Store
unfolding recorded db staged to_db
two_writes = recorded (db 1) (staged "s" 2 ∷ staged "t" 3 ∷ []) (to_db none "a" "s" ∷ to_db none "a" "t" ∷ [])

-- db/a=1 and one staging file for two Writes: the second one fails. Of kind 1, or marked.
failing_write : Option Bool → Option Bool → Store
unfolding recorded db staged to_db
failing_write a b = recorded (db 1) (staged "s" 2 ∷ []) (to_db a "a" "s" ∷ to_db b "b" "s" ∷ [])

-- "Delete collection c, then copy c to another, d", or "to c instead".
deleted_copied : String → Bool → Store
unfolding recorded dir file
deleted_copied d existed = recorded (dir "c" ∷ file "c" "a" 1 ∷ []) [] (operation.delete_collection (text "c") ∷ operation.copy_collection (text "c") (text d) existed ∷ [])

-- "Write to an existing key of c, then delete collection c"
written_deleted : Store
unfolding recorded dir file staged into
written_deleted = recorded (dir "c" ∷ file "c" "a" 7 ∷ []) (staged "s" 9 ∷ []) (into none "c" "a" "s" ∷ operation.delete_collection (text "c") ∷ [])

-- db/a=7 and a Committing log of a Write to a, with one byte behind it.
truncated_write : Option Bool → Store
unfolding with_log db to_db
truncated_write mark = with_log (db 7) (some (write_log 1 (to_db mark "a" "s" ∷ []) ++ hex "00"))

-- What is answered: the number, and behind 0, 14 and 15 the image.
outcome : Outcome → Bytes
outcome (refuse n) = n ∷ []
outcome (give s) = 0 ∷ encode s

done : Map → Bytes
unfolding plain
done t = 0 ∷ encode (plain t)

commits : Store → Bytes
commits s = commit_number (commit_fault s) ∷ encode (committed_at (length (commit_plan s)) s)

recovers : Store → Bytes
recovers s = case_option (recover_fault (journal s.log) s.tree) (0 ∷ encode (recovered s)) (λ n. n ∷ [])

-- Recovery after n steps of commit; after n steps and m of a recovery that is cut.
cut_at : Store → ℕ → Bytes
unfolding recovers
cut_at s n = recovers (committed_at n s)

cut_again : Store → ℕ → ℕ → Bytes
unfolding recovers
cut_again s n m = recovers (recovered_at m (committed_at n s))

-- The ten-step case held, of kind 7 and of kind 1; revert and keep of a Held store.
held_ten : Store
unfolding marked_ten
held_ten = held_at (length (hold_plan marked_ten)) marked_ten

held_old : Store
unfolding ten_steps
held_old = held_at (length (hold_plan ten_steps)) ten_steps

reverts : Store → Bytes
reverts s = case_option (recover_fault (unheld (journal s.log)) s.tree) (0 ∷ encode (reverted s)) (λ n. n ∷ [])

keeps : Store → Bytes
keeps s = 0 ∷ encode (kept s)

-- The field of step n of commit.
step_at : Store → ℕ → Bytes
step_at s n = field_at n (commit_plan s)

-- What names the backup that a search meets.
met : Map → Bytes
met t = encode_fields (hit_fields (first_backup t))

-- An open transaction without operations.
begun : Map → Store
unfolding recorded
begun t = recorded t [] []

names : List Row
names =
    row "an empty name is refused [P]"
    (bit (valid_name []))
    (hex "00")
    ∷ row "a.bak is a backup [P]"
    (bit (is_backup (text "a.bak")))
    (hex "01")
    ∷ row ".bak has no extension [P]"
    (bit (is_some (extension (text ".bak"))))
    (hex "00")
    ∷ row "a.BAK isn't a backup"
    (bit (is_backup (text "a.BAK")))
    (hex "00")
    ∷ row "..a is accepted"
    (bit (valid_name (text "..a")))
    (hex "01")
    ∷ row "..bak is refused"
    (bit (valid_name (text "..bak")))
    (hex "00")
    ∷ row "...bak is refused"
    (bit (valid_name (text "...bak")))
    (hex "00")
    ∷ row "64 bytes are accepted"
    (bit (valid_name (times 64 (text "x"))))
    (hex "01")
    ∷ row "65 bytes are refused"
    (bit (valid_name (times 65 (text "x"))))
    (hex "00")
    ∷ []

logs : List Row
unfolding read_log
logs =
    row "CRC-32 of 123456789 by the register: the published check value"
    (little_endian 4 (crc32 (text "123456789")))
    (hex "26 39 F4 CB")
    ∷ row "CRC-32 of 123456789 by IEEE 802.3's division"
    (little_endian 4 (ieee_crc32 (text "123456789")))
    (hex "26 39 F4 CB")
    ∷ row "a log of 0 to 7 bytes, here the first ones of a valid header: as if absent [P]"
    (flat_map (λ n. read_log (take n (header 0))) (0 ∷ 1 ∷ 2 ∷ 3 ∷ 4 ∷ 5 ∷ 6 ∷ 7 ∷ []))
    (times 8 (text "absent"))
    ∷ row "02: status 0x02: Held, and 0x03: as if absent"
    (read_log (header 2) ++ read_log (header 3))
    (hex "02 00 00" ++ text "absent")
    ∷ row "a valid header alone: no operations, not truncated [P]"
    (read_log (header 0))
    (hex "00 00 00")
    ∷ row "payload length 0: truncated [P]"
    (read_log (header 0 ++ entry []))
    (hex "00 00 02")
    ∷ row "a byte after the last entry: truncated; earlier operations count"
    (read_log (append_operation (operation.delete_all (text "d")) (header 1) ++ hex "00"))
    (hex "01 01 01")
    ∷ row "02: 1 to 7 bytes behind the last entry are 1, entry header too short"
    (flat_map (λ n. read_log (header 1 ++ times n (hex "00"))) (1 ∷ 2 ∷ 3 ∷ 4 ∷ 5 ∷ 6 ∷ 7 ∷ []))
    (times 7 (hex "01 00 01"))
    ∷ row "02: length 0, and one byte past the end, are 2, payload missing"
    (read_log (header 1 ++ entry []) ++ read_log (header 1 ++ take 9 (entry (text "xy"))))
    (hex "01 00 02 01 00 02")
    ∷ row "02: a changed byte is 3, checksum wrong"
    (read_log (header 1 ++ take 8 (entry (text "x")) ++ text "y"))
    (hex "01 00 03")
    ∷ row "right checksum, payload that doesn't decode: 11, not truncated"
    (read_log (header 1 ++ entry (text "x")))
    (hex "01 00 0B")
    ∷ row "32 operations and the end: accepted"
    (read_log (header 1 ++ times 32 (entry (encode_payload (operation.delete_all (text "d"))))))
    (hex "01 20 00")
    ∷ row "one byte more: 12"
    (read_log (header 1 ++ times 32 (entry (encode_payload (operation.delete_all (text "d")))) ++ hex "00"))
    (hex "01 20 0C")
    ∷ row "CreateCollection of db [P]"
    (encode_payload (operation.create_collection (text "db")))
    (hex "01 01 00 04 02 02 00 64 62")
    ∷ row "02: a Write of s to a key of db that stood: kind 7, mark 1"
    (encode_payload (operation.write (record { collection = text "db"; key = text "a"; staged = text "s"; mark = some true })))
    (hex "01 01 00 07 02 02 00 64 62 03 01 00 61 04 01 00 73 07 01 00 01")
    ∷ row "02: a mark of 2 doesn't decode"
    (bit (is_some (decode_payload (hex "01 01 00 07 02 02 00 64 62 03 01 00 61 04 01 00 73 07 01 00 02"))))
    (hex "00")
    ∷ []

recordings : List Row
unfolding begun db dir file plain outcome commits recorded logged deleted_copied two_writes cut_at
recordings =
    row "the store db/a=7 [P]"
    (encode (plain (db 7)))
    (hex "10 02 00 64 62 11 05 00 07 00 00 00 61")
    ∷ row "and that image read as a store again [P]"
    (case_option (decode (hex "10 02 00 64 62 11 05 00 07 00 00 00 61")) [] encode)
    (encode (plain (db 7)))
    ∷ row "writing K records k [P]: staging file s=9; the log's header and its entry; the open mark"
    (outcome (record_write (text "db") (text "K") (text "s") 9 (begun (db 7))))
    (hex "00" ++ encode (plain (db 7))
    ++ hex "12 05 00 09 00 00 00 73"
    ++ hex "13 25 00 CA 00 00 00 3B 2D CC 70"  -- 0x13, 37 bytes: 0xCA, Recording, two zeros, CRC-32
    ++ hex "22 72 A9 9A 15 00 00 00"  -- CRC-32 of the payload, its 21 bytes
    ++ hex "01 01 00 07 02 02 00 64 62 03 01 00 6B 04 01 00 73 07 01 00 00"  -- kind 7, db, k, s, k was not there
    ++ hex "14 00 00")
    ∷ row "deleting k where only K stands renames K to k at once; a rollback leaves it so"
    (after_delete (record_delete (text "db") (text "k") (begun (dir "db" ∷ file "db" "K" 7 ∷ []))))
    (outcome (give (plain (dir "db" ∷ file "db" "k" 7 ∷ []))))
    ∷ row "02: deleting K, a and k at once: k counts once, its case rename is made, both are recorded in the given order"
    (outcome (record_delete_keys (text "db") (hex "03 01 00 4B 03 01 00 61 03 01 00 6B") (begun (dir "db" ∷ file "db" "K" 7 ∷ file "db" "a" 1 ∷ []))))
    (outcome (give (recorded (dir "db" ∷ file "db" "a" 1 ∷ file "db" "k" 7 ∷ []) [] (operation.delete (text "db") (text "k") ∷ operation.delete (text "db") (text "a") ∷ []))))
    ∷ row "02: deleting k and a missing x at once: nothing is renamed or recorded"
    (outcome (record_delete_keys (text "db") (hex "03 01 00 6B 03 01 00 78") (begun (dir "db" ∷ file "db" "K" 7 ∷ []))))
    (outcome (refuse 8))
    ∷ row "deleting all in a missing collection is recorded"
    (outcome (record_delete_all (text "d") (begun (db 7))))
    (outcome (give (recorded (db 7) [] (operation.delete_all (text "d") ∷ []))))
    ∷ row "files A and a are listed as a twice"
    (key_list (text "db") (plain (dir "db" ∷ file "db" "A" 1 ∷ file "db" "a" 2 ∷ [])))
    (hex "03 01 00 61 03 01 00 61")
    ∷ row "copying a collection onto itself ends with it empty"
    (commits (recorded (db 7) [] (operation.copy_collection (text "db") (text "db") true ∷ [])))
    (0 ∷ encode (plain (dir "db" ∷ [])))
    ∷ row "db/a=1, Writes of 2 and 3 to a: the second backup replaces the first, and a rollback gives a=2"
    (cut_at two_writes 7)
    (0 ∷ encode (plain (db 2)))
    ∷ row "delete collection c, then copy c to d: commit fails, refusal 14, and c stands again"
    (commits (deleted_copied "d" false))
    (14 ∷ encode (plain (dir "c" ∷ file "c" "a" 1 ∷ [])))
    ∷ row "copied to c instead, c ends empty"
    (commits (deleted_copied "c" true))
    (0 ∷ encode (plain (dir "c" ∷ [])))
    ∷ []
  where
    after_delete : Outcome → Bytes
    after_delete (refuse n) = n ∷ []
    after_delete (give s) = outcome (discard s)

recoveries : List Row
unfolding db dir file plain with_log done recovers cut_at cut_again step_at ten_steps marked_ten written_deleted truncated_write failing_write
recoveries =
    row "a Committing log whose payload doesn't decode: refusal 11"
    (recovers (with_log (db 7) (some (header 1 ++ entry (text "x")))))
    (hex "0B")
    ∷ row "a truncated Committing log and a backup: refusal 13"
    (recovers (with_log (dir "db" ∷ file "db" "a.bak" 1 ∷ []) (some (header 1 ++ hex "00"))))
    (hex "0D")
    ∷ row "a truncated Committing log and nothing done: the log is discarded"
    (recovers (with_log (db 7) (some (header 1 ++ hex "00"))))
    (done (db 7))
    ∷ row "Write to an existing key of c, then delete collection c, all applied: recovery restores the directory c, but not the .bak file inside it"
    (cut_at written_deleted 6)
    (done (dir "c" ∷ file "c" "a" 9 ∷ file "c" "a.bak" 7 ∷ []))
    ∷ row "the ten steps: step 0 has no field" (step_at ten_steps 0) []
    ∷ row "0x20" (step_at ten_steps 1) (hex "20 00 00")
    ∷ row "0x21" (step_at ten_steps 2) (hex "21 00 00")
    ∷ row "0x22" (step_at ten_steps 3) (hex "22 00 00")
    ∷ row "a to a.bak" (step_at ten_steps 4) (hex "24 0A 00 64 62 00 61 00 61 2E 62 61 6B")
    ∷ row "s.tmp to a" (step_at ten_steps 5) (hex "25 0A 00 73 2E 74 6D 70 00 64 62 00 61")
    ∷ row "sync db" (step_at ten_steps 6) (hex "2D 02 00 64 62")
    ∷ row "sync collections" (step_at ten_steps 7) (hex "2D 00 00")
    ∷ row "remove log" (step_at ten_steps 8) (hex "2B 00 00")
    ∷ row "sync journal" (step_at ten_steps 9) (hex "2E 00 00")
    ∷ row "remove a.bak" (step_at ten_steps 10) (hex "28 08 00 64 62 00 61 2E 62 61 6B")
    ∷ row "recovery after 0 steps: a=7 [P]" (cut_at ten_steps 0) (done (db 7))
    ∷ row "after 1 to 3: a is gone" (flat_map (cut_at ten_steps) (1 ∷ 2 ∷ 3 ∷ [])) (times 3 (done (dir "db" ∷ [])))
    ∷ row "after 4: a=7 [P]" (cut_at ten_steps 4) (done (db 7))
    ∷ row "after 5 to 7: a=7" (flat_map (cut_at ten_steps) (5 ∷ 6 ∷ 7 ∷ [])) (times 3 (done (db 7)))
    ∷ row "after 8: a=9 [P]" (cut_at ten_steps 8) (done (db 9))
    ∷ row "after 9 and 10: a=9" (flat_map (cut_at ten_steps) (9 ∷ 10 ∷ [])) (times 2 (done (db 9)))
    ∷ row "a commit that fails at its second Write (14) and is cut after 7 steps: a is gone, so demand 3 leaves failing commits out"
    (cut_at (failing_write none none) 7)
    (done (dir "db" ∷ []))
    ∷ row "02: the ten-step case as it is recorded now: recovery after 0 to 7 steps gives a=7, after 8 to 10 a=9"
    (flat_map (cut_at marked_ten) (0 ∷ 1 ∷ 2 ∷ 3 ∷ 4 ∷ 5 ∷ 6 ∷ 7 ∷ 8 ∷ 9 ∷ 10 ∷ []))
    (times 8 (done (db 7)) ++ times 3 (done (db 9)))
    ∷ row "02: a truncated Committing log, a Write of kind 1 to an existing key, nothing done: 13"
    (recovers (truncated_write none))
    (hex "0D")
    ∷ row "02: of kind 7, mark 1: its target is not counted, and the log is discarded"
    (recovers (truncated_write (some true)))
    (done (db 7))
    ∷ row "02: of kind 7, mark 0: 13"
    (recovers (truncated_write (some false)))
    (hex "0D")
    ∷ row "02: recovery cut after its first step at 5 (a removed, a.bak stands), then recovered: a=7"
    (cut_again marked_ten 5 1)
    (done (db 7))
    ∷ row "02: recovery cut after its second step at 5 (a.bak put back), then recovered: a=7"
    (cut_again marked_ten 5 2)
    (done (db 7))
    ∷ row "02: the same of kind 1: a is gone"
    (cut_again ten_steps 5 2)
    (done (dir "db" ∷ []))
    ∷ row "02: the failing commit, of marked Writes, cut after 7 steps: a=1"
    (cut_at (failing_write (some true) (some false)) 7)
    (done (db 1))
    ∷ row "a restore of ..bak.bak gives the refused name ..bak"
    (recovers (with_log (dir "db" ∷ file "db" "..bak.bak" 1 ∷ []) (some (header 1))))
    (done (dir "db" ∷ file "db" "..bak" 1 ∷ []))
    ∷ []

holding : List Row
unfolding db dir file plain with_log done outcome commits recovers reverts keeps marked_ten ten_steps held_ten held_old recorded to_db
holding =
    row "02: hold of the ten-step case: a=9 and a.bak=7 under a Held log, no staging file, no open mark"
    (encode held_ten)
    (encode (with_log (dir "db" ∷ file "db" "a" 9 ∷ file "db" "a.bak" 7 ∷ []) (logged 2 (to_db (some true) "a" "s.tmp" ∷ []))))
    ∷ row "02: it has nine steps, the last two rewrite header and sync log"
    (length (hold_plan marked_ten) ∷ field_at 8 (hold_plan marked_ten) ++ field_at 9 (hold_plan marked_ten))
    (hex "09 20 00 00 22 00 00")
    ∷ row "02: revert: a=7, of kind 7 and of kind 1"
    (reverts held_ten ++ reverts held_old)
    (times 2 (done (db 7)))
    ∷ row "02: keep: the commit's image" (keeps held_ten) (commits marked_ten)
    ∷ row "02: recovery changes nothing" (recovers held_ten) (0 ∷ encode held_ten)
    ∷ row "02: begin: 17" (outcome (begin_transaction held_ten)) (hex "11")
    ∷ row "02: revert cut after its first step (a removed), then reverted: a=7" (reverts (reverted_at 1 held_ten)) (done (db 7))
    ∷ row "02: keep cut after its first step (log gone), then recovered: a=9" (recovers (kept_at 1 held_ten)) (commits marked_ten)
    ∷ row "02: revert cut after its first step, then kept: a is gone; a revert that was begun must be finished"
    (keeps (reverted_at 1 held_ten))
    (done (dir "db" ∷ []))
    ∷ row "02: revert of a truncated Held log beside a backup: 13, and of an undecodable payload: 11"
    (reverts (with_log (dir "db" ∷ file "db" "a.bak" 1 ∷ []) (some (header 2 ++ hex "00"))) ++ reverts (with_log (db 7) (some (header 2 ++ entry (text "x")))))
    (hex "0D 0B")
    ∷ []

searches : List Row
unfolding dir file db met
searches =
    row "02: the first backup file in image order, b/y.bak=2, though the directory a.bak stands before it"
    (met (dir "a.bak" ∷ file "a.bak" "x" 1 ∷ dir "b" ∷ file "b" "y.bak" 2 ∷ file "b" "z.bak" 3 ∷ dir "c" ∷ file "c" "w.bak" 4 ∷ []))
    (hex "10 01 00 62 11 09 00 02 00 00 00 79 2E 62 61 6B")
    ∷ row "02: a backup file inside a directory that is a backup counts as any other"
    (met (dir "a.bak" ∷ file "a.bak" "x.bak" 1 ∷ dir "b" ∷ file "b" "y.bak" 2 ∷ []))
    (hex "10 05 00 61 2E 62 61 6B 11 09 00 01 00 00 00 78 2E 62 61 6B")
    ∷ row "02: no file is one: the first directory with a backup's name, b.bak"
    (met (dir "a" ∷ file "a" "x" 1 ∷ dir "b.bak" ∷ file "b.bak" "y" 2 ∷ dir "c.bak" ∷ []))
    (hex "10 05 00 62 2E 62 61 6B")
    ∷ row "02: no backup stands in db/a=7: nothing is named"
    (met (db 7))
    []
    ∷ []

table : List Row
unfolding names logs recordings recoveries holding searches
table = names ++ logs ++ recordings ++ recoveries ++ holding ++ searches

-- Every row computes to what is stated.
worked : map (λ r. r.computed) table ≡ map (λ r. r.stated) table
unfolding table names logs recordings recoveries holding searches
    text digit pairs hex bit times row equal
    ending read_as read_log dir file staged logged plain with_log recorded into to_db db begun outcome done commits recovers cut_at cut_again reverts keeps step_at met
    ten_steps marked_ten held_ten held_old two_writes failing_write deleted_copied written_deleted truncated_write
    polynomial generator add_front divide remainder bits_of of_bits message_bits complement_first zeros dividend ieee_crc32 xor crc32 register feed_byte shifts shift add_polynomial
    little_endian from_little_endian encode_field encode_fields fields_from decode_fields has_tag
    last_dot extension strip_extension backup_extension staging_extension backup_name original_name strip_tmp is_name_byte refused_names valid_name lower_byte lower
    field_table field_tags kind values tagged encode_payload makers valid_value op_of_fields decode_payload
    header entry valid_header first_payload first_cause walk entries read_journal mark_committing mark_held append_operation write_log
    cmp_key look put del dirs files valid_node valid_nodes valid_staged ascending well_formed has_backup_files first_backup
    image_fields encode tree_of staging_of log_of store_of decode
    remove_dir rename_dir apply zero_separated tag_and_names step_field step_fault
    op_steps undo_steps restore_file restore_directory remove_backup_file remove_backups_in first_namings sync_existing commit_fault plan_ending ending_at is_new_artifact recover_plan recovered_at recovered revert_plan reverted_at reverted keep_plan kept_at kept
    transaction begin_transaction discard record_write other_case case_renamed record_delete key_fields key_set record_deletes record_delete_keys record_delete_all record_create record_delete_collection record_copy key_list
worked = agree table refl
