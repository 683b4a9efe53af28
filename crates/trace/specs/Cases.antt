-- Worked cases of the line, computed. 02, item 10: "For the ten-step case of 01 with no fields the line is "steps 0"."
use Rattle.std.specs.Prelude.{◌≡◌, refl, ℕ, zero, suc, List, [], ◌∷◌, ◌++◌, map}
use Rattle.basics.specs.Limits.{image_room, step_room}
use Rattle.basics.specs.Order.{cmp_key}
use Rattle.basics.specs.Map.{look, put, del}
use Rattle.basics.specs.Base.{Bytes}
use Rattle.basics.specs.Name.{last_dot, extension, strip_extension, backup_extension, staging_extension, backup_name, original_name, strip_tmp, is_name_byte, refused_names}
use Rattle.basics.specs.Name.{valid_name, lower_byte, lower}
use Rattle.basics.specs.Crc32.{crc32, register, feed_byte, shifts, shift, add_polynomial, polynomial}
use Rattle.basics.specs.Field.{little_endian, from_little_endian, encode_field, encode_fields, fields_from, decode_fields, has_tag}
use Rattle.basics.specs.Worked.{text, digit, pairs, hex, bit, times, Row, row, equal, agree}
use Rattle.model.specs.Operation.{field_table, field_tags, kind, values, tagged, encode_payload, makers, valid_value, op_of_fields, decode_payload}
use Rattle.model.specs.Log.{header, entry, valid_header, first_payload, walk, entries, read_journal, mark_committing, append_operation}
use Rattle.model.specs.Store.{dirs, files, valid_node, valid_nodes, valid_staged, ascending, well_formed}
use Rattle.model.specs.Image.{image_fields, encode, tree_of, staging_of, log_of, store_of, decode}
use Rattle.model.specs.Step.{remove_dir, rename_dir, apply, zero_separated, tag_and_names, step_field, step_fault}
use Rattle.model.specs.Plan.{op_steps, remove_backup_file, remove_backups_in, first_namings, sync_existing, commit_fault, plan_ending, ending_at}
use Rattle.model.specs.Record.{transaction, begin_transaction, record_write}
use Rattle.answers.specs.Answers.{begin, write, commit_step, decimal}
use Rattle.trace.specs.Line.{image_length, said, line_from, trace_line}

-- db/a=7, and 01's ten-step case, recorded by the entries: begin, then a Write of 9 to a, staged as s.tmp.
db : Bytes
db = hex "10 02 00 64 62 11 05 00 07 00 00 00 61"

ten_steps : Bytes
unfolding db
ten_steps = (write (text "db") (text "a") (text "s.tmp") 9 (begin db image_room).image image_room).image

-- The fields of its first n steps.
fields : ℕ → Bytes
unfolding ten_steps
fields zero = []
fields (suc n) = fields n ++ (commit_step (suc n) ten_steps image_room step_room).step

table : List Row
unfolding db ten_steps fields
table =
    row "the ten-step case with no fields" (trace_line ten_steps) (text "steps 0\n")
    ∷ row "its first two steps" (trace_line (ten_steps ++ hex "20 00 00 21 00 00")) (text "steps 2\n")
    ∷ row "all ten, and one more"
    (trace_line (ten_steps ++ fields 10) ++ trace_line (ten_steps ++ fields 10 ++ hex "2E 00 00")) (text "steps 10\ndiffers at 11\n")
    ∷ row "another step than the plan's, also where it would come later"
    (trace_line (ten_steps ++ hex "20 00 00 22 00 00 21 00 00")) (text "differs at 2\n")
    ∷ row "a field cut short, and one that is no step"
    (trace_line (ten_steps ++ fields 4 ++ hex "25 0A") ++ trace_line (ten_steps ++ hex "FF")) (text "differs at 5\ndiffers at 1\n")
    ∷ row "no transaction: answer 4; a field of the image cut short: answer 1"
    (trace_line (db ++ hex "20 00 00") ++ trace_line [] ++ trace_line (hex "10 02 00 64")) (text "answer 4\nanswer 4\nanswer 1\n")
    ∷ []

-- Every row computes to what is stated.
worked : map (λ r. r.computed) table ≡ map (λ r. r.stated) table
unfolding table fields ten_steps db image_length said line_from trace_line
    text digit pairs hex bit times row equal
    crc32 register feed_byte shifts shift add_polynomial polynomial
    little_endian from_little_endian encode_field encode_fields fields_from decode_fields has_tag
    last_dot extension strip_extension backup_extension staging_extension backup_name original_name strip_tmp is_name_byte refused_names valid_name lower_byte lower
    field_table field_tags kind values tagged encode_payload makers valid_value op_of_fields decode_payload
    header entry valid_header first_payload walk entries read_journal mark_committing append_operation
    cmp_key look put del dirs files valid_node valid_nodes valid_staged ascending well_formed
    image_fields encode tree_of staging_of log_of store_of decode
    remove_dir rename_dir apply zero_separated tag_and_names step_field step_fault
    op_steps remove_backup_file remove_backups_in first_namings sync_existing commit_fault plan_ending ending_at
    transaction begin_transaction record_write
    begin write commit_step decimal
worked = agree table refl
