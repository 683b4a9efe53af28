-- Where POSIX and the definitions part, computed on the smallest stores. None of it is met by a plan of a store that decode accepts (OnDisk,
-- DiskFaults).
use Rattle.std.specs.Prelude.{◌≡◌, ℕ, [], ◌∷◌, false, take}
use Rattle.std.proofs.Math.Path.{refl}
use Rattle.std.proofs.Math.Option.{Option, none, some}
use Rattle.basics.specs.Order.{Name, cmp_key}
use Rattle.basics.specs.Map.{Map, look}
use Rattle.basics.specs.Base.{Bytes}
use Rattle.basics.specs.Name.{backup_name, last_dot, extension, strip_extension, backup_extension, original_name, is_name_byte, refused_names, valid_name}
use Rattle.basics.specs.Crc32.{crc32, register, feed_byte, shifts, shift, add_polynomial}
use Rattle.basics.specs.Field.{little_endian}
use Rattle.model.specs.Log.{header, valid_header, walk, entries, read_journal}
use Rattle.model.specs.Store.{Store, dirs, files, valid_node, valid_nodes, ascending, well_formed}
use Rattle.model.specs.Step.{remove_log, rename_directory, copy_file, apply, fails, step_fault}
use Rattle.model.specs.Plan.{restore_directory, recover_plan}
use Rattle.posix.specs.Posix.{file, directory, empty, entry, find, enter, ok, resolve, change, call, calls}
use Rattle.basics.specs.Worked.{text}
use Rattle.posix.specs.Disk.{collections_name, journal_name, staging_name, log_name, folder, folders, root, disk, step_calls}
use Rattle.basic_laws.specs.ValidNames.{dot_bak}

abbrev d : Name
d = 0x64 ∷ []

abbrev e : Name
e = 0x65 ∷ []

abbrev f : Name
f = 0x66 ∷ []

abbrev store : Map → Option Bytes → Store
store t l = record { tree = t; staging = []; log = l; open_mark = false }

-- d/f=7, and the empty directory e.
abbrev small : Store
small = store (((d, []), 0) ∷ ((d, f), 7) ∷ ((e, []), 0) ∷ []) none

module _ (bytes : ℕ → Bytes) where
  -- A directory with a file, renamed to its own name: 01 counts its target as not empty (14), POSIX does nothing and succeeds.
  fails-onto_itself : step_fault (rename_directory d d) small ≡ some fails
  unfolding step_fault files
  fails-onto_itself = refl

  done-onto_itself : calls (step_calls (rename_directory d d) (disk bytes small)) (disk bytes small) ≡ ok (disk bytes small)
  unfolding step_calls call resolve find disk root folders folder dirs text collections_name journal_name staging_name log_name
  done-onto_itself = refl

  -- The calls of 0x27, cut behind the second: e/f stands and is empty, which no store says unless a number stands for no bytes.
  copied-in_place : calls (take 2 (step_calls (copy_file d e f) (disk bytes small))) (disk bytes small)
      ≡ ok (root (entry d (directory (entry f (file (bytes 7)) empty)) (entry e (directory (entry f (file []) empty)) empty)) empty none)
  unfolding step_calls call resolve change find enter disk root folders folder dirs text collections_name journal_name staging_name log_name
  copied-in_place = refl

-- A restore of "..bak.bak" makes the name "..bak", which POSIX takes as it stands. A recovery of the store with "..bak" would rename it to ".",
-- which is no name of its own. But that store is not well-formed: decode refuses its image.
restored_once : recover_plan (store (((backup_name dot_bak, []), 0) ∷ []) (some (header 1))) ≡ rename_directory (backup_name dot_bak) dot_bak ∷ remove_log ∷ []
unfolding recover_plan restore_directory dirs look cmp_key apply last_dot extension strip_extension backup_extension backup_name original_name
    read_journal valid_header entries walk header crc32 register feed_byte shifts shift add_polynomial little_endian
restored_once = refl

restored_twice : recover_plan (store (((dot_bak, []), 0) ∷ []) (some (header 1))) ≡ rename_directory dot_bak (0x2E ∷ []) ∷ remove_log ∷ []
unfolding recover_plan restore_directory dirs look cmp_key apply last_dot extension strip_extension backup_extension original_name
    read_journal valid_header entries walk header crc32 register feed_byte shifts shift add_polynomial little_endian
restored_twice = refl

not-well-formed : well_formed (store (((dot_bak, []), 0) ∷ []) (some (header 1))) ≡ false
unfolding well_formed ascending valid_nodes valid_node valid_name is_name_byte refused_names backup_extension
not-well-formed = refl
