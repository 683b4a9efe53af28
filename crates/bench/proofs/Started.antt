-- A store that was decoded is one that steps can be done on.
use mathlib.Core.Path.{ap}
use Prim.Native.Nat.{◌≤◌}
use native.Mathlib.Omega.{arith}
use mathlib.Core.List.{◌∷◌}
use lib.ListN.{length, length-append}
use Rattle.basics.specs.Name.{backup_extension, backup_name}
use Rattle.spans.specs.Spans.{name_of, Backup}
use Rattle.spans.specs.declared.NameRef.{NameRef}
use Rattle.std.specs.Prelude.{Option, Some, None, IfSome}
use Rattle.spans.proofs.Parts.{length-name}
use Rattle.basics.specs.Limits.{image_room}
use Rattle.basics.specs.Base.{Bytes}
use Rattle.model.specs.Store.{dirs, file_count}
use Rattle.model.specs.Image.{encode}
use Rattle.store.specs.Tables.{map_of}
use Rattle.store.specs.Stores.{store_of}
use Rattle.basic_laws.specs.Tests.{leb_le}
use Rattle.laws.specs.ImageLaws.{parts, decode-only}
use Rattle.basic_laws.specs.ValidNames.{valid_naming}
use Rattle.laws.specs.LengthLaws.{encode-length}
use Rattle.answer_laws.specs.EntryLaws.{lent-good}
use Rattle.decode.specs.Decoding.{Accepts}
use Rattle.decode.specs.declared.Decoded.{Decoded}
use Rattle.steps.specs.Steps.{Fits, FileName}

module _ (src : Bytes) (d : Decoded) (h : Accepts src d) where
  pub started : Fits src d.store
  started =
      let s = store_of src d.store in
      let p = parts s (decode-only src s h.same).1 in
      record {
        sound = h.sound;
        within = record {
          dirs = leb_le (length (dirs (map_of src d.store.tree))) 16 p.dirs_fit;
          files = leb_le (file_count (map_of src d.store.tree)) 128 p.files_fit;
        };
      }

  -- Its image has at most so many bytes.
  pub image-room : length (encode (store_of src d.store)) ≤ image_room
  image-room = let s = store_of src d.store in encode-length valid_naming s (lent-good src s h.same)

-- A backup name can be given to a rename.
pub backup-name : (src : Bytes) (r : NameRef) (b : Option NameRef) → Backup src r b → IfSome b (FileName src)
unfolding backup_name
backup-name src r (Some q) n =
    let l = length-name n.sound in
    let m = ap length n.same in
    let a = length-append (name_of src r) (0x2E ∷ backup_extension) in
    record { sound = n.sound; some = omega arith }
backup-name src r None n = record {}
