-- The fields of a hit, by what was written.
use mathlib.Core.Path.{◌≡◌, sym}
use mathlib.Core.List.{◌++◌, append-nil}
use Prim.Native.Nat.{ℕ, ◌+◌, ◌≤◌}
use native.Mathlib.Omega.{arith}
use lib.ListN.{length, length-append}
use Rattle.std.specs.Prelude.{None, Some}
use Rattle.basics.specs.Base.{Bytes}
use Rattle.basics.specs.Field.{little_endian, encode_field, encode_fields}
use Rattle.model.specs.Image.{hit_fields}
use Rattle.field.specs.Writing.{written, field}
use Rattle.field.proofs.Written.{written-nil, written_then, encoded_length}
use Rattle.spans.specs.Spans.{name_of, length_of, Sound}
use Rattle.spans.specs.declared.NameRef.{NameRef}
use Rattle.spans.proofs.Parts.{length-name}
use Rattle.store.specs.declared.Node.{Node}
use Rattle.store.specs.Tables.{SoundNode}
use Rattle.recovery.specs.Searches.{hit_of}
use Rattle.recovery.specs.declared.search.BackupHit.TheVariants.{File, Directory}
use Rattle.encode.specs.Encoding.{Puts}
use Rattle.encode.proofs.Shapes.{numbered-length}

module _ {src out : Bytes} where
  pub dir-put : {d : NameRef} {end : Bytes} {l : ℕ} → Sound src d → l ≡ length_of d → end ≡ written 0 (encode_field (field 0x10 (name_of src d))) out → Puts (encode_fields (hit_fields (hit_of src (Some (Directory d))))) 0 out end (3 + l)
  unfolding encode_fields
  dir-put {d} s e p = rw append-nil (record { same = p; place = omega (arith, encoded_length (field 0x10 (name_of src d)), length-name s) })

  pub file-put : {x : Node} {mid end : Bytes} {l k : ℕ} → SoundNode src x → length (encode_fields (hit_fields (hit_of src (Some (File x))))) ≤ length out → l ≡ length_of x.dir → k ≡ length_of x.file → mid ≡ written 0 (encode_field (field 0x10 (name_of src x.dir))) out
      → end ≡ written (3 + l) (encode_field (field 0x11 (little_endian 4 x.number ++ name_of src x.file))) mid → Puts (encode_fields (hit_fields (hit_of src (Some (File x))))) 0 out end (3 + l + 7 + k)
  unfolding encode_fields
  file-put {x} s room e f p q =
      let a : Bytes = encode_field (field 0x10 (name_of src x.dir)) in
      let b : Bytes = encode_field (field 0x11 (little_endian 4 x.number ++ name_of src x.file)) in
      let r : length (a ++ b) ≤ length out = rw append-nil at room in
      let i = encoded_length (field 0x10 (name_of src x.dir)) in
      let j = numbered-length 0x11 x.number (name_of src x.file) in
      let c = length-append a b in
      let g = length-name s.dir in
      let h = length-name s.file in
      rw append-nil (record { same = written_then 0 _ a b out p q (omega arith) (omega arith); place = omega arith })

pub none-put : (src out : Bytes) → Puts (encode_fields (hit_fields (hit_of src None))) 0 out out 0
unfolding encode_fields
none-put src out = record { same = sym (written-nil 0 out); place = omega arith }
