-- A header and an entry, written.
use Rattle.std.specs.Prelude.{Some}
use mathlib.Core.Path.{◌≡◌, refl, ◌∙◌}
use mathlib.Core.List.{[], ◌∷◌, ◌++◌}
use Prim.Native.Nat.{ℕ, ◌+◌, ◌-◌, ◌≤◌, ◌<◌}
use native.Mathlib.Omega.{arith}
use lib.ListN.{length}
use Rattle.basics.specs.Base.{Bytes}
use Rattle.basics.specs.Crc32.{crc32}
use Rattle.basics.specs.Field.{little_endian}
use Rattle.model.specs.Log.{header, entry}
use Rattle.model.specs.Operation.{encode_payload}
use Rattle.laws.specs.AppendLaws.{entry_length}
use Rattle.field.specs.Writing.{written, Writes}
use Rattle.field.proofs.Written.{written_then, written-room, written_none}
use Rattle.transaction.specs.Operations.{op_of, SoundOp, WritesOp}
use Rattle.transaction.specs.declared.Operation.{Operation}

-- The checksum goes behind the first four bytes of the header.
pub header_made : (status crc : ℕ) {h : Bytes} → crc ≡ crc32 (0xCA ∷ status ∷ []) → h ≡ written 4 (little_endian 4 crc) (0xCA ∷ status ∷ 0 ∷ 0 ∷ 0 ∷ 0 ∷ 0 ∷ 0 ∷ []) → h ≡ header status
unfolding header little_endian
header_made status crc e p = p ∙ written-room 4 _ _ (omega arith) ∙ rw e

-- Checksum and length, and the payload behind them.
module _ (at n : ℕ) (p out : Bytes) (l : n ≡ length p) where
  pub entry-written : {crc : ℕ} {one two new : Bytes} → crc ≡ crc32 p → one ≡ written at (little_endian 4 crc) out → two ≡ written (at + 4) (little_endian 4 n) one → new ≡ written (at + 8) p two →
      8 + n ≤ length out - at → Writes (entry p) at out new (8 + n)
  unfolding entry little_endian
  entry-written {crc} c a b d h = record {
    same = written_then at (at + 8) (little_endian 4 crc ++ little_endian 4 n) p out (written_then at (at + 4) (little_endian 4 crc) (little_endian 4 n) out a b refl (omega arith)) d refl (omega arith) ∙ rw (c, l);
    size = omega arith;
  }

  pub entry-none : length out - at < 8 + n → Writes (entry p) at out out (8 + n)
  entry-none h = record { same = written_none at (entry p) out (omega (arith, entry_length p)); size = omega (arith, entry_length p) }

-- The entry of an operation is that of its payload.
pub one_entry : (src : Bytes) (o : Operation) {items : Bytes} {at : ℕ} {out new : Bytes} {n : ℕ} → SoundOp src o → items ≡ encode_payload (op_of src o) → Writes (entry items) at out new n →
    WritesOp src o (entry (encode_payload (op_of src o))) at out new (Some n)
one_entry src o s e w = (s, rw (← e) w)
