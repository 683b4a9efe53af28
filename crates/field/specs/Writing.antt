-- What writing into lent bytes leaves. 01, Sixteen numbers: "the lent output keeps its bytes behind them".
use Rattle.std.specs.Prelude.{◌≡◌, ℕ, ◌+◌, length, leb, if◌then◌else◌}
use Rattle.std.proofs.Math.Seq.{paste}
use Rattle.basics.specs.Base.{Bytes}
use Rattle.basics.specs.Field.{Field, encode_field}

-- The lent bytes after some bytes are written at a place; where they have no room nothing changes.
unfoldable pub written : ℕ → Bytes → Bytes → Bytes
written at bytes out = if leb (at + length bytes) (length out) then paste out at bytes (length bytes) else out

-- The same, and how many bytes these are, whether they had room or not.
pub record Writes (bytes : Bytes) (at : ℕ) (before after : Bytes) (n : ℕ) : Type 0 where
  pub same : after ≡ written at bytes before
  pub size : n ≡ length bytes

-- The field of a tag and a value.
abbrev pub field : ℕ → Bytes → Field
field tag value = record { tag = tag; value = value }

-- The same for a field. 01, How a store is handed over: "a length (2 bytes, little-endian)"; a longer value is not written.
unfoldable pub written_field : ℕ → Field → Bytes → Bytes
written_field at f out = if leb (length f.value) 0xFFFF then written at (encode_field f) out else out
