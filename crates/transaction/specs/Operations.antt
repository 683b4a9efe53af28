-- What an `Operation` stands for, and what decoding answers.
use Rattle.std.specs.Prelude.{◌≡◌, ℕ, ◌-◌, ◌≤◌, [], Bool, ◌&&◌, length, take, drop, leb, if◌then◌else◌, IfSome, Some, None}
use Rattle.std.specs.Prelude as std
use Rattle.std.proofs.Math.Option.{Option, none, some}
use Rattle.basics.specs.Base.{Bytes}
use Rattle.model.specs.Operation.{Op, write, delete, delete_all, create_collection, delete_collection, copy_collection, encode_payload, decode_payload}
use Rattle.field.specs.Writing.{Writes}
use Rattle.spans.specs.Spans.{name_of, Sound}
use Rattle.transaction.specs.declared.Operation.{Operation}
use Rattle.transaction.specs.declared.Operation.TheVariants as code
use Rattle.fixed_vec.specs.FixedVec.{FixedVec}

abbrev pub op_of : Bytes → Operation → Op
op_of src (code.Write c k s) = write (record { collection = name_of src c; key = name_of src k; staged = name_of src s; mark = none })
op_of src (code.Delete c k) = delete (name_of src c) (name_of src k)
op_of src (code.DeleteAll c) = delete_all (name_of src c)
op_of src (code.CreateCollection c) = create_collection (name_of src c)
op_of src (code.DeleteCollection c) = delete_collection (name_of src c)
op_of src (code.CopyCollection a b x) = copy_collection (name_of src a) (name_of src b) x
op_of src (code.MarkedWrite c k s x) = write (record { collection = name_of src c; key = name_of src k; staged = name_of src s; mark = some x })

-- All its names lie in the bytes.
abbrev pub SoundOp : Bytes → Operation → Type 0
SoundOp src (code.Write c k s) = Sound src c × (Sound src k × Sound src s)
SoundOp src (code.Delete c k) = Sound src c × Sound src k
SoundOp src (code.DeleteAll c) = Sound src c
SoundOp src (code.CreateCollection c) = Sound src c
SoundOp src (code.DeleteCollection c) = Sound src c
SoundOp src (code.CopyCollection a b x) = Sound src a × Sound src b
SoundOp src (code.MarkedWrite c k s x) = Sound src c × (Sound src k × Sound src s)

-- The operation of an unused place.
abbrev pub unused : Operation
unused = code.DeleteAll (record { start = 0; len = 0; baks = 0 })

-- What a decoder's answer stands for: the operation, or none where the bytes do not decode.
abbrev pub decoded_of : Bytes → std.Option Operation → Option Op
decoded_of src (Some o) = some (op_of src o)
decoded_of src None = none

-- A part of the bytes that spans can point into: their starts are numbers of two bytes.
pub record Bounds (src : Bytes) (start end : ℕ) : Type 0 where
  pub ordered : start ≤ end
  pub within : end ≤ length src
  pub short : length src ≤ 0xFFFF

unfoldable pub in_bounds : Bytes → ℕ → ℕ → Bool
in_bounds src start end = leb start end && leb end (length src) && leb (length src) 0xFFFF

abbrev pub part : Bytes → ℕ → ℕ → Bytes
part src start end = take (end - start) (drop start src)

-- What the payload between two places decodes to; nothing where these are out of bounds.
unfoldable pub decoded_at : Bytes → ℕ → ℕ → Option Op
decoded_at src start end = if in_bounds src start end then decode_payload (part src start end) else none

-- What `decode_operation` answers.
pub record Decodes (src : Bytes) (start end : ℕ) (d : std.Option Operation) : Type 0 where
  pub sound : IfSome d (SoundOp src)
  pub same : decoded_of src d ≡ decoded_at src start end

-- What `payload_of` answers: the payload, and none where the operation's names do not all lie in the bytes. A payload has room for five fields of 3 + 64
-- bytes each.
abbrev pub Encodes : Bytes → Operation → std.Option (FixedVec ℕ) → Type 0
Encodes src o None = SoundOp src o → ⊥
Encodes src o (Some p) = SoundOp src o × (p.items ≡ encode_payload (op_of src o))

-- What a function does that writes bytes made of an operation: nothing is written where its names do not all lie in the bytes.
abbrev pub WritesOp : Bytes → Operation → Bytes → ℕ → Bytes → Bytes → std.Option ℕ → Type 0
WritesOp src o bytes at before after None = (SoundOp src o → ⊥) × (after ≡ before)
WritesOp src o bytes at before after (Some n) = SoundOp src o × Writes bytes at before after n
