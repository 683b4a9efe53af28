-- The log of an image, with what a `Tail` puts behind it.
use Rattle.std.specs.Prelude.{[], ◌∷◌, ◌++◌, ℕ, ◌+◌, length}
use Rattle.std.specs.Prelude as std
use Rattle.std.proofs.Math.Option.{Option, none, some}
use Rattle.basics.specs.Base.{Bytes, case_option}
use Rattle.basics.specs.Field.{little_endian, encode_fields}
use Rattle.model.specs.Log.{header, append_operation}
use Rattle.model.specs.Image.{log_field}
use Rattle.store.specs.declared.LogRef.{LogRef}
use Rattle.store.specs.Stores.{log_bytes}
use Rattle.transaction.specs.Operations.{op_of}
use Rattle.wal.specs.declared.Tail.{Tail}
use Rattle.wal.specs.declared.Tail.TheVariants.{Nothing, Header, Entry}

-- The log that a tail leaves.
abbrev pub log_after : Bytes → Tail → Option Bytes → Option Bytes
log_after src Nothing log = log
log_after src Header log = some (header 0)
log_after src (Entry o) log = case_option log none (λ l. some (append_operation (op_of src o) l))

-- The bytes of its field.
abbrev pub field_after : Bytes → Tail → std.Option LogRef → Bytes
field_after src tail l = encode_fields (log_field (log_after src tail (log_bytes src l)))

-- The log's field up to the end of the log, which so many bytes of the field follow.
unfoldable pub log_start : ℕ → Option Bytes → Bytes
log_start more none = []
log_start more (some l) = 0x13 ∷ little_endian 2 (length l + more) ++ l
