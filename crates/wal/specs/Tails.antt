-- A store as the image is to have it: with the log that a `Tail` leaves.
use Rattle.std.proofs.Math.Option.{some}
use Rattle.basics.specs.Base.{Bytes}
use Rattle.model.specs.Log.{header}
use Rattle.model.specs.Store as model
use Rattle.model.specs.Record.{appended}
use Rattle.transaction.specs.Operations.{op_of, SoundOp}
use Rattle.wal.specs.declared.Tail.{Tail}
use Rattle.wal.specs.declared.Tail.TheVariants.{Nothing, Header, Entry}

-- The store with its log as the image is to have it.
abbrev pub with_tail : Bytes → Tail → model.Store → model.Store
with_tail src Nothing s = s
with_tail src Header s = record { tree = s.tree; staging = s.staging; log = some (header 0); open_mark = s.open_mark }
with_tail src (Entry o) s = appended (op_of src o) s

abbrev pub SoundTail : Bytes → Tail → Type 0
SoundTail src Nothing = Unit {0}
SoundTail src Header = Unit {0}
SoundTail src (Entry o) = SoundOp src o
