-- What the answers about a log say of the model's log.
use Rattle.std.specs.Prelude.{◌≡◌, ℕ, ◌+◌, ◌≤◌, ◌<◌, List, [], map, ◌&&◌, length, take, drop, leb, if◌then◌else◌, Result, Ok, Err, Some, None, IfSome, MatchResult}
use Rattle.std.specs.Prelude as std
use Rattle.std.specs.declared.ops.Range.{Range}
use Rattle.std.proofs.Math.Option.{Option, none, some}
use Rattle.basics.specs.Base.{Bytes}
use Rattle.basics.specs.Crc32.{crc32}
use Rattle.model.specs.Operation.{Op}
use Rattle.model.specs.Log.{Entries, Journal, absent, recording, committing, held, stop, first_payload, first_cause, entries}
use Rattle.model.specs.Log as model
use Rattle.basic_laws.specs.Tests.{All}
use Rattle.crc32.specs.Table.{byte_table}
use Rattle.field.specs.Reading.{u32_at}
use Rattle.transaction.specs.Operations.{op_of, SoundOp, in_bounds, part}
use Rattle.basics.specs.declared.Status.{Status}
use Rattle.basics.specs.declared.Status.TheVariants.{Recording, Committing, Held}
use Rattle.fixed_vec.specs.FixedVec.{fixed_vec_len}
use Rattle.wal.specs.declared.Cause.{Cause}
use Rattle.wal.specs.declared.Cause.TheVariants.{HeaderShort, PayloadMissing, ChecksumWrong}
use Rattle.wal.specs.declared.Ending.{Ending}
use Rattle.wal.specs.declared.Ending.TheVariants as code
use Rattle.wal.specs.declared.CheckedEntries.{CheckedEntries}
use Rattle.wal.specs.declared.WalRead.{WalRead}

-- The log as commit and recovery see it, by its status and its entries; absent where it has no valid header.
abbrev pub journal_of : std.Option Status → Entries → Journal
journal_of None r = absent
journal_of (Some Recording) r = recording r.ops r.end
journal_of (Some Committing) r = committing r.ops r.end
journal_of (Some Held) r = held r.ops r.end

-- The payload between two places; nothing where these are out of bounds.
unfoldable pub payload_at : Bytes → ℕ → ℕ → Bytes
payload_at log start end = if leb start end && leb end (length log) then part log start end else []

-- The causes, by the model's names.
abbrev pub cause_of : Cause → model.Cause
cause_of HeaderShort = model.header_short
cause_of PayloadMissing = model.payload_missing
cause_of ChecksumWrong = model.checksum_wrong

-- The number of a cause that is told, 0 for none.
abbrev pub cause_if : std.Option Cause → ℕ
cause_if None = 0
cause_if (Some c) = model.cause_number (cause_of c)

-- An entry: where its payload starts and ends; or how it is broken.
abbrev pub Entry : Type 0
Entry = Result (Range ℕ) Cause

-- The payload whose bounds an answer holds.
abbrev pub entry_of : Bytes → Entry → Option Bytes
entry_of log (Ok r) = some (part log r.start r.end)
entry_of log (Err c) = none

-- A payload stands behind the eight bytes of its entry's head, and is not empty.
abbrev pub Bounded : Bytes → ℕ → Entry → Type 0
Bounded log at (Ok r) = (r.start ≡ at + 8) × ((r.start < r.end) × (r.end ≤ length log))
Bounded log at (Err c) = Unit {0}

-- An entry that is not whole says how it is broken.
abbrev pub Told : Bytes → ℕ → Entry → Type 0
Told log at (Ok r) = Unit {0}
Told log at (Err c) = cause_of c ≡ first_cause (drop at log)

-- An entry of the log, held to its checksum.
pub record EntryAt (log : Bytes) (at : ℕ) (e : Entry) : Type 0 where
  pub bounded : Bounded log at e
  pub same : entry_of log e ≡ first_payload (drop at log)
  pub told : Told log at e

-- An entry's head, behind which stands the payload that it says; its checksum is not looked at.
pub record PayloadHead (log : Bytes) (at start end : ℕ) : Type 0 where
  pub starts : start ≡ at + 8
  pub ends : end ≡ at + 8 + u32_at log (at + 4)
  pub some_bytes : start < end
  pub inside : end ≤ length log

-- What `entry_at` answers: where the payload stands, or how the entry is broken.
abbrev pub HeadAt : Bytes → ℕ → Entry → Type 0
HeadAt log at (Ok r) = PayloadHead log at r.start r.end
HeadAt log at (Err c) = EntryAt log at (Err c)

-- The checksum of the payload that the head at a place says, where it is known.
abbrev pub Known : Bytes → ℕ → std.Option ℕ → Type 0
Known log at ahead = IfSome ahead (λ sum. sum ≡ crc32 (payload_at log (at + 8) (at + 8 + u32_at log (at + 4))))

-- The checked entries have the table, and know the checksum of the next one's payload where they say one.
abbrev pub CanWalk : CheckedEntries → Type 0
CanWalk w = (w.table.now ≡ byte_table) × Known w.walker.log.now w.walker.at w.ahead

-- Where a walker goes on: behind the payload; behind a broken entry at the log's end.
abbrev pub place_behind : Bytes → Entry → ℕ
place_behind log (Ok r) = r.end
place_behind log (Err c) = length log

-- What the checked entries hand out and what becomes of them: the entry at the walker's place, up to the log's end.
abbrev pub GivesEntry : CheckedEntries → std.Option Entry → CheckedEntries → Type 0
GivesEntry w None v = (length w.walker.log.now ≤ w.walker.at) × (v ≡ w)
GivesEntry w (Some e) v = (w.walker.at < length w.walker.log.now) × EntryAt w.walker.log.now w.walker.at e × (v.walker.log ≡ w.walker.log) × (v.walker.at ≡ place_behind w.walker.log.now e)

abbrev pub ending_of : Ending → model.Ending
ending_of code.Whole = model.whole
ending_of (code.Truncated c) = model.truncated (cause_of c)
ending_of code.Undecodable = model.undecodable
ending_of code.TooMany = model.too_many

-- The operations that were read.
abbrev pub ops_read : Bytes → WalRead → List Op
ops_read src r = map (op_of src) r.ops.items

abbrev pub entries_of : Bytes → WalRead → Entries
entries_of src r = record { ops = ops_read src r; end = ending_of r.ending }

-- All names of the operations lie in the bytes, and there are at most 32 of them.
pub record SoundRead (src : Bytes) (r : WalRead) : Type 0 where
  pub within : fixed_vec_len r.ops ≤ 32
  pub sound : All (SoundOp src) r.ops.items

-- The entries of the log between two places; where spans cannot point there, nothing is decoded.
unfoldable pub entries_at : Bytes → ℕ → ℕ → Entries
entries_at src start end = if in_bounds src start end then entries (part src start end) else stop model.undecodable

-- What `read_wal` answers.
pub record ReadsLog (src : Bytes) (start end : ℕ) (r : WalRead) : Type 0 where
  pub held : SoundRead src r
  pub same : entries_of src r ≡ entries_at src start end

-- The same of the entries from a place on.
pub record WalksLog (src : Bytes) (at end : ℕ) (r : WalRead) : Type 0 where
  pub held : SoundRead src r
  pub same : entries_of src r ≡ model.walk 32 0 (drop at (take end src))
