-- A store's log as `open_wal` and `read_wal` see it.
use mathlib.Core.Path.{◌≡◌, refl, ap, ◌∙◌}
use mathlib.Core.List.{[], ◌∷◌}
use Prim.Native.Nat.{ℕ, ◌+◌, ◌-◌, ◌≤◌}
use native.Mathlib.Omega.{arith}
use lib.ListN.{length, take, drop}
use Rattle.basics.specs.Base.{Bytes}
use Rattle.model.specs.Log.{absent, entries, journal, read_journal}
use Rattle.basic_laws.specs.Tests.{le-leb}
use Rattle.store.specs.declared.LogRef.{LogRef}
use Rattle.store.specs.Stores.{AsRead, log_bytes, SoundLog}
use Rattle.transaction.specs.Operations.{in_bounds}
use Rattle.std.specs.Prelude.{Option, None, Some}
use Rattle.basics.specs.declared.Status.{Status}
use Rattle.wal.specs.declared.WalRead.{WalRead}
use Rattle.wal.specs.Logs.{journal_of, entries_at, entries_of, SoundRead, ReadsLog}
use Rattle.recovery.specs.Recoveries.{log_part}

take_none : (src : Bytes) → take 0 (drop 0 src) ≡ []
take_none [] = refl
take_none (x ∷ s) = refl

pub no-journal : (src : Bytes) → absent ≡ journal (log_bytes src None)
unfolding log_bytes
no-journal src = refl

module _ (src : Bytes) (l : LogRef) where
  -- The part of the bytes between the log's first byte and its end.
  pub log-part : take (l.start + l.len - l.start) (drop l.start src) ≡ log_part src (Some l)
  log-part = let e : l.start + l.len - l.start ≡ l.len = omega arith in ap (λ (n : ℕ). take n (drop l.start src)) e

  pub opened : (r : Option Status) → AsRead (Some l) → journal_of r (entries (log_part src (Some l))) ≡ read_journal (log_part src (Some l)) → journal_of r (entries (log_part src (Some l))) ≡ journal (log_bytes src (Some l))
  unfolding log_bytes
  opened r m e = rw m e

  pub read_whole : {r : WalRead} → SoundLog src (Some l) → length src ≤ 0xFFFF → ReadsLog src l.start (l.start + l.len) r → SoundRead src r × (entries_of src r ≡ entries (log_part src (Some l)))
  unfolding entries_at in_bounds
  read_whole s h r =
      let a : l.start ≤ l.start + l.len = omega arith in
      (r.held, r.same ∙ rw (le-leb l.start (l.start + l.len) a, le-leb (l.start + l.len) (length src) s.inside, le-leb (length src) 0xFFFF h) (ap entries log-part))

-- No log is read as an empty one.
pub read_none : (src : Bytes) {r : WalRead} → length src ≤ 0xFFFF → ReadsLog src 0 0 r → SoundRead src r × (entries_of src r ≡ entries (log_part src None))
unfolding entries_at in_bounds
read_none src h r = (r.held, r.same ∙ rw (le-leb 0 (length src) (omega arith), le-leb (length src) 0xFFFF h) (ap entries (take_none src)))
