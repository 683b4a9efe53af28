-- The open transaction: mark, header and entries of the log.
use Rattle.std.specs.Prelude.{if◌then◌else◌, Some, None}
use mathlib.Core.Path.{◌≡◌, refl, sym, ◌∙◌}
use mathlib.Core.List.{List}
use mathlib.Core.Option.{some, none}
use mathlib.Core.Bool.{Bool, true, false, ◌&&◌, false≢true}
use Prim.Native.Nat.{ℕ, zero, suc, ◌+◌}
use lib.ListN.{get_or}
use Rattle.basics.specs.Base.{Bytes}
use Rattle.basic_laws.specs.Tests.{and_both}
use Rattle.model.specs.Operation.{Op}
use Rattle.model.specs.Log.{Journal, absent, recording, committing, held, journal, read_journal, by_status, valid_header, Entries, entries}
use Rattle.model.specs.Record.{transaction, recorded_ops}
use Rattle.store.specs.Stores.{store_of, log_bytes}
use Rattle.store.specs.declared.Store.{Store}
use Rattle.store.specs.declared.LogRef.{LogRef}
use Rattle.wal.specs.Logs.{ending_of, ops_read, ReadsLog}
use Rattle.wal.specs.declared.Ending.{Ending}
use Rattle.wal.specs.declared.Ending.TheVariants.{Whole, Truncated, Undecodable, TooMany}
use Rattle.wal.specs.declared.WalRead.{WalRead}
use Rattle.recovery.specs.Recoveries.{log_part}
use Rattle.recovery.proofs.Journals.{read_whole}
use Rattle.local_storage.specs.Recording.{Readable, is_recording, is_whole, Opens}

-- A Recording log gives its entries.
recording_entries : (l : Bytes) → is_recording (read_journal l) ≡ true → read_journal l ≡ recording (entries l).ops (entries l).end
unfolding read_journal
recording_entries l e = go (valid_header l) (get_or l 1 0) (entries l) e
  where
    go : (h : Bool) (n : ℕ) (r : Entries) → is_recording (if h then by_status n r else absent) ≡ true → (if h then by_status n r else absent) ≡ recording r.ops r.end
    go true zero r e = refl
    go true (suc zero) r e = absurd (false≢true e)
    go true (suc (suc n)) r e = absurd (false≢true e)
    go false n r e = absurd (false≢true e)

whole-ops : (o : List Op) (e : Ending) → (if is_whole e then some o else none) ≡ recorded_ops (recording o (ending_of e))
whole-ops o Whole = refl
whole-ops o (Truncated c) = refl
whole-ops o Undecodable = refl
whole-ops o TooMany = refl

not_opened : (m : Bool) (j : Journal) → (m && is_recording j) ≡ false → (if m then recorded_ops j else none) ≡ none
not_opened false j e = refl
not_opened true absent e = refl
not_opened true (recording o x) e = absurd (false≢true (sym e))
not_opened true (committing o x) e = refl
not_opened true (held o x) e = refl

-- What a log that stands is read as.
log-read : {src : Bytes} (l : LogRef) → Readable src (Some l) → journal (log_bytes src (Some l)) ≡ read_journal (log_part src (Some l))
unfolding log_bytes
log-read l r = rw r.plain

module _ (src : Bytes) (s : Store) {b : Bool} (e : b ≡ (s.open_mark && is_recording (journal (log_bytes src s.log)))) where
  pub closed : b ≡ false → Opens src (store_of src s) None
  unfolding transaction
  closed h = record { held = tt; same = sym (not_opened s.open_mark (journal (log_bytes src s.log)) (sym e ∙ h)) }

  opens : b ≡ true → (s.open_mark ≡ true) × (is_recording (journal (log_bytes src s.log)) ≡ true)
  opens h = and_both s.open_mark (is_recording (journal (log_bytes src s.log))) (sym e ∙ h)

  pub no-log : b ≡ true → s.log ≡ None → ⊥
  unfolding log_bytes
  no-log h k = false≢true (rw k at (opens h).1)

  -- What the walk through the log read.
  module _ {i : LogRef} {t : WalRead} (k : s.log ≡ Some i) (r : Readable src s.log) (w : ReadsLog src i.start (i.start + i.len) t) (h : b ≡ true) where
    found-ops : (if is_whole t.ending then some (ops_read src t) else none) ≡ transaction (store_of src s)
    unfolding transaction
    found-ops =
        let q : Readable src (Some i) = rw k at r in
        let p = log-read i q in
        let d : is_recording (read_journal (log_part src (Some i))) ≡ true = rw (k, p) at (opens h).1 in
        let n = read_whole src i q.log q.short w in
        rw ((opens h).0, k, p, recording_entries (log_part src (Some i)) d, ← n.1) (whole-ops (ops_read src t) t.ending)

    pub found : is_whole t.ending ≡ true → Opens src (store_of src s) (Some t)
    found f = record { held = w.held; same = rw f at found-ops }

    pub unfinished : is_whole t.ending ≡ false → Opens src (store_of src s) None
    unfinished f = record { held = tt; same = rw f at found-ops }
