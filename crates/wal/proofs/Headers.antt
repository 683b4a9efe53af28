-- The tests of `open_wal`, one by one.
use Rattle.std.specs.Prelude.{Some, None, Ok, Err, Result}
use Rattle.std.specs.Result.{result_ok}
use Rattle.std.proofs.lemmas.Option.{none-some, same_Some}
use mathlib.Core.Path.{◌≡◌, sym, ◌∙◌}
use mathlib.Core.List.{[], ◌∷◌}
use mathlib.Core.Bool.{true, false, ◌&&◌}
use Prim.Native.Nat.{ℕ, ◌≤◌, ◌<◌}
use native.Mathlib.Omega.{arith}
use lib.Dec.{leb, eqb}
use lib.ListN.{length, take, get_or}
use borrow.Author.Tests.{eq-eqb, ne_eqb, le-leb, lt-leb}
use Rattle.basics.specs.Base.{Bytes, at_least}
use Rattle.basics.specs.Crc32.{crc32}
use Rattle.basics.specs.Status.{status_byte, NamesStatus}
use Rattle.basics.specs.declared.Status.{Status}
use Rattle.basics.specs.declared.Status.TheVariants.{Recording, Committing, Held}
use Rattle.basics.specs.declared.UnknownStatus.{UnknownStatus}
use Rattle.transaction.proofs.Same.{and_right}
use Rattle.wal.specs.Logs.{journal_of}
use Rattle.model.specs.Log.{valid_header, entries, absent, read_journal}
use Rattle.basic_laws.specs.FieldLaws.{Byte}
use Rattle.field.specs.Reading.{u32_at}
use Rattle.wal.proofs.Checksums.{same_number, enough, too_few}

at_most_two : (s : Status) → status_byte s ≤ 2
at_most_two Recording = omega arith
at_most_two Committing = omega arith
at_most_two Held = omega arith

-- What `open_wal` knows once the checksum is computed.
pub record Opened (l : Bytes) (s : Status) (crc : ℕ) : Type 0 where
  pub long : 8 ≤ length l
  pub magic : get_or l 0 0 ≡ 0xCA
  pub byte : get_or l 1 0 ≡ status_byte s
  pub bytes : (i : ℕ) → Byte (get_or l i 0)
  pub right : crc ≡ crc32 (0xCA ∷ status_byte s ∷ [])
  pub fits : crc ≤ 0xFFFF_FFFF

first_two : (l : Bytes) {b : ℕ} → 8 ≤ length l → get_or l 0 0 ≡ 0xCA → get_or l 1 0 ≡ b → take 2 l ≡ 0xCA ∷ b ∷ []
first_two [] h e f = absurd (omega arith)
first_two (x ∷ []) h e f = absurd (omega arith)
first_two (x ∷ y ∷ l) h e f = rw (e, f)

module _ (l : Bytes) where
  pub short-log : length l < 8 → false ≡ valid_header l
  unfolding valid_header
  short-log h = rw (too_few 8 l h)

  pub no_status : 2 < get_or l 1 0 → false ≡ valid_header l
  unfolding valid_header
  no_status h = rw (lt-leb (get_or l 1 0) 2 h) (sym (and_right _))

  pub wrong-magic : (get_or l 0 0 ≡ 0xCA → ⊥) → false ≡ valid_header l
  unfolding valid_header
  wrong-magic h = rw (ne_eqb (get_or l 0 0) 0xCA h, and_right (at_least 8 l))

module _ {l : Bytes} {s : Status} {crc : ℕ} (o : Opened l s crc) where
  -- What is left of the test behind the checksum.
  tested : valid_header l ≡ (eqb (u32_at l 4) crc && leb (get_or l 1 0) 2)
  unfolding valid_header
  tested = rw (enough 8 l o.long, eq-eqb (get_or l 0 0) 0xCA o.magic, first_two l o.long o.magic o.byte, ← o.right, same_number l 4 crc o.bytes (omega (arith, o.long)) o.fits)

  pub wrong_crc : (u32_at l 4 ≡ crc → ⊥) → false ≡ valid_header l
  wrong_crc h = sym (tested ∙ rw (ne_eqb (u32_at l 4) crc h))

  pub header-valid : u32_at l 4 ≡ crc → true ≡ valid_header l
  header-valid r = sym (tested ∙ rw (eq-eqb (u32_at l 4) crc r, le-leb (get_or l 1 0) 2 (omega (arith, o.byte, at_most_two s))))

-- The journal, by what the header says.
module _ (l : Bytes) where
  pub none_journal : false ≡ valid_header l → absent ≡ read_journal l
  unfolding read_journal
  none_journal h = rw (← h)

  pub some_journal : (s : Status) → true ≡ valid_header l → get_or l 1 0 ≡ status_byte s → journal_of (Some s) (entries l) ≡ read_journal l
  unfolding read_journal
  some_journal Recording h e = rw (← h, e)
  some_journal Committing h e = rw (← h, e)
  some_journal Held h e = rw (← h, e)

-- The status that a byte was read as, and a byte that is none.
pub status_of : {byte : ℕ} {s : Status} (r : Result Status UnknownStatus) → Some s ≡ result_ok r → NamesStatus byte r → byte ≡ status_byte s
status_of {byte} {s} (Ok k) e h = rw (same_Some s k e) h
status_of (Err u) e h = absurd (none-some _ (sym e))

pub statusless : {byte : ℕ} (r : Result Status UnknownStatus) → None ≡ result_ok r → NamesStatus byte r → 2 < byte
statusless (Ok k) e h = absurd (none-some k e)
statusless (Err u) e h = h
