-- The tests of `entry_at` and of `held_to`, one by one.
use Rattle.std.specs.Prelude.{if◌then◌else◌, Ok, Err, Some, None, unwrap_or}
use Rattle.std.specs.Prelude as std
use Rattle.std.specs.Slice.{IsGetRangeResult}
use denote.Ref.{Bor}
use mathlib.Core.Logic.{inl, inr}
use mathlib.Core.Path.{◌≡◌, refl, sym, ap, ◌∙◌}
use mathlib.Core.List.{[]}
use mathlib.Core.Bool.{Bool, true, false, ◌&&◌}
use mathlib.Core.Option.{none, some}
use Prim.Native.Nat.{ℕ, zero, suc, ◌+◌, ◌-◌, ◌≤◌, ◌<◌}
use native.Mathlib.Omega.{arith}
use lib.Dec.{leb, eqb}
use lib.ListN.{length, take, drop, get_or, length-drop}
use lib.Seq.{drop-drop}
use borrow.Author.Tests.{eq-eqb, ne_eqb, le-leb, lt-leb}
use Rattle.basics.specs.Base.{Bytes, same_bytes, at_least}
use Rattle.basics.specs.Crc32.{crc32}
use Rattle.basics.specs.Field.{little_endian, from_little_endian}
use Rattle.model.specs.Log.{Cause, header_short, payload_missing, checksum_wrong, first_payload, first_cause}
use Rattle.basic_laws.specs.FieldLaws.{Byte}
use Rattle.field.specs.Reading.{u32_at}
use Rattle.field.proofs.Reading.{number-there}
use Rattle.transaction.specs.Operations.{part}
use Rattle.transaction.proofs.Same.{and_right}
use Rattle.wal.specs.Logs.{payload_at, cause_of, PayloadHead, EntryAt}
use Rattle.wal.specs.declared.Cause as code
use Rattle.wal.specs.declared.Cause.TheVariants.{HeaderShort, PayloadMissing, ChecksumWrong}
use Rattle.wal.proofs.Checksums.{same_number, enough, too_few}

-- Parts between bounds that hold, and that do not.
module _ (log : Bytes) (start end : ℕ) where
  pub part-there : start ≤ end → end ≤ length log → part log start end ≡ payload_at log start end
  unfolding payload_at
  part-there h k = rw (le-leb start end h, le-leb end (length log) k)

  pub end-first : end < start → [] ≡ payload_at log start end
  unfolding payload_at
  end-first h = rw (lt-leb start end h)

  pub past_end : length log < end → [] ≡ payload_at log start end
  unfolding payload_at
  past_end h = rw (lt-leb end (length log) h, and_right (leb start end))

-- A part that was asked for, or an empty one.
pub got : (log : Bytes) (start end : ℕ) (r : std.Option (Bor Bytes)) (d : Bor Bytes) → d.now ≡ [] → IsGetRangeResult log start end r → (unwrap_or r d).now ≡ payload_at log start end
got log start end (Some x) d e h = h.0.2 ∙ part-there log start end h.0.0 h.0.1
got log start end None d e (inl h, k) = e ∙ end-first log start end h
got log start end None d e (inr h, k) = e ∙ past_end log start end h

-- The model's test at a place of the log.
module _ (log : Bytes) (at : ℕ) where
  unfoldable whole : ℕ → Bool
  whole n = at_least 8 (drop at log) && leb 1 n && at_least n (drop (at + 8) log) && same_bytes (take 4 (drop at log)) (little_endian 4 (crc32 (take n (drop (at + 8) log))))

  first : (n : ℕ) → n ≡ from_little_endian (take 4 (drop (at + 4) log)) → first_payload (drop at log) ≡ (if whole n then some (take n (drop (at + 8) log)) else none)
  unfolding first_payload whole
  first n e = rw (e, drop-drop 4 at log, drop-drop 8 at log)

  -- What is missing of it, by the same tests.
  unfoldable missing : ℕ → Cause
  missing n = if at_least 8 (drop at log) then (if leb 1 n && at_least n (drop (at + 8) log) then checksum_wrong else payload_missing) else header_short

  truncated : (c : code.Cause) (n : ℕ) → n ≡ from_little_endian (take 4 (drop (at + 4) log)) → whole n ≡ false → cause_of c ≡ missing n → EntryAt log at (Err c)
  unfolding missing first_cause
  truncated c n e h k = record { bounded = tt; same = sym (first n e ∙ rw h); told = k ∙ rw (e, drop-drop 4 at log, drop-drop 8 at log) }

  pub no-head : length log - at < 8 → EntryAt log at (Err HeaderShort)
  unfolding whole missing
  no-head h = let f = too_few 8 (drop at log) (omega (arith, length-drop at log)) in truncated HeaderShort (from_little_endian (take 4 (drop (at + 4) log))) refl (rw f) (rw f)

-- What is known once the length is read, and once the checksum is computed.
pub record Headed (log : Bytes) (at n : ℕ) : Type 0 where
  pub head : 8 ≤ length log - at
  pub length-read : n ≡ u32_at log (at + 4)

record Framed (log : Bytes) (at n end crc : ℕ) : Type 0 where
  headed : Headed log at n
  some_bytes : n ≡ 0 → ⊥
  inside : n ≤ length log - (at + 8)
  end_is : end ≡ at + 8 + n
  bytes : (i : ℕ) → Byte (get_or log i 0)
  right : crc ≡ crc32 (payload_at log (at + 8) end)
  fits : crc ≤ 0xFFFF_FFFF

module _ {log : Bytes} {at n : ℕ} (w : Headed log at n) where
  size : n ≡ from_little_endian (take 4 (drop (at + 4) log))
  size = w.length-read ∙ number-there log (at + 4) (omega (arith, w.head))

  has-head : at_least 8 (drop at log) ≡ true
  has-head = enough 8 (drop at log) (omega (arith, w.head, length-drop at log))

  pub no_payload : n ≡ 0 → EntryAt log at (Err PayloadMissing)
  unfolding whole missing
  no_payload z = truncated log at PayloadMissing n size (rw (has-head, z)) (rw (has-head, z))

  pub cut_off : length log - (at + 8) < n → EntryAt log at (Err PayloadMissing)
  unfolding whole missing
  cut_off h =
      let f = too_few n (drop (at + 8) log) (omega (arith, length-drop (at + 8) log)) in
      truncated log at PayloadMissing n size (rw (has-head, f, and_right (leb 1 n))) (rw (has-head, f, and_right (leb 1 n)))

positive : (n : ℕ) → (n ≡ 0 → ⊥) → 1 ≤ n
positive zero z = absurd (z refl)
positive (suc n) z = omega arith

module _ {log : Bytes} {at n end crc : ℕ} (w : Framed log at n end crc) where
  payload : part log (at + 8) end ≡ take n (drop (at + 8) log)
  payload = let d : end - (at + 8) ≡ n = omega (arith, w.end_is) in rw d

  checked : whole log at n ≡ eqb (u32_at log at) crc
  unfolding whole
  checked =
      let h = w.headed.head in
      let e = w.end_is in
      let i = w.inside in
      let s : crc ≡ crc32 (take n (drop (at + 8) log)) = w.right ∙ ap crc32 (sym (part-there log (at + 8) end (omega arith) (omega arith)) ∙ payload) in
      rw (has-head w.headed, le-leb 1 n (positive n w.some_bytes), enough n (drop (at + 8) log) (omega (arith, length-drop (at + 8) log)), ← s) (same_number log at crc w.bytes (omega arith) w.fits)

  there : leb 1 n && at_least n (drop (at + 8) log) ≡ true
  there = rw (le-leb 1 n (positive n w.some_bytes), enough n (drop (at + 8) log) (omega (arith, w.inside, length-drop (at + 8) log)))

  framed-wrong : (u32_at log at ≡ crc → ⊥) → EntryAt log at (Err ChecksumWrong)
  unfolding missing
  framed-wrong q = truncated log at ChecksumWrong n (size w.headed) (checked ∙ ne_eqb (u32_at log at) crc q) (rw (has-head w.headed, there))

  framed-right : u32_at log at ≡ crc → EntryAt log at (Ok (record { start = at + 8; end = end }))
  framed-right q = record {
    bounded = (refl, (omega (arith, w.end_is, positive n w.some_bytes), omega (arith, w.end_is, w.inside, w.headed.head)));
    same = ap some payload ∙ sym (first log at n (size w.headed) ∙ rw (checked ∙ eq-eqb (u32_at log at) crc q));
    told = tt;
  }

-- A payload that is found, held to its checksum.
module _ {log : Bytes} {at start end crc : ℕ} (h : PayloadHead log at start end) (b : (i : ℕ) → Byte (get_or log i 0)) (e : crc ≡ crc32 (payload_at log start end)) (f : crc ≤ 0xFFFF_FFFF) where
  framed : Framed log at (u32_at log (at + 4)) end crc
  framed = record {
    headed = record { head = omega (arith, h.starts, h.some_bytes, h.inside); length-read = refl };
    some_bytes = λ z. omega (arith, h.starts, h.ends, h.some_bytes);
    inside = omega (arith, h.ends, h.inside);
    end_is = h.ends;
    bytes = b;
    right = rw h.starts at e;
    fits = f;
  }

  pub wrong_crc : (u32_at log at ≡ crc → ⊥) → EntryAt log at (Err ChecksumWrong)
  wrong_crc q = framed-wrong framed q

  pub is-entry : u32_at log at ≡ crc → EntryAt log at (Ok (record { start = start; end = end }))
  is-entry q = rw h.starts (framed-right framed q)
