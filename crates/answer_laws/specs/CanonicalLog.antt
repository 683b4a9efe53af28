-- 02, item 12, one way to write a log: what `canonical_log` writes of a log is that log's status and operations, written again it is the same, and two logs
-- have equal status and operations exactly if what is written for them is byte for byte equal. All statuses and kinds are covered: nothing here goes by them.
use Rattle.std.specs.Prelude.{◌≡◌, refl, [], ◌∷◌, List, Bool, true, false, ◌&&◌, ℕ, ◌≤◌, length, take, drop, get_or, leb, eqb, if◌then◌else◌}
use Rattle.std.proofs.Common.{sym, ap, ◌∙◌, ap₂, arith, length-drop}
use Rattle.basics.specs.Limits.{log_limit}
use Rattle.basics.specs.Base.{Bytes, at_least, same_bytes}
use Rattle.basics.specs.Field.{little_endian}
use Rattle.model.specs.Log.{Ending, whole, truncated, undecodable, too_many, header, valid_header, entries, with_status, write_log, Entries}
use Rattle.answers.specs.Answers.{Answer, refusal, canonical_by, canonical_log}
use Rattle.basic_laws.specs.Tests.{All, leb_le, le-leb, and_both, same_refl}
use Rattle.basic_laws.specs.FieldLaws.{Byte}
use Rattle.laws.specs.CanonicalLaws.{write_same, at_least_le}
use Rattle.basics.specs.Crc32.{crc32}
use Rattle.model.specs.Operation.{Op}

-- Its answer by cases: these refusals, or what is written.
abbrev pub canonical_refusals : List ℕ
canonical_refusals = 1 ∷ 2 ∷ 21 ∷ 11 ∷ 12 ∷ []

pub on_canonical : (P : Answer → Type 0) (l : Bytes) (out : ℕ) → All (λ n. P (refusal n)) canonical_refusals
    → ((ops : List Op) → P (record { number = 0; image = write_log (get_or l 1 0) ops; step = [] })) → P (canonical_log l out)
unfolding canonical_log
on_canonical P l out r h = go (leb (length l) log_limit) (leb (length l) out) (valid_header l) (entries l).end
  where
    go : (a b c : Bool) (d : Ending) → P (if◌then◌else◌ a (if◌then◌else◌ b (if◌then◌else◌ c (canonical_by (get_or l 1 0) (entries l).ops d) (refusal 21)) (refusal 2)) (refusal 1))
    go true true true whole = h (entries l).ops
    go true true true (truncated c) = r.1.1.0
    go true true true undecodable = r.1.1.1.0
    go true true true too_many = r.1.1.1.1.0
    go true true false d = r.1.1.0
    go true false c d = r.1.0
    go false b c d = r.0

-- "each log with a valid header that is read untruncated and decoded", within the limit and lent an output that is as long.
pub record Canonical (l : Bytes) (out : ℕ) : Type 0 where
  pub short : length l ≤ log_limit
  pub room : length l ≤ out
  pub valid : valid_header l ≡ true
  pub read : (entries l).end ≡ whole

-- These and no other logs are answered with 0.
canonical_of : (l : Bytes) (out : ℕ) → (canonical_log l out).number ≡ 0 → Canonical l out
unfolding canonical_log
canonical_of l out e = go (leb (length l) log_limit) refl (leb (length l) out) refl (valid_header l) refl (entries l).end refl e
  where
    go : (a : Bool) → leb (length l) log_limit ≡ a → (b : Bool) → leb (length l) out ≡ b → (c : Bool) → valid_header l ≡ c → (d : Ending) → (entries l).end ≡ d
        → (if◌then◌else◌ a (if◌then◌else◌ b (if◌then◌else◌ c (canonical_by (get_or l 1 0) (entries l).ops d) (refusal 21)) (refusal 2)) (refusal 1)).number ≡ 0 → Canonical l out
    go true p true q true v whole r e = record { short = leb_le _ _ p; room = leb_le _ _ q; valid = v; read = r }
    go true p true q true v (truncated c) r e = absurd (omega (arith, e))
    go true p true q true v undecodable r e = absurd (omega (arith, e))
    go true p true q true v too_many r e = absurd (omega (arith, e))
    go true p true q false v d r e = absurd (omega (arith, e))
    go true p false q c v d r e = absurd (omega (arith, e))
    go false p b q c v d r e = absurd (omega (arith, e))

-- What is written of such a log.
written_of : {l : Bytes} {out : ℕ} → Canonical l out → canonical_log l out ≡ record { number = 0; image = write_log (get_or l 1 0) (entries l).ops; step = [] }
unfolding canonical_log
written_of c = rw (le-leb _ _ c.short, le-leb _ _ c.room, c.valid, c.read)

-- A header with such a status, and anything behind it.
valid_status : (l : Bytes) → valid_header l ≡ true → leb (get_or l 1 0) 2 ≡ true
unfolding valid_header
valid_status l e =
    (and_both (at_least 8 l && eqb (get_or l 0 0) 0xCA && same_bytes (take 4 (drop 4 l)) (little_endian 4 (crc32 (take 2 l)))) (leb (get_or l 1 0) 2) e).1

pub eight : (l : Bytes) → valid_header l ≡ true → 8 ≤ length l
unfolding valid_header
eight l e =
    let sum : Bool = same_bytes (take 4 (drop 4 l)) (little_endian 4 (crc32 (take 2 l))) in
    let first : Bool = eqb (get_or l 0 0) 0xCA in
    at_least_le 8 l (and_both (at_least 8 l) first (and_both (at_least 8 l && first) sum (and_both (at_least 8 l && first && sum) (leb (get_or l 1 0) 2) e).0).0).0

rewritten-valid : (n : ℕ) (l : Bytes) → leb n 2 ≡ true → valid_header (with_status n l) ≡ true
unfolding valid_header header little_endian
rewritten-valid n l e = rw (same_refl (unfold little_endian in (little_endian 4 (crc32 (0xCA ∷ n ∷ [])))), e)

rewritten-entries : (n : ℕ) (l : Bytes) → entries (with_status n l) ≡ entries l
unfolding entries header little_endian
rewritten-entries n l = refl

pub rewritten-length : (n : ℕ) (l : Bytes) → 8 ≤ length l → length (with_status n l) ≡ length l
unfolding header little_endian
rewritten-length n l h = omega (arith, length-drop 8 l)

module _ (l : Bytes) (out : ℕ) (bytes : All Byte l) (done : (canonical_log l out).number ≡ 0) where
  c : Canonical l out
  c = canonical_of l out done

  abbrev written : Bytes
  written = (canonical_log l out).image

  as_header : written ≡ with_status (get_or l 1 0) l
  as_header = ap (λ (a : Answer). a.image) (written_of c) ∙ write_same (get_or l 1 0) l bytes c.read

  -- "the log with the same status and operations and zeros in those bytes", under a valid header, as long as it was.
  pub same-header : valid_header written ≡ true
  same-header = rw as_header (rewritten-valid (get_or l 1 0) l (valid_status l c.valid))

  pub same_status : get_or written 1 0 ≡ get_or l 1 0
  same_status = rw as_header (unfold header in refl)

  pub same_operations : entries written ≡ entries l
  same_operations = rw as_header (rewritten-entries (get_or l 1 0) l)

  pub zeros : take 2 (drop 2 written) ≡ 0 ∷ 0 ∷ []
  zeros = rw as_header (unfold header in refl)

  pub same_length : length written ≡ length l
  same_length = rw as_header (rewritten-length (get_or l 1 0) l (eight l c.valid))

  -- "Writing it again changes nothing."
  pub again : (out' : ℕ) → length l ≤ out' → canonical_log written out' ≡ record { number = 0; image = written; step = [] }
  again out' r =
      written_of (record {
        short = (let h = c.short in let z = same_length in omega (arith, h, z));
        room = (let z = same_length in omega (arith, z));
        valid = same-header;
        read = ap (λ (x : Entries). x.end) same_operations ∙ c.read;
      })
      ∙ ap (λ (w : Bytes). record { number = 0; image = w; step = [] })
      (ap₂ write_log same_status (ap (λ (x : Entries). x.ops) same_operations) ∙ sym (ap (λ (a : Answer). a.image) (written_of c)))

-- "Two such logs have equal status and operations exactly if what is written for them is byte for byte equal."
module _ (l m : Bytes) (out room : ℕ) (lb : All Byte l) (mb : All Byte m) (p : (canonical_log l out).number ≡ 0) (q : (canonical_log m room).number ≡ 0) where
  pub equal-written : get_or l 1 0 ≡ get_or m 1 0 → (entries l).ops ≡ (entries m).ops → (canonical_log l out).image ≡ (canonical_log m room).image
  equal-written s o = rw (written_of (canonical_of l out p), written_of (canonical_of m room q), s, o)

  pub equal-read : (canonical_log l out).image ≡ (canonical_log m room).image → (get_or l 1 0 ≡ get_or m 1 0) × ((entries l).ops ≡ (entries m).ops)
  equal-read e = (
    sym (same_status l out lb p) ∙ ap (λ (w : Bytes). get_or w 1 0) e ∙ same_status m room mb q,
    ap (λ (x : Entries). x.ops) (sym (same_operations l out lb p) ∙ ap entries e ∙ same_operations m room mb q),
  )
