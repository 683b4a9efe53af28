-- The log's field with what a tail puts behind the log, written.
use mathlib.Core.Path.{◌≡◌, refl, sym, ap, subst, ◌∙◌}
use mathlib.Core.Bool.{true, false, false≢true}
use mathlib.Core.Option.{some}
use Rattle.std.specs.Prelude.{Option, None, Some, is_some}
use mathlib.Core.List.{◌++◌}
use Prim.Native.Nat.{ℕ, ◌+◌, ◌/◌, ◌%◌, ◌≤◌}
use native.Mathlib.Omega.{arith}
use lib.ListN.{length, length-append}
use Rattle.basics.specs.Base.{Bytes}
use Rattle.basics.specs.Field.{little_endian, encode_field, encode_fields}
use Rattle.model.specs.Operation.{encode_payload}
use Rattle.model.specs.Log.{header, entry, append_operation}
use Rattle.model.specs.Image.{log_field}
use Rattle.field.specs.Writing.{written, Writes, field, written_field}
use Rattle.field.proofs.Written.{written-nil, written-before, field-short}
use Rattle.store.specs.declared.LogRef.{LogRef}
use Rattle.store.specs.Stores.{log_bytes, SoundLog}
use Rattle.transaction.specs.declared.Operation.{Operation}
use Rattle.transaction.specs.Operations.{op_of, SoundOp, WritesOp}
use Rattle.wal.specs.declared.Tail.{Tail}
use Rattle.wal.specs.declared.Tail.TheVariants.{Nothing, Header, Entry}
use Rattle.wal.specs.Tails.{SoundTail}
use Rattle.encode.specs.Logs.{field_after, log_start}
use Rattle.encode.specs.Sizes.{LogSize}
use Rattle.encode.specs.Encoding.{Puts}
use Rattle.encode.proofs.Shapes.{header-length, log-absent, log_value, log-stands, log-field, log-length, start-length, start-whole, start-behind}

-- Two bytes hold no more of a number.
pub low-bytes : (n : ℕ) → little_endian 2 (n % 0x1_0000) ≡ little_endian 2 n
unfolding little_endian
low-bytes n =
    let a : n % 0x1_0000 % 0x100 ≡ n % 0x100 = omega arith in
    let b : n % 0x1_0000 / 0x100 % 0x100 ≡ n / 0x100 % 0x100 = omega arith in
    rw (a, b)

-- The header of a new log.
pub new-header : (at : ℕ) (out : Bytes) {h end : Bytes} → h ≡ header 0 → end ≡ written_field at (field 0x13 h) out → end ≡ written at (encode_field (field 0x13 (header 0))) out
new-header at out e p = p ∙ rw e (field-short at (field 0x13 (header 0)) out (omega (arith, header-length 0)))

-- The bytes of an operation's entry, and those of the log's field before it.
abbrev entry_of : Bytes → Operation → Bytes
entry_of src o = entry (encode_payload (op_of src o))

abbrev start_of : Bytes → Option LogRef → Operation → Bytes
start_of src l o = log_start (length (entry_of src o)) (log_bytes src l)

-- No log stands.
pub appended-none : (src : Bytes) (log : Option LogRef) → is_some log ≡ false → (o : Operation) (at : ℕ) (out : Bytes) → Puts (field_after src (Entry o) log) at out out at
unfolding encode_fields
appended-none src (Some l) e o at out = absurd (false≢true (sym e))
appended-none src None e o at out = rw (log-absent src) (record { same = sym (written-nil at out); place = omega arith })

-- The entry of an operation whose names lie in the bytes.
pub some_entry : (src : Bytes) (o : Operation) (bytes : Bytes) (at : ℕ) (out after : Bytes) (r : Option ℕ) → SoundOp src o → WritesOp src o bytes at out after r → is_some r ≡ true
some_entry src o bytes at out after None s w = absurd (w.0 s)
some_entry src o bytes at out after (Some n) s w = refl

-- A log of n bytes stands.
module _ {src : Bytes} {l : Option LogRef} (o : Operation) {n : ℕ} (s : SoundLog src l) (e : is_some l ≡ true) (z : LogSize l n) where
  stands : (v : Bytes) × (log_bytes src l ≡ some v)
  stands = go l e
    where
      go : (l : Option LogRef) → is_some l ≡ true → (v : Bytes) × (log_bytes src l ≡ some v)
      go None e = absurd (false≢true e)
      go (Some r) e = (log_value src r, log-stands src r)

  appended-field : field_after src (Entry o) l ≡ start_of src l o ++ entry_of src o
  unfolding append_operation
  appended-field = rw stands.1 (sym (start-behind stands.0 (entry_of src o)))

  start-size : length (start_of src l o) ≡ n
  start-size =
      let v = stands.0 in
      rw stands.1 (start-length (length (entry_of src o)) v ∙ sym (log-length v)) ∙ ap (λ o. length (encode_fields (log_field o))) (sym stands.1) ∙ sym (z.same src s)

  appended-size : length (field_after src (Entry o) l) ≡ n + length (entry_of src o)
  appended-size = ap length appended-field ∙ length-append (start_of src l o) (entry_of src o) ∙ ap (◌+ length (entry_of src o)) start-size

  -- The log and the entry have room.
  module _ (at : ℕ) (out : Bytes) {more : ℕ} (r : at + length (field_after src (Entry o) l) ≤ length out) where
    pub appended-room : more ≡ length (entry_of src o) → at + n + more ≤ length out
    appended-room m = omega (arith, appended-size)

    -- The entry is written behind the place of the log, then the log at its place.
    pub appended-written : {mid end : Bytes} → Writes (entry_of src o) (at + n) out mid more → end ≡ written at (log_start more (log_bytes src l)) mid →
        Puts (field_after src (Entry o) l) at out end (at + n + more)
    appended-written w p = record {
      same =
          rw w.size at p ∙ ap (written at (start_of src l o)) w.same
          ∙ written-before at (at + n) (start_of src l o) (entry_of src o) out (ap (at +◌) (sym start-size)) (omega (arith, appended-size))
          ∙ ap (λ (b : Bytes). written at b out) (sym appended-field);
      place = omega (arith, appended-size);
    }

-- The operation of a tail that has one.
pub sound-entry : (src : Bytes) {tail : Tail} {o : Operation} → SoundTail src tail → tail ≡ Entry o → SoundOp src o
sound-entry src s e = subst (λ (t : Tail). SoundTail src t) e s

-- The field, written, by the kinds of a tail.
module _ (src : Bytes) (l : Option LogRef) {tail : Tail} (at : ℕ) (out : Bytes) where
  pub nothing_written : {end : Bytes} {n : ℕ} → SoundLog src l → tail ≡ Nothing → end ≡ written at (log_start 0 (log_bytes src l)) out → LogSize l n →
      Puts (field_after src tail l) at out end (at + n)
  nothing_written s e p z = rw e (record {
    same = p ∙ ap (λ (b : Bytes). written at b out) (start-whole (log_bytes src l));
    place = ap (at +◌) (z.same src s);
  })

  pub header-written : {end : Bytes} → tail ≡ Header → end ≡ written at (encode_field (field 0x13 (header 0))) out →
      Puts (field_after src tail l) at out end (at + 11)
  header-written e p = rw e (record {
    same = p ∙ ap (λ (b : Bytes). written at b out) (sym (log-field refl));
    place = omega (arith, log-length (header 0), header-length 0);
  })

  pub entry-room : {o : Operation} → tail ≡ Entry o → at + length (field_after src tail l) ≤ length out → at + length (field_after src (Entry o) l) ≤ length out
  entry-room e r = rw e at r

  pub entry-written : {o : Operation} {end : Bytes} {n : ℕ} → tail ≡ Entry o → Puts (field_after src (Entry o) l) at out end n →
      Puts (field_after src tail l) at out end n
  entry-written e p = rw e p
