-- How many bytes the parts of an image have.
use mathlib.Core.Path.{◌≡◌, sym, ap, ◌∙◌}
use mathlib.Core.Bool.{Bool, true, false, false≢true}
use Rattle.std.specs.Prelude.{Option, None, Some}
use lib.Dec.{eqb}
use borrow.Author.Tests.{eq-eqb, eqb-true}
use mathlib.Core.List.{[], ◌++◌, map}
use Prim.Native.Nat.{ℕ, ◌+◌, ◌-◌, ◌≤◌, ◌<◌}
use native.Mathlib.Omega.{arith}
use lib.ListN.{length, drop, get_or, length-append}
use Rattle.basics.specs.Base.{Bytes}
use Rattle.basics.specs.Status.{status_byte}
use Rattle.basics.specs.declared.Status.{Status}
use Rattle.basics.specs.Field.{encode_field, encode_fields}
use Rattle.model.specs.Log.{with_status}
use Rattle.basic_laws.specs.ListLaws.{part_length}
use Rattle.laws.specs.ImageLaws.{listed}
use Rattle.field.specs.Writing.{field}
use Rattle.field.proofs.Written.{encoded_length}
use Rattle.spans.specs.Spans.{name_of, length_of}
use Rattle.spans.proofs.Parts.{length-name}
use Rattle.store.specs.declared.Node.{Node}
use Rattle.store.specs.declared.LogRef.{LogRef}
use Rattle.store.specs.declared.Table.{Table}
use Rattle.store.specs.Tables.{node_of, live, map_of}
use Rattle.store.specs.Stores.{SoundLog}
use Rattle.store.proofs.Live.{blank, rest, finished}
use Rattle.encode.specs.Sizes.{NodeSize, LogSize}
use Rattle.encode.proofs.Shapes.{staged-field, dir-field, file-field, numbered-length, marked-length, plain_value, log-absent, log-stands, log-length}

-- One node.
module _ {x : Node} {n : ℕ} where
  pub staged-size : {staged : Bool} → staged ≡ true → n ≡ length_of x.file → NodeSize staged x (7 + n)
  staged-size w e = record { same = λ src s. rw (staged-field s w, e) (sym (numbered-length 0x12 x.number (name_of src x.file) ∙ ap (7 +◌) (length-name s.file))) }

  pub file-size : {staged : Bool} → staged ≡ false → eqb (length_of x.file) 0 ≡ false → n ≡ length_of x.file → NodeSize staged x (7 + n)
  file-size w h e = record {
    same = λ src s. rw (file-field s w (λ z. false≢true (sym h ∙ eq-eqb (length_of x.file) 0 z)), e) (sym (numbered-length 0x11 x.number (name_of src x.file) ∙ ap (7 +◌) (length-name s.file)));
  }

  pub dir-size : {staged : Bool} → staged ≡ false → eqb (length_of x.file) 0 ≡ true → n ≡ length_of x.dir → NodeSize staged x (3 + n)
  dir-size w h e = record {
    same = λ src s. rw (dir-field s w (eqb-true (length_of x.file) 0 h), e) (sym (encoded_length (field 0x10 (name_of src x.dir)) ∙ ap (3 +◌) (length-name s.dir)));
  }

-- The bytes of a table's nodes: of all, of the one at i, and from i on.
abbrev pub bytes_of : Bool → Bytes → Table → Bytes
bytes_of staged src t = encode_fields (map (listed staged) (map_of src t))

abbrev pub bytes_at : Bool → Bytes → Table → ℕ → Bytes
bytes_at staged src t i = encode_field (listed staged (node_of src (get_or (live t) i blank)))

abbrev pub bytes_from : Bool → Bytes → Table → ℕ → Bytes
bytes_from staged src t i = encode_fields (map (listed staged) (drop i (map_of src t)))

module _ (staged : Bool) (src : Bytes) (t : Table) (i : ℕ) where
  pub next-bytes : i < length (live t) → bytes_from staged src t i ≡ bytes_at staged src t i ++ bytes_from staged src t (i + 1)
  unfolding encode_fields
  next-bytes h = rw (rest src t i blank h)

  pub next-length : i < length (live t) → length (bytes_from staged src t i) ≡ length (bytes_at staged src t i) + length (bytes_from staged src t (i + 1))
  next-length h = ap length (next-bytes h) ∙ length-append (bytes_at staged src t i) (bytes_from staged src t (i + 1))

  pub last-bytes : length (live t) ≤ i → bytes_from staged src t i ≡ []
  unfolding encode_fields
  last-bytes h = rw (finished src t i h)

-- The log.
pub no-log : {log : Option LogRef} → log ≡ None → LogSize log 0
unfolding encode_fields
no-log e = rw e (record { bound = omega arith; same = λ src s. rw (log-absent src) })

module _ {log : Option LogRef} {l : LogRef} (e : log ≡ Some l) {n : ℕ} (z : n ≡ l.len) (b : n < 65536) where
  log-part : (src : Bytes) → SoundLog src (Some l) → length (plain_value src l) ≡ n
  log-part src s = part_length src l.start l.len s.inside ∙ sym z

  pub plain-log : l.rewritten ≡ None → LogSize log (3 + n)
  plain-log f = rw e (record { bound = omega arith; same = λ src s. rw (log-stands src l, f) (sym (log-length (plain_value src l) ∙ ap (3 +◌) (log-part src s))) })

  pub marked-log : {m : Status} {k : ℕ} → l.rewritten ≡ Some m → k ≡ n - 8 → LogSize log (11 + k)
  marked-log {m} {k} f h = rw e (record {
    bound = omega arith;
    same = λ src s. rw (log-stands src l, f) (omega (arith, log-length (with_status (status_byte m) (plain_value src l)), marked-length (status_byte m) (plain_value src l), log-part src s));
  })
