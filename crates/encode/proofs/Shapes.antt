-- The fields of an image: which one a node has, and how long they are.
use mathlib.Core.Path.{◌≡◌, refl, sym, ap, ◌∙◌}
use mathlib.Core.Bool.{Bool, true, false}
use mathlib.Core.List.{[], ◌∷◌, ◌++◌}
use mathlib.Core.Option.{Option, none, some}
use Prim.Native.Nat.{ℕ, ◌+◌, ◌-◌}
use native.Mathlib.Omega.{arith}
use lib.ListN.{length, take, drop, length-append, length-drop}
use Rattle.std.specs.Prelude.{None, Some}
use Rattle.basics.specs.Order.{Name}
use Rattle.basics.specs.Map as model
use Rattle.basics.specs.Base.{Bytes, if_empty}
use Rattle.basics.specs.Field.{little_endian, encode_field, encode_fields}
use Rattle.model.specs.Log.{header, with_status}
use Rattle.model.specs.Image.{log_field}
use Rattle.basic_laws.specs.FieldLaws.{encode_one}
use Rattle.laws.specs.ImageLaws.{listed}
use Rattle.field.specs.Writing.{field}
use Rattle.field.proofs.Written.{encoded_length}
use Rattle.spans.specs.Spans.{name_of, length_of}
use Rattle.spans.proofs.Parts.{length-name}
use Rattle.store.specs.declared.Node.{Node}
use Rattle.store.specs.declared.LogRef.{LogRef}
use Rattle.store.specs.Tables.{node_of, SoundNode}
use Rattle.store.specs.Stores.{rewritten, log_bytes}
use Rattle.encode.specs.Logs.{log_start}

-- The field of a node of the tree.
pub dir-listed : (n : model.Node) → length n.0.1 ≡ 0 → listed false n ≡ field 0x10 n.0.0
dir-listed n e = go n.0.1 e
  where
    go : (f : Name) → length f ≡ 0 → if_empty f (field 0x10 n.0.0) (field 0x11 (little_endian 4 n.1 ++ n.0.1)) ≡ field 0x10 n.0.0
    go [] e = refl
    go (y ∷ ys) e = absurd (omega arith)

pub file-listed : (n : model.Node) → (length n.0.1 ≡ 0 → ⊥) → listed false n ≡ field 0x11 (little_endian 4 n.1 ++ n.0.1)
file-listed n h = go n.0.1 h
  where
    go : (f : Name) → (length f ≡ 0 → ⊥) → if_empty f (field 0x10 n.0.0) (field 0x11 (little_endian 4 n.1 ++ n.0.1)) ≡ field 0x11 (little_endian 4 n.1 ++ n.0.1)
    go [] h = absurd (h refl)
    go (y ∷ ys) h = refl

pub numbered-length : (tag x : ℕ) (f : Bytes) → length (encode_field (field tag (little_endian 4 x ++ f))) ≡ 7 + length f
unfolding little_endian
numbered-length tag x f = encoded_length (field tag (little_endian 4 x ++ f)) ∙ omega arith

-- A log, and one with the header rewritten.
pub header-length : (status : ℕ) → length (header status) ≡ 8
unfolding header little_endian
header-length status = refl

pub marked-length : (status : ℕ) (l : Bytes) → length (with_status status l) ≡ 8 + (length l - 8)
marked-length status l = omega (arith, length-append (header status) (drop 8 l), header-length status, length-drop 8 l)

-- The bytes of a log that a store holds, as they stand or with the header rewritten.
abbrev pub plain_value : Bytes → LogRef → Bytes
plain_value src l = take l.len (drop l.start src)

abbrev pub log_value : Bytes → LogRef → Bytes
log_value src l = rewritten l.rewritten (plain_value src l)

pub log-stands : (src : Bytes) (l : LogRef) → log_bytes src (Some l) ≡ some (log_value src l)
unfolding log_bytes
log-stands src l = refl

pub log-absent : (src : Bytes) → log_bytes src None ≡ none
unfolding log_bytes
log-absent src = refl

pub log-field : {o : Option Bytes} {v : Bytes} → o ≡ some v → encode_fields (log_field o) ≡ encode_field (field 0x13 v)
log-field {o} {v} e = rw e (encode_one (field 0x13 v))

pub log-length : (v : Bytes) → length (encode_fields (log_field (some v))) ≡ 3 + length v
log-length v = ap length (encode_one (field 0x13 v)) ∙ encoded_length (field 0x13 v)

-- The log's field up to the end of the log, and what follows.
pub start-length : (more : ℕ) (v : Bytes) → length (log_start more (some v)) ≡ 3 + length v
unfolding log_start little_endian
start-length more v = omega arith

pub start-whole : (o : Option Bytes) → log_start 0 o ≡ encode_fields (log_field o)
unfolding log_start encode_fields encode_field
start-whole none = refl
start-whole (some v) = let e : length v + 0 ≡ length v = omega arith in rw e (sym (encode_one (field 0x13 v)))

pub start-behind : (v e : Bytes) → log_start (length e) (some v) ++ e ≡ encode_fields (log_field (some (v ++ e)))
unfolding log_start encode_field little_endian
start-behind v e = rw (← (length-append v e)) (sym (encode_one (field 0x13 (v ++ e))))

-- Tag and length of that field.
pub start-head : (k n more : ℕ) (v : Bytes) → little_endian 2 k ≡ little_endian 2 (n + more) → n ≡ length v → 0x13 ∷ little_endian 2 k ++ v ≡ log_start more (some v)
unfolding log_start
start-head k n more v e l = rw (e, l)

-- The field of a node that the code holds.
module _ {staged : Bool} {src : Bytes} {x : Node} (s : SoundNode src x) where
  pub staged-field : staged ≡ true → listed staged (node_of src x) ≡ field 0x12 (little_endian 4 x.number ++ name_of src x.file)
  staged-field w = rw w

  pub dir-field : staged ≡ false → length_of x.file ≡ 0 → listed staged (node_of src x) ≡ field 0x10 (name_of src x.dir)
  dir-field w z = rw w (dir-listed (node_of src x) (length-name s.file ∙ z))

  pub file-field : staged ≡ false → (length_of x.file ≡ 0 → ⊥) → listed staged (node_of src x) ≡ field 0x11 (little_endian 4 x.number ++ name_of src x.file)
  file-field w h = rw w (file-listed (node_of src x) (λ z. h (sym (length-name s.file) ∙ z)))
