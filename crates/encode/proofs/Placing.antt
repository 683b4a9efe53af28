-- Parts of an image written one behind the other.
use mathlib.Core.Path.{◌≡◌, refl, sym, ap, ◌∙◌}
use mathlib.Core.Bool.{Bool, false}
use mathlib.Core.List.{◌∷◌, ◌++◌, map}
use mathlib.Core.Option.{some}
use Prim.Native.Nat.{ℕ, min, ◌+◌, ◌-◌, ◌≤◌, ◌<◌}
use native.Mathlib.Omega.{arith}
use lib.ListN.{length, take, drop, get_or, length-append, drop_of_length-le}
use lib.Seq.{length-take-le}
use native.Mathlib.Decide.{dec_le}
use Rattle.std.specs.Prelude as std
use Rattle.std.specs.Prelude.{None, Some}
use Rattle.basics.specs.Base.{Bytes}
use Rattle.basics.specs.Status.{status_byte}
use Rattle.basics.specs.declared.Status.{Status}
use Rattle.basics.specs.Map.{Map}
use Rattle.basics.specs.Field.{little_endian, encode_field, encode_fields}
use Rattle.model.specs.Log.{header, with_status}
use Rattle.laws.specs.ImageLaws.{listed}
use Rattle.field.specs.Writing.{written}
use Rattle.field.proofs.Written.{written_none, written-nil, length-written, written-written, written_then}
use Rattle.store.specs.declared.LogRef.{LogRef}
use Rattle.store.specs.declared.Node.{Node}
use Rattle.store.specs.declared.Table.{Table}
use Rattle.store.specs.Tables.{node_of, live, map_of, SoundTable}
use Rattle.store.specs.Stores.{log_bytes}
use Rattle.store.specs.Kept.{Kept}
use Rattle.store.proofs.Lists.{drop-zero, rest_whole}
use Rattle.store.proofs.Live.{blank, sound-read}
use Rattle.encode.specs.Logs.{log_start}
use Rattle.encode.specs.Sizes.{NodeSize}
use Rattle.encode.specs.Encoding.{Puts}
use Rattle.encode.proofs.Shapes.{header-length, plain_value, log-absent, log-stands, start-length, start-head}
use Rattle.encode.proofs.Counting.{bytes_of, bytes_at, bytes_from, next-bytes, next-length, last-bytes}

-- Tag and length, and a value behind them that is written in two parts: a header and the entries.
pub two-written : (at tag n : ℕ) (a b out : Bytes) (next : ℕ) {first mid end : Bytes} → first ≡ written at (tag ∷ little_endian 2 n) out → mid ≡ written (at + 3) a first → end ≡ written next b mid → next ≡ at + 3 + length a → 3 + length (a ++ b) ≤ length out - at → end ≡ written at (tag ∷ little_endian 2 n ++ (a ++ b)) out
unfolding little_endian
two-written at tag n a b out next {first} p q r z h =
    let l : length first ≡ length out = ap length p ∙ length-written at (tag ∷ little_endian 2 n) out in
    let m : length (a ++ b) ≡ length a + length b = length-append a b in
    written_then at (at + 3) (tag ∷ little_endian 2 n) (a ++ b) out p (written_then (at + 3) next a b first q r z (omega arith)) refl (omega arith)

-- The rest of a log behind its header, if it has more bytes.
pub behind-header : (l : Bytes) (h : ℕ) → h ≡ min (length l) 8 → take (length l - h) (drop h l) ≡ drop 8 l
behind-header l h e = rest_whole h l ∙ go (dec_le (length l) 8)
  where
    go : Dec (length l ≤ 8) → drop h l ≡ drop 8 l
    go (yes k) = drop_of_length-le l {i = h} (omega arith) ∙ sym (drop_of_length-le l {i = 8} k)
    go (no k) = let z : h ≡ 8 = omega arith in rw z

-- No room for a log.
pub start_none : (at more : ℕ) (v out : Bytes) → length out - at < 3 + length v → out ≡ written at (log_start more (some v)) out
start_none at more v out h = written_none at (log_start more (some v)) out (omega (arith, start-length more v))

-- A header rewritten, and the rest of the log.
module _ (l : Bytes) (status more at : ℕ) (out : Bytes) {rest : Bytes} (r : rest ≡ drop 8 l) where
  marked-value : 8 + length rest ≡ length (header status ++ drop 8 l)
  marked-value = omega (arith, length-append (header status) (drop 8 l), header-length status, ap length r)

  pub marked-written : (k : ℕ) {first mid end : Bytes} → little_endian 2 k ≡ little_endian 2 (8 + length rest + more) → first ≡ written at (0x13 ∷ little_endian 2 k) out → mid ≡ written (at + 3) (header status) first → end ≡ written (at + 11) rest mid
      → 11 + length rest ≤ length out - at → end ≡ written at (log_start more (some (with_status status l))) out
  marked-written k {first} {mid} w p q u z =
      two-written at 0x13 k (header status) (drop 8 l) out (at + 11) p q (u ∙ ap (λ (b : Bytes). written (at + 11) b mid) r) (omega (arith, header-length status)) (omega (arith, marked-value))
      ∙ ap (λ (b : Bytes). written at b out) (start-head k (8 + length rest) more (header status ++ drop 8 l) w marked-value)

  pub marked-none : length out - at < 11 + length rest → out ≡ written at (log_start more (some (with_status status l))) out
  marked-none z = start_none at more (header status ++ drop 8 l) out (omega (arith, marked-value))

-- A log as it stands.
module _ (l : Bytes) (more at : ℕ) (out : Bytes) where
  pub plain-written : (k : ℕ) {first end : Bytes} → little_endian 2 k ≡ little_endian 2 (length l + more) → first ≡ written at (0x13 ∷ little_endian 2 k) out → end ≡ written (at + 3) l first → 3 + length l ≤ length out - at → end ≡ written at (log_start more (some l)) out
  unfolding little_endian
  plain-written k w u v h =
      written_then at (at + 3) (0x13 ∷ little_endian 2 k) l out u v refl (omega arith)
      ∙ ap (λ (b : Bytes). written at b out) (start-head k (length l) more l w refl)

-- The log that a store holds.
pub log-none : (src : Bytes) {log : std.Option LogRef} (e : log ≡ None) (more at : ℕ) (out : Bytes) → out ≡ written at (log_start more (log_bytes src log)) out
unfolding log_start
log-none src e more at out = rw (e, log-absent src) (sym (written-nil at out))

module _ (src : Bytes) {log : std.Option LogRef} {l : LogRef} (e : log ≡ Some l) {start len : ℕ} (p : start ≡ l.start) (q : len ≡ l.len) (more at : ℕ) (out : Bytes) where
  -- The log's part of the bytes, as a slice of them.
  abbrev sliced : Bytes
  sliced = take (start + len - start) (drop start src)

  part : sliced ≡ plain_value src l
  part = let n : start + len - start ≡ l.len = omega arith in rw (n, p)

  pub log-rewritten : {m : Status} {after : Bytes} → l.rewritten ≡ Some m → after ≡ written at (log_start more (some (with_status (status_byte m) sliced))) out → after ≡ written at (log_start more (log_bytes src log)) out
  log-rewritten f w = w ∙ rw (part, e, log-stands src l, f)

  pub log-copied : {after : Bytes} → l.rewritten ≡ None → after ≡ written at (log_start more (some sliced)) out → after ≡ written at (log_start more (log_bytes src log)) out
  log-copied f w = w ∙ rw (part, e, log-stands src l, f)

-- The loop over the nodes: what is left to write, over what stands, gives what the whole gives.
pub record Placing (staged : Bool) (src : Bytes) (t : Table) (at : ℕ) (out now : Bytes) (p i : ℕ) : Type 0 where
  pub within : i ≤ length (live t)
  pub size : length now ≡ length out
  pub left : p + length (bytes_from staged src t i) ≡ at + length (bytes_of staged src t)
  pub room : at + length (bytes_of staged src t) ≤ length out
  pub same : written p (bytes_from staged src t i) now ≡ written at (bytes_of staged src t) out

module _ {staged : Bool} {src : Bytes} {t : Table} where
  pub begin : {at : ℕ} {out : Bytes} → at + length (bytes_of staged src t) ≤ length out → Placing staged src t at out out at 0
  begin {at} {out} h = record { within = omega arith; size = refl; left = rw (drop-zero (map_of src t)); room = h; same = rw (drop-zero (map_of src t)) }

  module _ {at p i : ℕ} {out now : Bytes} (s : SoundTable src t) (w : Placing staged src t at out now p i) where
    module _ {x : Node} (h : i < length (live t)) (e : x ≡ get_or (live t) i blank) where
      module _ {k : ℕ} (z : NodeSize staged x k) where
        node-length : k ≡ length (bytes_at staged src t i)
        node-length = z.same src (sound-read s h e) ∙ rw e

        -- The place behind the node.
        pub in_output : p + k + length (bytes_from staged src t (i + 1)) ≡ at + length (bytes_of staged src t)
        in_output = omega (arith, w.left, node-length, next-length staged src t i h)

        pub placed : {after : Bytes} → after ≡ written p (encode_field (listed staged (node_of src x))) now → Placing staged src t at out after (p + k) (i + 1)
        placed {after} f =
            let g : after ≡ written p (bytes_at staged src t i) now = f ∙ rw e in
            record {
              within = omega arith;
              size = ap length g ∙ length-written p (bytes_at staged src t i) now ∙ w.size;
              left = in_output;
              room = w.room;
              same =
                  ap (written (p + k) (bytes_from staged src t (i + 1))) g
                  ∙ written-written p (p + k) (bytes_at staged src t i) (bytes_from staged src t (i + 1)) now (ap (p +◌) node-length) (omega (arith, in_output, w.room, w.size))
                  ∙ ap (λ (b : Bytes). written p b now) (sym (next-bytes staged src t i h)) ∙ w.same;
            }

    pub all_placed : length (live t) ≤ i → Puts (bytes_of staged src t) at out now p
    all_placed h =
        let e = last-bytes staged src t i h in
        record { same = sym (ap (λ (b : Bytes). written p b now) e ∙ written-nil p now) ∙ w.same; place = omega (arith, ap length e) }

-- A tree that stands in the lent bytes as it is to be written.
pub kept-copied : {src : Bytes} {kept : ℕ} {m : Map} (out : Bytes) {after : Bytes} → Kept src kept m → (kept ≡ 0 → ⊥) →
    after ≡ written 0 (take kept src) out → Puts (encode_fields (map (listed false) m)) 0 out after kept
kept-copied {src} {kept} out k h p =
    let e = k.same h in
    record { same = p ∙ ap (λ (b : Bytes). written 0 b out) e; place = omega (arith, ap length e, length-take-le kept src k.within) }
