-- Laws of `written`, for all who write into lent bytes.
use Rattle.std.specs.Prelude.{if◌then◌else◌}
use mathlib.Core.Path.{◌≡◌, refl, sym, ap, ◌∙◌}
use mathlib.Core.Bool.{Bool, true, false}
use mathlib.Core.List.{[], ◌∷◌, ◌++◌, append_assoc}
use Prim.Native.Nat.{ℕ, ◌+◌, ◌-◌, ◌≤◌, ◌<◌}
use native.Mathlib.Omega.{arith}
use native.Mathlib.Nat.{zero-add}
use native.Mathlib.Numerals.{add-one}
use lib.ListN.{length, take, drop, get_or, set, length-append, length-set}
use lib.Seq.{take-length, length-take-le, take-append-le, take-take, take_at, drop_at, drop-drop, paste, paste-zero, paste-suc, length-paste, sets, sets-eq}
use lib.Dec.{leb}
use borrow.Author.Tests.{le-leb, lt-leb, leb-true, leb-false}
use Rattle.basics.specs.Base.{Bytes}
use Rattle.basics.specs.Field.{little_endian, Field, encode_field}
use Rattle.field.specs.Writing.{written, field, written_field}

-- With room: the bytes before, those written, the bytes behind.
pub written-room : (at : ℕ) (v out : Bytes) → at + length v ≤ length out → written at v out ≡ take at out ++ v ++ drop (at + length v) out
unfolding written
written-room at v out h = rw (le-leb _ _ h, take-length v)

-- Without room: nothing changes.
pub written-full : (at : ℕ) (v out : Bytes) → length out < at + length v → written at v out ≡ out
unfolding written
written-full at v out h = rw (lt-leb _ _ h)

-- The lent bytes stay as many.
pub length-written : (at : ℕ) (v out : Bytes) → length (written at v out) ≡ length out
unfolding written
length-written at v out = go (leb (at + length v) (length out)) refl
  where
    go : (t : Bool) → leb (at + length v) (length out) ≡ t → length (if t then paste out at v (length v) else out) ≡ length out
    go true e = length-paste out at v (length v) (leb-true _ _ e) (omega arith)
    go false e = refl

-- The same by the test that code makes, which also passes where nothing is to be written past the end.
pub written-left : (at : ℕ) (v out : Bytes) → length v ≤ length out - at → paste out at v (length v) ≡ written at v out
unfolding written
written-left at v out h = go (leb (at + length v) (length out)) refl
  where
    go : (t : Bool) → leb (at + length v) (length out) ≡ t → paste out at v (length v) ≡ (if t then paste out at v (length v) else out)
    go true e = refl
    go false e = let n : length v ≡ 0 = omega (arith, leb-false (at + length v) (length out) e) in rw n (sym (paste-zero out at v))

pub written_none : (at : ℕ) (v out : Bytes) → length out - at < length v → out ≡ written at v out
written_none at v out h = sym (written-full at v out (omega arith))

-- Nothing written changes nothing.
pub written-nil : (at : ℕ) (out : Bytes) → written at [] out ≡ out
written-nil at out = sym (written-left at [] out (omega arith)) ∙ sym (paste-zero out at [])

-- Written at the front, in an output with room: 01, Sixteen numbers, "the lent output keeps its bytes behind them".
pub written-front : (v out : Bytes) → length v ≤ length out → written 0 v out ≡ v ++ drop (length v) out
written-front v out h = written-room 0 v out (omega arith) ∙ rw zero-add

-- Two writings one behind the other are one, if there is room for both.
pub written-written : (at next : ℕ) (a b out : Bytes) → next ≡ at + length a → next + length b ≤ length out → written next b (written at a out) ≡ written at (a ++ b) out
written-written at next a b out e h =
    let p : Bytes = take at out ++ a in
    let r : Bytes = drop next out in
    let one : written at a out ≡ p ++ r = rw e (written-room at a out (omega arith)) in
    let l : length p ≡ next = length-append (take at out) a ∙ (let k : length (take at out) ≡ at = length-take-le at out (omega arith) in omega arith) in
    let size : length (p ++ r) ≡ length out = sym (ap length one) ∙ length-written at a out in
    let back : drop (next + length b) (p ++ r) ≡ drop (next + length b) out = sym (drop-drop (length b) next (p ++ r)) ∙ ap (drop (length b)) (drop_at p r next l) ∙ drop-drop (length b) next out in
    let two : written next b (p ++ r) ≡ p ++ b ++ drop (next + length b) out = written-room next b (p ++ r) (omega arith) ∙ rw (take_at p r next l, back) in
    let n : at + length (a ++ b) ≡ next + length b = ap (at +◌) (length-append a b) ∙ omega arith in
    ap (written next b) one ∙ two ∙ sym (written-room at (a ++ b) out (omega arith) ∙ rw n (ap (λ (x : Bytes). x ++ drop (next + length b) out) (sym (append_assoc (take at out) a b))))

-- The same, of two calls that wrote.
pub written_then : (at next : ℕ) (a b out : Bytes) {mid end : Bytes} → mid ≡ written at a out → end ≡ written next b mid → next ≡ at + length a → next + length b ≤ length out → end ≡ written at (a ++ b) out
written_then at next a b out p q e h = q ∙ ap (written next b) p ∙ written-written at next a b out e h

-- Two writings are one also if the second part is written first.
pub written-before : (at next : ℕ) (a b out : Bytes) → next ≡ at + length a → next + length b ≤ length out →
    written at a (written next b out) ≡ written at (a ++ b) out
written-before at next a b out e h =
    let p : Bytes = take next out in
    let r : Bytes = b ++ drop (next + length b) out in
    let one : written next b out ≡ p ++ r = written-room next b out h ∙ append_assoc p b (drop (next + length b) out) in
    let l : length p ≡ next = length-take-le next out (omega arith) in
    let size : length (p ++ r) ≡ length out = sym (ap length one) ∙ length-written next b out in
    let front : take at (p ++ r) ≡ take at out = take-append-le at p r (omega arith) ∙ take-take at next out (omega arith) in
    let two : written at a (p ++ r) ≡ take at out ++ a ++ r = written-room at a (p ++ r) (omega arith) ∙ rw (front, ← e, drop_at p r next l) in
    let n : at + length (a ++ b) ≡ next + length b = ap (at +◌) (length-append a b) ∙ omega arith in
    ap (written at a) one ∙ two ∙ sym (written-room at (a ++ b) out (omega arith) ∙ rw n (simp append_assoc))

-- Stores one behind the other.
pub stored : (at : ℕ) (v out : Bytes) → length v ≤ length out - at → 0 < length v → sets out at v ≡ written at v out
stored at v out h k = sets-eq v out at (omega arith) ∙ sym (written-room at v out (omega arith))

-- A loop that writes a byte of v a turn: i of them are written.
pub record Pasting (at : ℕ) (v out : Bytes) (i : ℕ) (now : Bytes) : Type 0 where
  pub within : i ≤ length v
  pub room : length v ≤ length out - at
  pub size : length now ≡ length out
  pub same : now ≡ paste out at v i

pub pasting : (at : ℕ) (v out : Bytes) → length v ≤ length out - at → Pasting at v out 0 out
pasting at v out h = record { within = omega arith; room = h; size = refl; same = paste-zero out at v }

module _ {at : ℕ} {v out : Bytes} {i : ℕ} {now : Bytes} (w : Pasting at v out i now) where
  pub pasted : (b : ℕ) → b ≡ get_or v i 0 → i < length v → Pasting at v out (i + 1) (set now (at + i) b)
  pasted b e l = record {
    within = omega arith;
    room = w.room;
    size = length-set now (at + i) b ∙ w.size;
    same = rw (w.same, e, add-one) (paste-suc out at v i 0 (omega arith) l);
  }

  pub all-pasted : length v ≤ i → now ≡ written at v out
  all-pasted l = let e : i ≡ length v = omega arith in w.same ∙ rw e (written-left at v out w.room)

-- A field whose value is short enough, and one whose value is not.
pub field-short : (at : ℕ) (f : Field) (out : Bytes) → length f.value ≤ 0xFFFF → written_field at f out ≡ written at (encode_field f) out
unfolding written_field
field-short at f out h = rw (le-leb _ _ h)

pub field-long : (at : ℕ) (f : Field) (out : Bytes) → 0xFFFF < length f.value → written_field at f out ≡ out
unfolding written_field
field-long at f out h = rw (lt-leb _ _ h)

-- A field has three bytes more than its value.
pub encoded_length : (f : Field) → length (encode_field f) ≡ 3 + length f.value
unfolding encode_field little_endian
encoded_length f = omega arith

-- A tag and a length, and the value behind them.
module _ (at tag : ℕ) (v out : Bytes) (h : length v ≤ 0xFFFF) where
  pub field-written : (next : ℕ) {mid end : Bytes} → mid ≡ written at (tag ∷ little_endian 2 (length v)) out → end ≡ written next v mid → next ≡ at + 3 → 3 + length v ≤ length out - at → end ≡ written_field at (field tag v) out
  unfolding encode_field little_endian
  field-written next p q e r = written_then at next _ v out p q e (omega arith) ∙ sym (field-short at (field tag v) out h)

  pub field-none : length out - at < 3 + length v → out ≡ written_field at (field tag v) out
  field-none r = written_none at (encode_field (field tag v)) out (omega (arith, encoded_length (field tag v))) ∙ sym (field-short at (field tag v) out h)
