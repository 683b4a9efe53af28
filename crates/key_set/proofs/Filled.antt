-- `fill`: the image, its log once more, and the entries.
use Rattle.std.specs.Prelude.{Option, None, Some}
use mathlib.Core.Path.{◌≡◌, refl, ap, ◌∙◌}
use mathlib.Core.List.{◌++◌}
use Prim.Native.Nat.{ℕ, ◌+◌, ◌-◌, ◌≤◌}
use native.Mathlib.Omega.{arith}
use lib.ListN.{length, take, drop, length-append, length-drop}
use lib.Seq.{take-append-le, drop-append-le, take_at, drop_at, length-take-le}
use Rattle.basics.specs.Order.{Name}
use Rattle.basics.specs.Base.{Bytes}
use Rattle.field.specs.Writing.{written}
use Rattle.field.proofs.Written.{length-written, written_then, written-front}
use Rattle.lend.specs.Lending.{Lends}
use Rattle.lend.specs.declared.Named.{Named}
use Rattle.store.specs.Stores.{SoundLog}
use Rattle.store.specs.declared.LogRef.{LogRef}
use Rattle.model.specs.Record.{key_set}
use Rattle.laws.specs.KeySetLaws.{delete_entries, set-length}
use Rattle.key_set.specs.Gathering.{set_in, Few, Roomy, Entries, Gathers}
use Rattle.key_set.specs.Deleting.{log_part, Filled, Fills}
use Rattle.key_set.specs.declared.Gathered.{Gathered}

pub set-few : {keys : Bytes} → Few keys → length (set_in keys) ≤ 32
set-few {keys} f = let e : set_in keys ≡ key_set f.names = rw f.reads in omega (arith, ap length e, set-length f.names, f.few)

-- A collection lent at the front of 128 bytes.
pub lent-first : {before names : Bytes} {collection : Name} {c : Named} → length before ≡ 128 → Lends 0 collection before names c → Roomy names c collection
lent-first e l = record { below = l.names; room = omega (arith, l.ends, l.size, e); short = omega (arith, l.size, e) }

-- Three parts, one behind the other.
module _ (a b c out : Bytes) {one two three : Bytes} (room : length a + length b + length c ≤ length out)
    (p : one ≡ written 0 a out) (q : two ≡ written (length a) b one) (r : three ≡ written (length a + length b) c two) where
  joined : three ≡ (a ++ (b ++ c)) ++ drop (length (a ++ (b ++ c))) out
  joined =
      let n = length-append a (b ++ c) in
      let m = length-append b c in
      let k = ap length p ∙ length-written 0 a out in
      written_then 0 (length a) a (b ++ c) out p (written_then (length a) (length a + length b) b c one q r refl (omega (arith, k))) (omega arith) (omega (arith, m))
      ∙ written-front (a ++ (b ++ c)) out (omega (arith, n, m))

  pub front-stands : take (length a) three ≡ a
  front-stands =
      ap (take (length a)) joined
      ∙ take-append-le (length a) (a ++ (b ++ c)) (drop (length (a ++ (b ++ c))) out) (omega (arith, length-append a (b ++ c)))
      ∙ take_at a (b ++ c) (length a) refl

  pub behind-stands : {k : ℕ} → k ≡ length b + length c → take k (drop (length a) three) ≡ b ++ c
  behind-stands {k} e =
      ap (λ (l : Bytes). take k (drop (length a) l)) joined
      ∙ ap (take k) (drop-append-le (length a) (a ++ (b ++ c)) (drop (length (a ++ (b ++ c))) out) (omega (arith, length-append a (b ++ c))) ∙ ap (λ (l : Bytes). l ++ drop (length (a ++ (b ++ c))) out) (drop_at a (b ++ c) (length a) refl))
      ∙ take_at (b ++ c) (drop (length (a ++ (b ++ c))) out) k (omega (arith, e, length-append b c))

pub long : {image : Bytes} {l : LogRef} → SoundLog image (Some l) → length (log_part image l) ≡ l.len
long {image} {l} sound = length-take-le l.len (drop l.start image) (omega (arith, length-drop l.start image, sound.inside))

pub filled : {image : Bytes} {l : LogRef} {collection : Name} {keys : Bytes} (before : Bytes) {one two after : Bytes} {g : Gathered} → Few keys → SoundLog image (Some l) → length image + l.len + 4672 ≤ length before → one ≡ written 0 image before →
    {start len : ℕ} → start ≡ l.start → len ≡ l.len → two ≡ written (length image) (take (start + len - start) (drop start image)) one → Gathers collection (length image + len) two (set_in keys) after g →
    Fills image l collection keys before after g
filled {image} {l} {collection} {keys} before {one} {two} {after} {g} few sound room p {start} {len} u v q w = record {
  size = w.size ∙ size-two;
  count = w.count;
  filled = go g.end w.entries;
}
  where
    log-two : two ≡ written (length image) (log_part image l) one
    log-two = q ∙ ap (λ (b : Bytes). written (length image) b one) (let k : start + len - start ≡ l.len = omega (arith, v) in ap (λ (n : ℕ). take n (drop start image)) k ∙ ap (λ (n : ℕ). take l.len (drop n image)) u)

    size-two : length two ≡ length before
    size-two = ap length q ∙ length-written (length image) _ one ∙ ap length p ∙ length-written 0 image before

    go : (o : Option ℕ) → Entries collection (length image + len) two (set_in keys) after o → Filled image l collection keys after o
    go None h = h
    go (Some end) h = record {
      valid = h.valid;
      starts = omega (arith, h.ends);
      ends = omega (arith, h.small, set-few few, w.size, size-two, v);
      front = front-stands image (log_part image l) (delete_entries collection (set_in keys)) before fits p log-two entries;
      log = behind-stands image (log_part image l) (delete_entries collection (set_in keys)) before fits p log-two entries (let e : end - length image ≡ length (log_part image l) + length (delete_entries collection (set_in keys)) = omega (arith, h.ends, long sound, v) in e);
    }
      where
        entries : after ≡ written (length image + length (log_part image l)) (delete_entries collection (set_in keys)) two
        entries = h.bytes ∙ ap (λ (n : ℕ). written n (delete_entries collection (set_in keys)) two) (let e : length image + len ≡ length image + length (log_part image l) = omega (arith, v, long sound) in e)

        fits : length image + length (log_part image l) + length (delete_entries collection (set_in keys)) ≤ length before
        fits = omega (arith, long sound, v, h.ends, h.small, set-few few)
