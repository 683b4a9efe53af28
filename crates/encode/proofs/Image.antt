-- The four parts of an image, one behind the other.
use mathlib.Core.Path.{◌≡◌, ap, ◌∙◌}
use mathlib.Core.Bool.{true, false}
use mathlib.Core.List.{◌++◌}
use Prim.Native.Nat.{ℕ, ◌+◌, ◌≤◌}
use native.Mathlib.Omega.{arith}
use lib.ListN.{length, drop, length-append}
use Rattle.basics.specs.Base.{Bytes}
use Rattle.basics.specs.Field.{encode_fields}
use Rattle.model.specs.Image.{mark_field, encode}
use Rattle.laws.specs.ImageLaws.{encode-parts}
use Rattle.field.proofs.Written.{length-written, written_then, written-front}
use Rattle.store.specs.declared.Store.{Store}
use Rattle.store.specs.Stores.{store_of}
use Rattle.wal.specs.declared.Tail.{Tail}
use Rattle.wal.specs.declared.Tail.TheVariants.{Nothing, Header, Entry}
use Rattle.wal.specs.Tails.{with_tail}
use Rattle.encode.specs.Logs.{field_after}
use Rattle.encode.specs.Encoding.{Puts}
use Rattle.encode.proofs.Counting.{bytes_of}

-- A part with room for it and what follows has room for itself.
front-room : (at : ℕ) {n : ℕ} (a b : Bytes) → at + length (a ++ b) ≤ n → at + length a ≤ n
front-room at a b r = omega (arith, length-append a b)

-- A part written, and what follows it: this has room behind the part, and written there it makes the whole.
module _ {a : Bytes} (b : Bytes) {at p : ℕ} {out mid : Bytes} (A : Puts a at out mid p) (r : at + length (a ++ b) ≤ length out) where
  behind-room : p + length b ≤ length mid
  behind-room = omega (arith, length-append a b, ap length A.same ∙ length-written at a out)

  joined : {end : Bytes} {q : ℕ} → Puts b p mid end q → Puts (a ++ b) at out end q
  joined B = record {
    same = written_then at p a b out A.same B.same A.place (omega (arith, length-append a b));
    place = omega (arith, length-append a b);
  }

-- The bytes of the parts.
abbrev tree : Bytes → Store → Bytes
tree src s = bytes_of false src s.tree

abbrev staging : Bytes → Store → Bytes
staging src s = bytes_of true src s.staging

abbrev log : Bytes → Tail → Store → Bytes
log src tail s = field_after src tail s.log

abbrev mark : Store → Bytes
mark s = encode_fields (mark_field s.open_mark)

-- The image that a tail leaves.
abbrev image : Bytes → Tail → Store → Bytes
image src tail s = encode (with_tail src tail (store_of src s))

in_parts : (src : Bytes) (tail : Tail) (s : Store) → image src tail s ≡ tree src s ++ (staging src s ++ (log src tail s ++ mark s))
in_parts src Nothing s = encode-parts (with_tail src Nothing (store_of src s))
in_parts src Header s = encode-parts (with_tail src Header (store_of src s))
in_parts src (Entry o) s = encode-parts (with_tail src (Entry o) (store_of src s))

-- Each part has room, and all are the image.
module _ (src : Bytes) (tail : Tail) (s : Store) (out : Bytes) (r : length (image src tail s) ≤ length out) where
  room : 0 + length (tree src s ++ (staging src s ++ (log src tail s ++ mark s))) ≤ length out
  room = omega (arith, ap length (in_parts src tail s))

  pub tree-room : length (tree src s) ≤ length out
  tree-room = omega (arith, front-room 0 (tree src s) (staging src s ++ (log src tail s ++ mark s)) room)

  module _ {a : ℕ} {one : Bytes} (A : Puts (tree src s) 0 out one a) where
    behind-tree : a + length (staging src s ++ (log src tail s ++ mark s)) ≤ length one
    behind-tree = behind-room (staging src s ++ (log src tail s ++ mark s)) A room

    pub staging-room : a + length (staging src s) ≤ length one
    staging-room = front-room a (staging src s) (log src tail s ++ mark s) behind-tree

    module _ {b : ℕ} {two : Bytes} (B : Puts (staging src s) a one two b) where
      behind-staging : b + length (log src tail s ++ mark s) ≤ length two
      behind-staging = behind-room (log src tail s ++ mark s) B behind-tree

      pub log-room : b + length (log src tail s) ≤ length two
      log-room = front-room b (log src tail s) (mark s) behind-staging

      module _ {c : ℕ} {three : Bytes} (C : Puts (log src tail s) b two three c) where
        pub mark-room : c + length (mark s) ≤ length three
        mark-room = behind-room (mark s) C behind-staging

        pub all-written : {n : ℕ} {four : Bytes} → Puts (mark s) c three four n → Puts (image src tail s) 0 out four n
        all-written D =
            let z = joined (mark s) C behind-staging D in
            let y = joined (log src tail s ++ mark s) B behind-tree z in
            rw (in_parts src tail s) (joined (staging src s ++ (log src tail s ++ mark s)) A room y)

-- For callers: where the image has room, it stands at the front, and the bytes behind it are as they were.
pub in_room_lem : {image out after : Bytes} {n : ℕ} → Puts image 0 out after n → length image ≤ length out →
    (n ≡ length image) × (after ≡ image ++ drop (length image) out)
in_room_lem {image} {out} e h = (omega arith, e.same ∙ written-front image out h)
