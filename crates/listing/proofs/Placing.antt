-- The lines of a tree, and the line before them, written one behind the other.
use Rattle.std.specs.Prelude.{None, Some}
use mathlib.Core.Path.{◌≡◌, refl, sym, ap, ◌∙◌}
use Prim.Native.Nat.{ℕ, ◌+◌, ◌≤◌, ◌<◌}
use native.Mathlib.Omega.{arith}
use lib.ListN.{length, get_or, length-append}
use Rattle.basics.specs.Base.{Bytes}
use Rattle.answers.specs.Answers.{listing_line}
use Rattle.field.specs.Writing.{written}
use Rattle.field.proofs.Written.{written-nil, length-written, written-written, written_then}
use Rattle.store.specs.declared.Node.{Node}
use Rattle.store.specs.declared.Table.{Table}
use Rattle.store.specs.Tables.{node_of, live, map_of, SoundTable}
use Rattle.store.proofs.Lists.{drop-zero}
use Rattle.store.proofs.Live.{blank, sound-read}
use Rattle.text.specs.Writing.{Writes}
use Rattle.text.proofs.Writes.{not_written, all_written}
use Rattle.listing.specs.Lines.{answer_line, lines_of, text_of, LineSize, LinesSize}
use Rattle.listing.proofs.Counting.{line_at, lines_from, next-line, next-length, no_line}

-- The loop over the nodes: what is left to write, over what stands, gives what the whole gives.
pub record Placing (src : Bytes) (t : Table) (at : ℕ) (out now : Bytes) (p i : ℕ) : Type 0 where
  pub within : i ≤ length (live t)
  pub size : length now ≡ length out
  pub left : p + length (lines_from src t i) ≡ at + length (lines_of (map_of src t))
  pub room : at + length (lines_of (map_of src t)) ≤ length out
  pub same : written p (lines_from src t i) now ≡ written at (lines_of (map_of src t)) out

module _ {src : Bytes} {t : Table} where
  pub begin : {at : ℕ} {out : Bytes} → at + length (lines_of (map_of src t)) ≤ length out → Placing src t at out out at 0
  begin {at} {out} h = record { within = omega arith; size = refl; left = rw (drop-zero (map_of src t)); room = h; same = rw (drop-zero (map_of src t)) }

  module _ {at p i : ℕ} {out now : Bytes} (s : SoundTable src t) (w : Placing src t at out now p i) where
    module _ {x : Node} (h : i < length (live t)) (e : x ≡ get_or (live t) i blank) where
      pub line-room : p + length (listing_line (node_of src x)) ≤ length now
      line-room = rw e (omega (arith, w.left, w.room, w.size, next-length src t i h))

      module _ {k : ℕ} (z : LineSize x k) where
        line-length : k ≡ length (line_at src t i)
        line-length = z.same src (sound-read s h e) ∙ rw e

        -- The place behind the node's line.
        pub in_output : p + k + length (lines_from src t (i + 1)) ≡ at + length (lines_of (map_of src t))
        in_output = omega (arith, w.left, line-length, next-length src t i h)

        pub placed : {after : Bytes} → after ≡ written p (listing_line (node_of src x)) now → Placing src t at out after (p + k) (i + 1)
        placed {after} f =
            let g : after ≡ written p (line_at src t i) now = f ∙ rw e in
            record {
              within = omega arith;
              size = ap length g ∙ length-written p (line_at src t i) now ∙ w.size;
              left = in_output;
              room = w.room;
              same =
                  ap (written (p + k) (lines_from src t (i + 1))) g
                  ∙ written-written p (p + k) (line_at src t i) (lines_from src t (i + 1)) now (ap (p +◌) line-length) (omega (arith, in_output, w.room, w.size))
                  ∙ ap (λ (b : Bytes). written p b now) (sym (next-line src t i h)) ∙ w.same;
            }

    pub all_placed : length (live t) ≤ i → now ≡ written at (lines_of (map_of src t)) out
    all_placed h = sym (ap (λ (b : Bytes). written p b now) (no_line src t i h) ∙ written-nil p now) ∙ w.same

-- The whole text.
module _ {src : Bytes} {t : Table} (s : SoundTable src t) (number : ℕ) {a b : ℕ} (A : a ≡ length (answer_line number)) (B : LinesSize t b) (out : Bytes) where
  text-size : length (text_of number (map_of src t)) ≡ a + b
  text-size = omega (arith, length-append (answer_line number) (lines_of (map_of src t)), A, B.same src s)

  pub no_room : length out < a + b → Writes (text_of number (map_of src t)) out out None
  no_room r = not_written (omega (arith, text-size))

  pub all-written : a + b ≤ length out → {first end : Bytes} → first ≡ written 0 (answer_line number) out → end ≡ written a (lines_of (map_of src t)) first → Writes (text_of number (map_of src t)) out end (Some (a + b))
  all-written r p q =
      all_written (omega (arith, text-size)) (sym text-size)
      (written_then 0 a (answer_line number) (lines_of (map_of src t)) out p q (omega (arith, A)) (omega (arith, B.same src s)))
