-- How many bytes the lines of a tree have.
use mathlib.Core.Path.{◌≡◌, refl, ap, ◌∙◌}
use mathlib.Core.List.{[], ◌++◌}
use Prim.Native.Nat.{ℕ, ◌+◌, ◌*◌, ◌≤◌, ◌<◌}
use native.Mathlib.Omega.{arith}
use lib.ListN.{length, drop, get_or, length-append}
use Rattle.basics.specs.Base.{Bytes}
use Rattle.answers.specs.Answers.{listing_line}
use Rattle.store.specs.declared.Node.{Node}
use Rattle.store.specs.declared.Table.{Table}
use Rattle.store.specs.Places.{table_room}
use Rattle.store.specs.Tables.{node_of, live, map_of, SoundTable}
use Rattle.store.proofs.Lists.{drop-zero}
use Rattle.store.proofs.Live.{blank, rest, finished, sound-read}
use Rattle.listing.specs.Lines.{lines_of, line_bound, LineSize, LinesSize}

-- The line of the node at i, and the lines from i on.
abbrev pub line_at : Bytes → Table → ℕ → Bytes
line_at src t i = listing_line (node_of src (get_or (live t) i blank))

abbrev pub lines_from : Bytes → Table → ℕ → Bytes
lines_from src t i = lines_of (drop i (map_of src t))

module _ (src : Bytes) (t : Table) (i : ℕ) where
  pub next-line : i < length (live t) → lines_from src t i ≡ line_at src t i ++ lines_from src t (i + 1)
  unfolding lines_of
  next-line h = rw (rest src t i blank h)

  pub next-length : i < length (live t) → length (lines_from src t i) ≡ length (line_at src t i) + length (lines_from src t (i + 1))
  next-length h = ap length (next-line h) ∙ length-append (line_at src t i) (lines_from src t (i + 1))

  pub no_line : length (live t) ≤ i → lines_from src t i ≡ []
  unfolding lines_of
  no_line h = rw (finished src t i h)

-- The loop over the nodes: those before i are counted.
pub record Counting (t : Table) (n i : ℕ) : Type 0 where
  pub room : length (live t) ≤ table_room
  pub within : i ≤ length (live t)
  pub bound : n ≤ i * line_bound
  pub same : (src : Bytes) → SoundTable src t → n + length (lines_from src t i) ≡ length (lines_of (map_of src t))

pub start : {t : Table} → length (live t) ≤ table_room → Counting t 0 0
start {t} r = record { room = r; within = omega arith; bound = omega arith; same = λ src h. rw (drop-zero (map_of src t)) (omega arith) }

module _ {t : Table} {n i : ℕ} (w : Counting t n i) where
  pub counted : {x : Node} {k : ℕ} → i < length (live t) → x ≡ get_or (live t) i blank → LineSize x k → Counting t (n + k) (i + 1)
  counted {x} {k} h e z =
      let y : LineSize (get_or (live t) i blank) k = rw e at z in
      record {
        room = w.room;
        within = omega arith;
        bound = omega (arith, w.bound, z.bound);
        same = λ src s. omega (arith, next-length src t i h, w.same src s, y.same src (sound-read s h refl));
      }

  pub all-counted : length (live t) ≤ i → LinesSize t n
  all-counted h = record {
    bound = omega (arith, w.bound, w.within, w.room);
    same = λ src s. omega (arith, ap length (no_line src t i h), w.same src s);
  }
