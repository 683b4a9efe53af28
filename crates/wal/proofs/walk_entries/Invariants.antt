-- `wal::walk_entries` meets its contract: an entry a turn. What is still to be walked, behind what was read, is the whole walk.
use mathlib.Core.Path.{◌≡◌}
use Prim.Native.Nat.{◌<◌}
use lib.ListN.{length, take}
use Rattle.wal.specs.declared.Ending.TheVariants.{Whole}
use Rattle.wal.proofs.Walks.{Walking}
use Rattle.wal.proofs.walk_entries.Given as goal

abbrev pub invariant-loop-entry : goal.invariant-loop-entry
invariant-loop-entry l =
    (goal.iterator-loop-entry).can_next l.entry-iterator
    × (goal.iterator-loop-entry).is_finite l.entry-iterator
    × (l.entry-iterator.walker.log.now ≡ take l.end l.src)
    × Walking l.src l.first l.end l.ops.items l.entry-iterator.walker.at
    × (l.entry-iterator.walker.at < l.end → length l.ops.items < 32)
    × (l.ending ≡ Whole)
