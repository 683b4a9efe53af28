-- `gather` meets its contract: the fields before `next`, the iterator's place, have been met.
use mathlib.Core.Path.{◌≡◌}
use Rattle.key_set.proofs.Gatherings.{Gathering}
use Rattle.key_set.proofs.gather.Given as goal

abbrev pub invariant-loop-x : goal.invariant-loop-x
invariant-loop-x l =
    (goal.iterator-loop-x).is_finite l.x-iterator
    × (l.x-iterator.bytes.now ≡ l.keys)
    × (l.x-iterator.at ≡ l.next)
    × Gathering l.keys l.initial.names l.c l.fn.at l.initial.out l.names l.out l.next l.g
