-- `count_keys` meets its contract: n keys stand before the iterator's place.
use mathlib.Core.Path.{◌≡◌}
use Rattle.key_set.proofs.Walks.{Counting}
use Rattle.key_set.proofs.count_keys.Given as goal

abbrev pub invariant-loop-x : goal.invariant-loop-x
invariant-loop-x l = (goal.iterator-loop-x).is_finite l.x-iterator × (l.x-iterator.bytes.now ≡ l.keys) × Counting l.keys l.x-iterator.at l.n
