-- `is_repeated` meets its contract: the fields from the iterator's place on decide.
use mathlib.Core.Path.{◌≡◌}
use Rattle.key_set.proofs.Walks.{Seeking}
use Rattle.key_set.proofs.is_repeated.Given as goal

abbrev pub invariant-loop-x : goal.invariant-loop-x
invariant-loop-x l = (goal.iterator-loop-x).is_finite l.x-iterator × (l.x-iterator.bytes.now ≡ l.before) × Seeking l.before l.key l.x-iterator.at
