-- `find`: what is found from the iterator's place on is found from the start.
use mathlib.Core.Path.{◌≡◌}
use Rattle.questions.proofs.Walks.{Ahead}
use Rattle.questions.proofs.layout.find.Given as goal

abbrev pub invariant-loop-x : goal.invariant-loop-x
invariant-loop-x l = (goal.iterator-loop-x).is_finite l.x-iterator × (l.x-iterator.bytes.now ≡ l.s) × Ahead l.s l.tag l.x-iterator.at
