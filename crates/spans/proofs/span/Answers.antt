-- `span` holds the part that it is given.
use native.Mathlib.Omega.{arith}
use mathlib.Core.Path.{refl}
use Rattle.spans.specs.Spans.{name_of}
use Rattle.spans.proofs.span.Goals as goal

pub returns : goal.returns
unfolding name_of
returns c = record { sound = record { inside = omega arith; room = omega arith }; same = refl }
