-- `trace::Trace::start`.
use native.Mathlib.Omega.{arith}
use mathlib.Core.Path.{refl}
use mathlib.Core.List.{[]}
use Rattle.trace.proofs.Trace.start.Goals as goal

pub returns : goal.returns
returns c = let s = c.behind.ensures.steps in (omega arith, c.behind.ensures.tracks [] (λ l. refl))
