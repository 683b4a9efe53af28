-- `field::u32_at` meets its contract: the four bytes that it reads are those at the place.
use mathlib.Core.Path.{◌∙◌}
use native.Mathlib.Omega.{arith}
use Prim.Native.Nat.{◌<◌}
use lib.ListN.{length}
use Rattle.std.proofs.Common.{rules, tests}
use Rattle.field.proofs.Reading.{number_read, number-missing, first-four}
use Rattle.field.proofs.Numbers.{number-four}
use Rattle.field.proofs.u32_at.Goals as goal
use Rattle.field.proofs.u32_at.Goals.{in_default-via-in-None-1, in_default-via-in-Some+in-None-1}

pub returns-in-Some-first_chunk : goal.returns-in-Some-first_chunk
returns-in-Some-first_chunk c =
    let rest = c.in-Some.ensures.lookup.0 in
    let first = c.in-Some-first_chunk.ensures.cases in
    rw (first-four c.args.s.now c.args.at rest.2 first.enough first.same) at c.from_le_bytes.ensures
    ∙ number-four _ _ _ _
    ∙ number_read _ _ (omega (arith, rest.3, first.enough))

pub returns-in_default : goal.returns-in_default
returns-in_default c = elim c.in_default.branch [
  | in_default-via-in-None-1 w ↦ (let e : length c.args.s.now < c.args.at = search (rules, tests) in number-missing _ _ (omega arith))
  | in_default-via-in-Some+in-None-1 w ↦ (let e : length w.in-Some.rest.now < 4 = search (rules, tests) in number-missing _ _ (omega (arith, w.in-Some.ensures.lookup.0.3)))
]
