-- `trace::Trace::put_line`: by how far the trace is the plan's.
use native.Mathlib.Omega.{arith}
use Rattle.text.proofs.Writes.{within}
use Rattle.trace.proofs.Saying.{tells_differs, tells_answer, tells_steps, tells_cut}
use Rattle.trace.proofs.Trace.put_line.Goals as goal

pub returns-in-Refused : goal.returns-in-Refused
returns-in-Refused c =
    let p = c.put_said in
    (within p.ensures, rw c.in-Refused.is (tells_answer _ c.from.ensures p.ensures))

pub returns-then-met-eq0 : goal.returns-then-met-eq0
returns-then-met-eq0 c =
    let p = c.put_said-then-met-eq0 in
    (within p.ensures, rw (c.in-Along.is, c.if-met-eq0.true) (tells_steps _ _ p.ensures))

pub returns-else-met-eq0 : goal.returns-else-met-eq0
returns-else-met-eq0 c =
    let p = c.put_said-in-Along in
    (within p.ensures, rw c.in-Along.is (tells_cut _ _ _ (omega (arith, c.if-met-eq0.false)) p.ensures))

pub returns-in-Differs : goal.returns-in-Differs
returns-in-Differs c =
    let p = c.put_said-in-Differs in
    (within p.ensures, rw c.in-Differs.is (tells_differs _ _ _ p.ensures))
