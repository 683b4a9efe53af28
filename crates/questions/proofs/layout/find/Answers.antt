use mathlib.Core.Path.{refl}
use Rattle.questions.proofs.Walks.{ahead, ends, breaks, behind}
use Rattle.questions.proofs.layout.find.Goals as goal

pub loop-x-init : goal.loop-x-init
loop-x-init c =
    let n = c.of-x-items.ensures in
    rw c.into_iter-x-iterator.ensures.into_iter_gives (tt, rw n.0 refl, rw n.1 (ahead _ _))

pub returns-in_default : goal.returns-in_default
returns-in_default c =
    let i = c.loop-x.invariant in
    let s = c.in-Some.ensures.steps in
    breaks i.2 c.in_default.field-0 (rw (i.1, c.in_default.is) at s.1)

pub loop-x-preserved : goal.loop-x-preserved
loop-x-preserved c =
    let i = c.loop-x.invariant in
    let s = c.in-Some.ensures.steps in
    let e = rw c.in-Ok.is at s.3 in
    (c.in-Some.ensures.goes.keeps, rw s.2 i.1, rw e (behind i.2 (rw (c.in-Ok.is, i.1) at s.1) c.if-x-tag.false))

pub returns : goal.returns
returns c =
    let i = c.loop-x.invariant in
    ends i.2 (rw i.1 at c.in-None.ensures.steps.0)
