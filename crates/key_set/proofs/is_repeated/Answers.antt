use native.Mathlib.Omega.{arith}
use mathlib.Core.Path.{refl, sym, ◌∙◌}
use Rattle.field.proofs.Reading.{no_field}
use Rattle.key_set.proofs.Walks.{seeking, no_break, sought_all, found, not_found}
use Rattle.key_set.proofs.is_repeated.Goals as goal

pub loop-x-init : goal.loop-x-init
loop-x-init c =
    let n = c.of-x-items.ensures in
    rw c.into_iter-x-iterator.ensures.into_iter_gives (tt, rw n.0 refl, rw n.1 (seeking _ c.requires))

pub returns-in_default : goal.returns-in_default
returns-in_default c =
    let i = c.loop-x.invariant in
    let s = c.in-Some.ensures.steps in
    no_break i.2 (no_field _ _ _ (rw i.1 at s.1) _ c.in_default.is (rw i.1 at s.0))

pub slice_bounds-same_key-count : goal.slice_bounds-same_key-count
slice_bounds-same_key-count c = (rw (c.in-Ok.is, c.loop-x.invariant.1) at c.in-Some.ensures.steps.1).ordered

pub slice_bounds-same_key-start : goal.slice_bounds-same_key-start
slice_bounds-same_key-start c = let s = rw (c.in-Ok.is, c.loop-x.invariant.1) at c.in-Some.ensures.steps.1 in omega (arith, s)

pub slice_bounds-same_key-end : goal.slice_bounds-same_key-end
slice_bounds-same_key-end c = let s = rw (c.in-Ok.is, c.loop-x.invariant.1) at c.in-Some.ensures.steps.1 in omega (arith, s)

pub returns-then-same_key : goal.returns-then-same_key
returns-then-same_key c =
    let i = c.loop-x.invariant in
    found i.2 (rw (c.in-Ok.is, i.1) at c.in-Some.ensures.steps.1) (sym c.same_key.ensures ∙ c.if-same_key.true)

pub loop-x-preserved : goal.loop-x-preserved
loop-x-preserved c =
    let i = c.loop-x.invariant in
    let s = c.in-Some.ensures.steps in
    let e = rw c.in-Ok.is at s.3 in
    (c.in-Some.ensures.goes.keeps, rw s.2 i.1, rw e (not_found i.2 (rw (c.in-Ok.is, i.1) at s.1) (sym c.same_key.ensures ∙ c.if-same_key.false)))

pub returns : goal.returns
returns c =
    let i = c.loop-x.invariant in
    sought_all i.2 (rw i.1 at c.in-None.ensures.steps.0)
