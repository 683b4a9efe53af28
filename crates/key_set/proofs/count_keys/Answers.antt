use mathlib.Core.Path.{refl}
use Rattle.field.proofs.Reading.{no_field}
use Rattle.key_set.proofs.Walks.{counting, not-keys, not_key, counted-one, counted-all}
use Rattle.key_set.proofs.count_keys.Goals as goal

pub loop-x-init : goal.loop-x-init
loop-x-init c =
    let n = c.of-x-items.ensures in
    rw c.into_iter-x-iterator.ensures.into_iter_gives (tt, rw n.0 refl, rw n.1 (counting _))

pub returns-in_default : goal.returns-in_default
returns-in_default c =
    let i = c.loop-x.invariant in
    let s = c.in-Some.ensures.steps in
    not-keys i.2 (no_field _ _ _ (rw i.1 at s.1) _ c.in_default.is (rw i.1 at s.0))

pub returns-then-x-ne-KEY_TAG : goal.returns-then-x-ne-KEY_TAG
returns-then-x-ne-KEY_TAG c =
    let i = c.loop-x.invariant in
    not_key i.2 (rw (c.in-Ok.is, i.1) at c.in-Some.ensures.steps.1) c.if-x-ne-KEY_TAG.true

pub loop-x-preserved : goal.loop-x-preserved
loop-x-preserved c =
    let i = c.loop-x.invariant in
    let s = c.in-Some.ensures.steps in
    let e = rw c.in-Ok.is at s.3 in
    (c.in-Some.ensures.goes.keeps, rw s.2 i.1, rw e (counted-one i.2 (rw (c.in-Ok.is, i.1) at s.1) c.if-x-ne-KEY_TAG.false))

pub returns : goal.returns
returns c =
    let i = c.loop-x.invariant in
    counted-all i.2 (rw i.1 at c.in-None.ensures.steps.0)
