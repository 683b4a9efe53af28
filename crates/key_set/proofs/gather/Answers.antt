use borrow.Author.Rules.{rules}
use native.Mathlib.Omega.{arith}
use Rattle.std.specs.Prelude.{option_map}
use mathlib.Core.Path.{◌≡◌, refl, sym}
use lib.Seq.{length-take-le}
use Rattle.field.proofs.Reading.{no_field}
use Rattle.key_set.proofs.Gatherings.{gathering, out-size, broken, all-met, may_add, added}
use Rattle.key_set.proofs.gather.Goals as goal

pub loop-x-init : goal.loop-x-init
loop-x-init c =
    let z = c.requires in
    let n = c.of-x-items.ensures in
    let e : c.map.result ≡ option_map (λ r. c.args.at) c.args.c.name = search rules in
    rw c.into_iter-x-iterator.ensures.into_iter_gives (tt, rw n.0 refl, n.1, rw e (gathering z.0.0 z.0.1 z.1.0 z.1.1))

pub shape_of-names-in_default : goal.shape_of-names-in_default
shape_of-names-in_default c = c.loop-x.invariant.3.size

pub shape_of-out-in_default : goal.shape_of-out-in_default
shape_of-out-in_default c = out-size c.loop-x.invariant.3

pub returns-in_default : goal.returns-in_default
returns-in_default c =
    let i = c.loop-x.invariant in
    let s = c.in-Some.ensures.steps in
    broken i.3 (no_field _ _ _ (rw (i.1, i.2) at s.1) _ c.in_default.is (rw (i.1, i.2) at s.0))

pub slice_bounds-add_key-end : goal.slice_bounds-add_key-end
slice_bounds-add_key-end c = sym (length-take-le _ _ c.loop-x.invariant.3.passed.within)

pub slice_bounds-add_key-count : goal.slice_bounds-add_key-count
slice_bounds-add_key-count c = (rw (c.in-Ok.is, c.loop-x.invariant.1) at c.in-Some.ensures.steps.1).ordered

pub slice_bounds-add_key-start : goal.slice_bounds-add_key-start
slice_bounds-add_key-start c = let s = rw (c.in-Ok.is, c.loop-x.invariant.1) at c.in-Some.ensures.steps.1 in omega (arith, s)

pub slice_bounds-add_key-end-in-loop-x : goal.slice_bounds-add_key-end-in-loop-x
slice_bounds-add_key-end-in-loop-x c = let s = rw (c.in-Ok.is, c.loop-x.invariant.1) at c.in-Some.ensures.steps.1 in omega (arith, s)

pub add_key-g-requires : goal.add_key-g-requires
add_key-g-requires c =
    let i = c.loop-x.invariant in
    may_add i.3 (rw (c.in-Ok.is, i.1, i.2) at c.in-Some.ensures.steps.1)

pub loop-x-preserved : goal.loop-x-preserved
loop-x-preserved c =
    let i = c.loop-x.invariant in
    let s = c.in-Some.ensures.steps in
    let x = rw (c.in-Ok.is, i.1, i.2) at s.1 in
    (c.in-Some.ensures.goes.keeps, rw s.2 i.1, rw c.in-Ok.is at s.3, added i.3 x (search rules) c.add_key-g.ensures)

pub shape_of-names : goal.shape_of-names
shape_of-names c = c.loop-x.invariant.3.size

pub shape_of-out : goal.shape_of-out
shape_of-out c = out-size c.loop-x.invariant.3

pub returns : goal.returns
returns c =
    let i = c.loop-x.invariant in
    all-met i.3 (rw (i.1, i.2) at c.in-None.ensures.steps.0)
