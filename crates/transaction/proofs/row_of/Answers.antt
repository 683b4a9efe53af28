use mathlib.Core.Logic.{inl, inr}
use native.Mathlib.Omega.{arith}
use Rattle.transaction.proofs.Encode.{one_tag, kind_written, field-written, no-tag, no_value}
use Rattle.transaction.proofs.row_of.Goals as goal

pub slice_bounds-iter-count : goal.slice_bounds-iter-count
slice_bounds-iter-count c = one_tag c.args.src.now c.args.kind c.tags.ensures

pub slice_bounds-iter-start : goal.slice_bounds-iter-start
slice_bounds-iter-start c = let l = one_tag c.args.src.now c.args.kind c.tags.ensures in omega arith

pub loop-tag-init : goal.loop-tag-init
loop-tag-init c =
    let first = rw (c.new-payload.ensures, c.from.ensures) at c.push_field.ensures.items in
    let size = rw c.new-payload.ensures at c.push_field.ensures.len in
    rw (c.into_iter-tag-iterator.ensures.into_iter_gives, c.zip-tag-items.ensures.first, c.zip-tag-items.ensures.second.0)
    (kind_written c.args.src.now c.args.kind c.requires first size c.tags.ensures c.iter.ensures.rest)

pub loop-tag-preserved : goal.loop-tag-preserved
loop-tag-preserved c = let p = c.in-Some.ensures.steps in field-written c.loop-tag.invariant p.0 p.1 c.push_field-in-loop-tag.ensures.items c.push_field-in-loop-tag.ensures.len

pub returns : goal.returns
returns c = elim c.in-None.ensures.steps [ inl e ↦ no-tag c.loop-tag.invariant e.1.0 | inr e ↦ no_value c.loop-tag.invariant e.1.0 ]
