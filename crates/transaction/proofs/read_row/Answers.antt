use mathlib.Core.Path.{sym, ◌∙◌}
use native.Mathlib.Omega.{arith}
use Rattle.transaction.proofs.Decode.{refused, accepted, all-matched, bytes-behind, row-missing, row-tag, row-value, spannable}
use Rattle.transaction.proofs.read_row.Goals as goal
use Rattle.transaction.proofs.read_row.Goals.{then-x-tag-via-then-x-tag, then-x-tag-via-else-x-tag+then-not-valid_value}

pub returns-in_default : goal.returns-in_default
returns-in_default c = refused c.loop-i.invariant (omega arith) (row-missing _ _ _ _ _ c.read_field.ensures _ c.in_default.is)

pub slice_bounds-valid_value-count : goal.slice_bounds-valid_value-count
slice_bounds-valid_value-count c = let w = c.in-Ok.ensures in omega arith

pub slice_bounds-valid_value-start : goal.slice_bounds-valid_value-start
slice_bounds-valid_value-start c = let w = c.in-Ok.ensures in omega arith

pub slice_bounds-valid_value-end : goal.slice_bounds-valid_value-end
slice_bounds-valid_value-end c = let w = c.in-Ok.ensures in omega arith

pub returns-then-x-tag : goal.returns-then-x-tag
returns-then-x-tag c =
    let w = c.in-Ok.ensures in
    refused c.loop-i.invariant (omega arith) (
    elim c.then-x-tag.branch [
      | then-x-tag-via-then-x-tag v ↦ row-tag w _ _ v.if-x-tag.true
      | then-x-tag-via-else-x-tag+then-not-valid_value v ↦ row-value w _ _ (sym v.valid_value.ensures ∙ v.if-not-valid_value.true)
    ])

pub overflow_sub-x : goal.overflow_sub-x
overflow_sub-x c = let w = c.in-Ok.ensures in omega arith

pub span-requires : goal.span-requires
span-requires c = spannable c.in-Ok.ensures (sym c.valid_value.ensures ∙ c.if-not-valid_value.false) (omega arith)

pub loop-i-preserved : goal.loop-i-preserved
loop-i-preserved c =
    accepted c.loop-i.invariant (omega arith) (omega arith) c.in-Ok.ensures c.if-x-tag.false (sym c.valid_value.ensures ∙ c.if-not-valid_value.false) c.span.ensures

pub returns-then-at-s : goal.returns-then-at-s
returns-then-at-s c = all-matched c.loop-i.invariant (omega arith) c.if-at-s.true

pub returns-else-at-s : goal.returns-else-at-s
returns-else-at-s c = bytes-behind c.loop-i.invariant (omega arith) c.if-at-s.false
