-- `transaction::decode_operation` meets its contract: the row of the first field's kind says what the fields must be.
use mathlib.Core.Path.{sym, ◌∙◌}
use native.Mathlib.Omega.{arith}
use lib.Seq.{length-take-le}
use Rattle.transaction.proofs.Arms.{five_tags}
use Rattle.transaction.proofs.Payloads.{bounds, nowhere, no-kind-field, wide_parts, undecodable, unknown, no-fit, fits, no_byte, first_byte, kind_of, kindless, not-zero}
use Rattle.transaction.proofs.decode_operation.Goals as goal

pub returns-then-not-in_bounds : goal.returns-then-not-in_bounds
returns-then-not-in_bounds c = nowhere (sym c.in_bounds.ensures ∙ c.if-not-in_bounds.true)

pub slice_bounds-s-end : goal.slice_bounds-s-end
slice_bounds-s-end c =
    let b = bounds _ _ _ (sym c.in_bounds.ensures ∙ c.if-not-in_bounds.false) in
    sym (length-take-le c.args.end c.args.src.now b.within)

pub returns-in_default : goal.returns-in_default
returns-in_default c =
    let b = bounds _ _ _ (sym c.in_bounds.ensures ∙ c.if-not-in_bounds.false) in
    undecodable b (no-kind-field _ _ _ c.read_field.ensures _ c.in_default.is)

pub slice_bounds-first-count : goal.slice_bounds-first-count
slice_bounds-first-count c = let w = c.in-Ok.ensures in omega arith

pub slice_bounds-first-start : goal.slice_bounds-first-start
slice_bounds-first-start c = let w = c.in-Ok.ensures in omega arith

pub slice_bounds-first-end : goal.slice_bounds-first-end
slice_bounds-first-end c = let w = c.in-Ok.ensures in omega arith

pub returns-in_err-byte : goal.returns-in_err-byte
returns-in_err-byte c =
    let b = bounds _ _ _ (sym c.in_bounds.ensures ∙ c.if-not-in_bounds.false) in
    let w = c.in-Ok.ensures in
    rw c.from_residual.ensures (unknown b w 0 (no_byte _ c.in_err-byte.ensures.value) not-zero)

pub returns-in_err-kind : goal.returns-in_err-kind
returns-in_err-kind c =
    let b = bounds _ _ _ (sym c.in_bounds.ensures ∙ c.if-not-in_bounds.false) in
    let w = c.in-Ok.ensures in
    rw c.from_residual-in_err-kind.ensures (unknown b w _ (first_byte _ c.in_ok-byte.ensures.value) (kindless _ c.in_err-kind.ensures.value c.try_from.ensures))

pub read_row-requires : goal.read_row-requires
read_row-requires c =
    let b = bounds _ _ _ (sym c.in_bounds.ensures ∙ c.if-not-in_bounds.false) in
    let l = length-take-le c.args.end c.args.src.now b.within in
    (rw c.tags.ensures (five_tags _), (omega arith, omega arith))

pub returns-in_err-parts : goal.returns-in_err-parts
returns-in_err-parts c =
    let b = bounds _ _ _ (sym c.in_bounds.ensures ∙ c.if-not-in_bounds.false) in
    let w = c.in-Ok.ensures in
    let k = sym (kind_of _ c.in_ok-kind.ensures.value c.try_from.ensures) ∙ first_byte _ c.in_ok-byte.ensures.value in
    rw c.from_residual-in_err-parts.ensures (no-fit b w c.in_ok-kind.kind k (rw c.tags.ensures at c.in_err-parts.ensures))

pub operation_of-requires : goal.operation_of-requires
operation_of-requires c = wide_parts c.args.end _ c.in_ok-parts.ensures.parts

pub returns : goal.returns
returns c =
    let b = bounds _ _ _ (sym c.in_bounds.ensures ∙ c.if-not-in_bounds.false) in
    let w = c.in-Ok.ensures in
    let k = sym (kind_of _ c.in_ok-kind.ensures.value c.try_from.ensures) ∙ first_byte _ c.in_ok-byte.ensures.value in
    fits b w c.in_ok-kind.kind k (rw c.tags.ensures at c.in_ok-parts.ensures) c.operation_of.ensures
