-- `delete_in` meets its contract: the tests in their order, and the image.
use native.Mathlib.Omega.{arith}
use mathlib.Core.Path.{refl, sym, ap}
use Rattle.answers.specs.Answers.{Answer, outcome}
use Rattle.handover.proofs.Outputs.{left_alone, gives}
use Rattle.key_set.proofs.Whole.{may_fill, countable, over, not_valid, within-read, may_delete, missing-key, all-deleted, image-stands}
use Rattle.key_set.proofs.delete_in.Goals as goal

pub fill-g-requires : goal.fill-g-requires
fill-g-requires c = may_fill c.requires

pub overflow_add-n : goal.overflow_add-n
overflow_add-n c = omega (arith, countable c.requires c.fill-g.ensures)

pub returns-then-n-g-gt-OPERATION_LIMIT : goal.returns-then-n-g-gt-OPERATION_LIMIT
returns-then-n-g-gt-OPERATION_LIMIT c written =
    left_alone refl (ap outcome (over c.requires c.fill-g.ensures c.if-n-g-gt-OPERATION_LIMIT.true))

pub returns-in_default : goal.returns-in_default
returns-in_default c written =
    left_alone refl (ap outcome (not_valid c.requires c.fill-g.ensures c.if-n-g-gt-OPERATION_LIMIT.false c.in_default.is))

pub slice_bounds-delete_each-count : goal.slice_bounds-delete_each-count
slice_bounds-delete_each-count c =
    within-read c.requires c.fill-g.ensures c.if-n-g-gt-OPERATION_LIMIT.false c.in-Some.is c.read_wal-read.ensures c.deref.ensures.0

pub slice_bounds-delete_each-start : goal.slice_bounds-delete_each-start
slice_bounds-delete_each-start c = slice_bounds-delete_each-count c

pub delete_each-requires : goal.delete_each-requires
delete_each-requires c =
    may_delete c.requires c.fill-g.ensures c.if-n-g-gt-OPERATION_LIMIT.false c.in-Some.is c.read_wal-read.ensures c.deref.ensures.0 c.with_log-moved.ensures

pub returns-then-not-delete_each : goal.returns-then-not-delete_each
returns-then-not-delete_each c written =
    left_alone refl (ap outcome (missing-key c.requires c.fill-g.ensures c.if-n-g-gt-OPERATION_LIMIT.false c.in-Some.is c.read_wal-read.ensures c.deref.ensures.0 c.with_log-moved.ensures c.delete_each.ensures c.if-not-delete_each.true))

pub hand_image-requires : goal.hand_image-requires
hand_image-requires c =
    image-stands c.requires c.fill-g.ensures c.if-n-g-gt-OPERATION_LIMIT.false c.in-Some.is c.read_wal-read.ensures c.deref.ensures.0 c.with_log-moved.ensures c.delete_each.ensures c.if-not-delete_each.false

pub returns : goal.returns
returns c written =
    let e = ap outcome (all-deleted c.requires c.fill-g.ensures c.if-n-g-gt-OPERATION_LIMIT.false c.in-Some.is c.read_wal-read.ensures c.deref.ensures.0 c.with_log-moved.ensures c.delete_each.ensures c.if-not-delete_each.false) in
    gives refl (sym (ap (λ (a : Answer). a.number) e)) (sym (ap (λ (a : Answer). a.image) e)) c.hand_image.ensures
