use native.Mathlib.Omega.{arith}
use mathlib.Core.Path.{sym, ap, ◌∙◌}
use Prim.Native.Nat.{◌+◌, ◌<◌}
use lib.ListN.{length, drop}
use Rattle.std.proofs.Common.{length-drop, get_or-drop, add_assoc}
use Rattle.store.specs.Tables.{live}
use Rattle.store.proofs.Lists.{rest_whole}
use Rattle.store.proofs.Live.{blank, length-table, same_item}
use Rattle.store.proofs.Listing.{filing_left, filing_next, filing_end}
use Rattle.store.proofs.Table.files.Goals as goal

pub offset_bounds-as_slice-from : goal.offset_bounds-as_slice-from
offset_bounds-as_slice-from c = omega (arith, c.files_from-from.ensures.within, length-table c.args.src.now c.args.self.now, c.requires.0.room)

pub slice_bounds-rest-count : goal.slice_bounds-rest-count
slice_bounds-rest-count c = rw c.as_slice.ensures.value (omega (arith, c.files_from-from.ensures.within, length-table c.args.src.now c.args.self.now))

pub slice_bounds-rest-start : goal.slice_bounds-rest-start
slice_bounds-rest-start c = rw c.as_slice.ensures.value (omega (arith, c.files_from-from.ensures.within, length-table c.args.src.now c.args.self.now))

pub returns-then-not-same : goal.returns-then-not-same
returns-then-not-same c =
    let n = c.files_from-from.result in
    let e = rest_whole n c.as_slice.result.now ∙ ap (drop n) c.as_slice.ensures.value in
    let h : n + c.loop-x.x-index < length (live c.args.self.now) = omega (arith, rw e at c.loop-x-test.true, length-drop n (live c.args.self.now)) in
    filing_left c.loop-x.invariant c.requires.0 h (same_item _ e ∙ get_or-drop n (live c.args.self.now) c.loop-x.x-index blank) (sym c.same.ensures ∙ c.if-not-same.true)

pub loop-x-preserved : goal.loop-x-preserved
loop-x-preserved c =
    let n = c.files_from-from.result in
    let e = rest_whole n c.as_slice.result.now ∙ ap (drop n) c.as_slice.ensures.value in
    let h : n + c.loop-x.x-index < length (live c.args.self.now) = omega (arith, rw e at c.loop-x-test.true, length-drop n (live c.args.self.now)) in
    rw (← add_assoc n c.loop-x.x-index 1) (filing_next c.loop-x.invariant c.requires.0 h (same_item _ e ∙ get_or-drop n (live c.args.self.now) c.loop-x.x-index blank) (sym c.same.ensures ∙ c.if-not-same.false) c.push.ensures.items)

pub returns : goal.returns
returns c =
    let n = c.files_from-from.result in
    let e = rest_whole n c.as_slice.result.now ∙ ap (drop n) c.as_slice.ensures.value in
    filing_end c.loop-x.invariant c.requires.0 (omega (arith, rw e at c.loop-x-test.false, length-drop n (live c.args.self.now)))
