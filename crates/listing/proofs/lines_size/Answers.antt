use native.Mathlib.Omega.{arith}
use Prim.Native.Nat.{◌<◌, ◌≤◌}
use lib.ListN.{length}
use Rattle.store.specs.Tables.{live}
use Rattle.store.proofs.Live.{same_item}
use Rattle.listing.proofs.Counting.{start, counted, all-counted}
use Rattle.listing.proofs.lines_size.Goals as goal

pub loop-x-init : goal.loop-x-init
loop-x-init c = start c.requires

pub loop-x-preserved : goal.loop-x-preserved
loop-x-preserved c =
    let h : c.loop-x.x-index < length (live c.args.t.now) = rw (← c.as_slice-x-items.ensures.value) (omega arith) in
    counted c.loop-x.invariant h (same_item c.loop-x.x-index c.as_slice-x-items.ensures.value) c.line_size-size.ensures

pub returns : goal.returns
returns c =
    let h : length (live c.args.t.now) ≤ c.loop-x.x-index = rw (← c.as_slice-x-items.ensures.value) (omega arith) in
    all-counted c.loop-x.invariant h
