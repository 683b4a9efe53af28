use native.Mathlib.Omega.{arith}
use Prim.Native.Nat.{◌<◌, ◌≤◌}
use lib.ListN.{length}
use Rattle.store.specs.Tables.{live}
use Rattle.store.proofs.Live.{same_item, sound-read}
use Rattle.inventory.proofs.Walks.{walking, far, walked, all-walked}
use Rattle.inventory.proofs.put_text.Goals as goal

pub loop-x-init : goal.loop-x-init
loop-x-init c = rw c.put-p.ensures.0.next walking

pub put_node-p-requires : goal.put_node-p-requires
put_node-p-requires c =
    let h : c.loop-x.x-index < length (live c.args.t.now) = rw (← c.as_slice-x-items.ensures.value) (omega arith) in
    (sound-read c.requires h (same_item c.loop-x.x-index c.as_slice-x-items.ensures.value), far c.requires c.loop-x.invariant)

pub loop-x-preserved : goal.loop-x-preserved
loop-x-preserved c =
    let h : c.loop-x.x-index < length (live c.args.t.now) = rw (← c.as_slice-x-items.ensures.value) (omega arith) in
    walked c.requires c.loop-x.invariant h (same_item c.loop-x.x-index c.as_slice-x-items.ensures.value) c.put_node-p.ensures c.kind_of.ensures

pub returns : goal.returns
returns c =
    let h : length (live c.args.t.now) ≤ c.loop-x.x-index = rw (← c.as_slice-x-items.ensures.value) (omega arith) in
    all-walked c.requires c.loop-x.invariant (omega (arith, c.loop-x.invariant.within))
    (rw c.put-p.ensures.0.next at c.put-p.ensures.0) c.ending.ensures c.put.ensures.0
