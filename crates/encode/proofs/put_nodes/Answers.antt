use native.Mathlib.Omega.{arith}
use Prim.Native.Nat.{◌<◌, ◌≤◌}
use lib.ListN.{length}
use Rattle.store.specs.Tables.{live}
use Rattle.store.proofs.Live.{same_item, sound-read}
use Rattle.encode.proofs.Placing.{begin, in_output, placed, all_placed}
use Rattle.encode.proofs.put_nodes.Goals as goal

pub loop-x-init : goal.loop-x-init
loop-x-init c = begin c.requires.1

pub put_node-requires : goal.put_node-requires
put_node-requires c =
    let h : c.loop-x.x-index < length (live c.args.t.now) = rw (← c.as_slice-x-items.ensures.value) (omega arith) in
    sound-read c.requires.0 h (same_item c.loop-x.x-index c.as_slice-x-items.ensures.value)

pub overflow_add-p : goal.overflow_add-p
overflow_add-p c =
    let h : c.loop-x.x-index < length (live c.args.t.now) = rw (← c.as_slice-x-items.ensures.value) (omega arith) in
    let l = in_output c.requires.0 c.loop-x.invariant h (same_item c.loop-x.x-index c.as_slice-x-items.ensures.value) c.node_size-p.ensures in
    omega (arith, c.requires.1)

pub loop-x-preserved : goal.loop-x-preserved
loop-x-preserved c =
    let h : c.loop-x.x-index < length (live c.args.t.now) = rw (← c.as_slice-x-items.ensures.value) (omega arith) in
    placed c.requires.0 c.loop-x.invariant h (same_item c.loop-x.x-index c.as_slice-x-items.ensures.value) c.node_size-p.ensures c.put_node.ensures

pub returns : goal.returns
returns c =
    let h : length (live c.args.t.now) ≤ c.loop-x.x-index = rw (← c.as_slice-x-items.ensures.value) (omega arith) in
    all_placed c.requires.0 c.loop-x.invariant h
