use native.Mathlib.Omega.{arith}
use Prim.Native.Nat.{◌<◌, ◌≤◌}
use lib.ListN.{length}
use Rattle.store.specs.Tables.{live}
use Rattle.store.proofs.Live.{same_item, sound-read}
use Rattle.listing.proofs.Placing.{line-room, placed, all_placed}
use Rattle.listing.proofs.put_lines.Goals as goal

pub put_line-requires : goal.put_line-requires
put_line-requires c =
    let h : c.loop-x.x-index < length (live c.args.t.now) = rw (← c.as_slice-x-items.ensures.value) (omega arith) in
    let e = same_item c.loop-x.x-index c.as_slice-x-items.ensures.value in
    (sound-read c.requires.0 h e, line-room c.requires.0 c.loop-x.invariant h e)

pub loop-x-preserved : goal.loop-x-preserved
loop-x-preserved c =
    let h : c.loop-x.x-index < length (live c.args.t.now) = rw (← c.as_slice-x-items.ensures.value) (omega arith) in
    placed c.requires.0 c.loop-x.invariant h (same_item c.loop-x.x-index c.as_slice-x-items.ensures.value) c.line_size-p.ensures c.put_line.ensures

pub returns : goal.returns
returns c =
    let h : length (live c.args.t.now) ≤ c.loop-x.x-index = rw (← c.as_slice-x-items.ensures.value) (omega arith) in
    all_placed c.requires.0 c.loop-x.invariant h
