use mathlib.Core.Path.{◌≡◌, refl}
use Prim.Native.Nat.{◌<◌}
use lib.ListN.{length, take}
use lib.Seq.{length-take-le}
use native.Mathlib.Omega.{arith}
use Rattle.wal.proofs.Walks.{none_read, at-end, at-limit, at-truncated, at-undecodable, at_operation}
use Rattle.wal.proofs.walk_entries.Goals as goal
use Rattle.wal.proofs.walk_entries.Goals.{in-None, in-Some+in-Err, in-Some+in-Ok+in_default, in-Some+in-Ok+in-Some-decode_operation+then-len-ge-OPERATION_LIMIT+then-found-end, else-len-ge-OPERATION_LIMIT-via-then-len-ge-OPERATION_LIMIT+else-found-end, else-len-ge-OPERATION_LIMIT-via-else-len-ge-OPERATION_LIMIT}

pub returns-then-end-first : goal.returns-then-end-first
returns-then-end-first c = at-end (none_read _ c.requires.ordered c.new-ops.ensures) (omega arith) (omega arith)

pub loop-entry-init : goal.loop-entry-init
loop-entry-init c =
    let n = c.new-entry-items.ensures in
    let f = none_read c.args.src.now c.requires.ordered c.new-ops.ensures in
    rw c.into_iter-entry-iterator.ensures.into_iter_gives (
      (rw n.sums.0 c.byte_table-table.ensures, rw n.sums.1 tt),
      tt,
      rw (n.place, c.advance.ensures.0, c.new.ensures.0) refl,
      rw (n.place, c.advance.ensures.1) f,
      λ h. rw c.new-ops.ensures (omega arith),
      refl,
    )

pub push-requires : goal.push-requires
push-requires c =
    let i = c.loop-entry.invariant in
    let s = c.in-Some.ensures.steps in
    let l : length (take c.args.end c.args.src.now) ≡ c.args.end = length-take-le _ _ c.requires.within in
    (omega arith, i.4 (rw (i.2, l) at s.0))

pub loop-entry-preserved : goal.loop-entry-preserved
loop-entry-preserved c =
    let i = c.loop-entry.invariant in
    let s = c.in-Some.ensures.steps in
    let l : length (take c.args.end c.args.src.now) ≡ c.args.end = length-take-le _ _ c.requires.within in
    let h = rw (i.2, l) at s.0 in
    let x = rw (c.in-Ok.is, i.2) at s.1 in
    let e = rw c.in-Ok.is at s.3 in
    let w = at_operation i.3 c.requires.within h (i.4 h) c.requires.short x c.decode_operation.ensures c.in-Some-decode_operation.is c.push.ensures.items in
    let room : c.next.new.self.walker.at < c.args.end → length c.push.new.self.items < 32 =
    λ m. elim c.else-len-ge-OPERATION_LIMIT.branch [
      | else-len-ge-OPERATION_LIMIT-via-then-len-ge-OPERATION_LIMIT+else-found-end w ↦ absurd (omega (arith, w.if-found-end.false, e, m))
      | else-len-ge-OPERATION_LIMIT-via-else-len-ge-OPERATION_LIMIT w ↦ omega (arith, w.if-len-ge-OPERATION_LIMIT.false, c.len.ensures.value)
    ] in
    (c.in-Some.ensures.goes.keeps, tt, rw s.2 i.2, rw e w, room, i.5)

pub returns : goal.returns
returns c =
    let i = c.loop-entry.invariant in
    let l : length (take c.args.end c.args.src.now) ≡ c.args.end = length-take-le _ _ c.requires.within in
    elim c.match-next.branch [
      | in-None w ↦ rw (w.ops-is, w.ending-is, i.5) (at-end i.3 c.requires.within (rw (i.2, l) at w.in-None.ensures.steps.0))
      | in-Some+in-Err w ↦
          let s = w.in-Some.ensures.steps in
          let h = rw (i.2, l) at s.0 in
          rw (w.ops-is, w.ending-is) (at-truncated i.3 c.requires.within h (i.4 h) (rw (w.in-Err.is, i.2) at s.1))
      | in-Some+in-Ok+in_default w ↦
          let s = w.in-Some.ensures.steps in
          let h = rw (i.2, l) at s.0 in
          rw (w.ops-is, w.ending-is) (at-undecodable i.3 c.requires.within h (i.4 h) c.requires.short (rw (w.in-Ok.is, i.2) at s.1) w.decode_operation.ensures w.in_default.is)
      | in-Some+in-Ok+in-Some-decode_operation+then-len-ge-OPERATION_LIMIT+then-found-end w ↦
          let s = w.in-Some.ensures.steps in
          let h = rw (i.2, l) at s.0 in
          let o = at_operation i.3 c.requires.within h (i.4 h) c.requires.short (rw (w.in-Ok.is, i.2) at s.1) w.decode_operation.ensures w.in-Some-decode_operation.is w.push.ensures.items in
          rw (w.ops-is, w.ending-is) (at-limit o c.requires.within w.if-found-end.true (omega (arith, w.len.ensures.value, w.if-len-ge-OPERATION_LIMIT.true)))
    ]
