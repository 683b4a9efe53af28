use native.Mathlib.Omega.{arith}
use mathlib.Core.Path.{sym, ap, ◌∙◌}
use Prim.Native.Nat.{◌<◌, ◌≤◌}
use lib.ListN.{length}
use Rattle.store.specs.Tables.{live}
use Rattle.store.proofs.Live.{same_item}
use Rattle.store.proofs.Tally.{own}
use Rattle.store.proofs.Listing.{dirs-next, dirs-pass, dirs-end}
use Rattle.store.proofs.Table.dirs.Goals as goal
use Rattle.store.proofs.Table.dirs.Goals.{then-is_dir, else-is_dir}

pub loop-x-preserved : goal.loop-x-preserved
loop-x-preserved c =
    let h : c.loop-x.x-index < length (live c.args.self.now) = rw (← c.as_slice-x-items.ensures.value) (omega arith) in
    let r = sym (same_item c.loop-x.x-index c.as_slice-x-items.ensures.value) in
    let t = ap own r ∙ sym c.is_dir.ensures.by_length in
    elim c.if-is_dir.branch [
      | then-is_dir w ↦ dirs-next c.loop-x.invariant h (t ∙ w.if-is_dir.true) (ap (λ l. l.items) w.names-is ∙ rw r w.push.ensures.items)
      | else-is_dir w ↦ dirs-pass c.loop-x.invariant h (t ∙ w.if-is_dir.false) w.names-is
    ]

pub returns : goal.returns
returns c =
    let h : length (live c.args.self.now) ≤ c.loop-x.x-index = rw (← c.as_slice-x-items.ensures.value) (omega arith) in
    λ src s. dirs-end c.loop-x.invariant h s
