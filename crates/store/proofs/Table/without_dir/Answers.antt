use native.Mathlib.Omega.{arith}
use mathlib.Core.Path.{sym, ap, ◌∙◌}
use Prim.Native.Nat.{◌<◌, ◌≤◌}
use lib.ListN.{length}
use Rattle.store.specs.Tables.{live}
use Rattle.store.proofs.Live.{same_item}
use Rattle.store.proofs.Sweep.{swept_none, swept_kept, swept_passed, swept_all}
use Rattle.store.proofs.Table.without_dir.Goals as goal
use Rattle.store.proofs.Table.without_dir.Goals.{then-not-same, else-not-same}

pub loop-x-init : goal.loop-x-init
loop-x-init c = swept_none c.new-kept.ensures

pub loop-x-preserved : goal.loop-x-preserved
loop-x-preserved c =
    let h : c.loop-x.x-index < length (live c.args.self.now) = rw (← c.as_slice-x-items.ensures.value) (omega arith) in
    let r = same_item c.loop-x.x-index c.as_slice-x-items.ensures.value in
    elim c.if-not-same.branch [
      | then-not-same w ↦ swept_kept c.loop-x.invariant c.requires.0 h r (sym c.same.ensures ∙ w.if-not-same.true) (ap live w.kept-is ∙ w.push.ensures.items)
      | else-not-same w ↦ swept_passed c.loop-x.invariant c.requires.0 h r (sym c.same.ensures ∙ w.if-not-same.false) (ap live w.kept-is)
    ]

pub returns : goal.returns
returns c =
    let h : length (live c.args.self.now) ≤ c.loop-x.x-index = rw (← c.as_slice-x-items.ensures.value) (omega arith) in
    swept_all c.loop-x.invariant c.requires.0 h
