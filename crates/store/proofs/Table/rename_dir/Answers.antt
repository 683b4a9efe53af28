use native.Mathlib.Omega.{arith}
use mathlib.Core.Path.{sym, ap, ◌∙◌}
use Prim.Native.Nat.{◌<◌}
use lib.ListN.{length}
use Rattle.store.specs.Tables.{live}
use Rattle.store.proofs.Live.{same_item}
use Rattle.store.proofs.Rename.{renaming_start, other, moved, renaming_end}
use Rattle.store.proofs.Table.rename_dir.Goals as goal
use Rattle.store.proofs.Table.rename_dir.Goals.{then-same, else-same}

pub loop-x-init : goal.loop-x-init
loop-x-init c = rw c.replace-old.ensures.after (renaming_start c.requires.0 c.without_dir-kept.ensures)

pub loop-x-preserved : goal.loop-x-preserved
loop-x-preserved c =
    let e = c.as_slice-x-items.ensures.value ∙ ap live c.replace-old.ensures.value in
    let h : c.loop-x.x-index < length (live c.args.self.now) = rw (← e) (omega arith) in
    let r = same_item c.loop-x.x-index e in
    elim c.if-same.branch [
      | then-same w ↦ moved c.loop-x.invariant c.requires.0 h r (sym c.same.ensures ∙ w.if-same.true) w.self-is w.put.ensures
      | else-same w ↦ other c.loop-x.invariant c.requires.0 h r (sym c.same.ensures ∙ w.if-same.false) w.self-is
    ]

pub returns : goal.returns
returns c =
    let e = c.as_slice-x-items.ensures.value ∙ ap live c.replace-old.ensures.value in
    renaming_end c.loop-x.invariant (rw (← e) (omega arith))
