use native.Mathlib.Omega.{arith}
use mathlib.Core.Path.{sym, ap, ◌∙◌}
use lib.ListN.{length}
use Rattle.store.proofs.Live.{same_item}
use Prim.Native.Nat.{◌<◌}
use Rattle.model.specs.Store.{is_backup_file}
use Rattle.store.specs.Tables.{live}
use Rattle.recovery.proofs.Seek.{Stops, moved, next, none_left, passes, first_at}
use Rattle.recovery.proofs.search.first_backup_file.Goals.{else-directories-test, then-directories-test+then-loop-i-test+else-not-same+then-is_backup}
use Rattle.recovery.proofs.search.first_backup_file.Goals as goal

pub loop-i-preserved : goal.loop-i-preserved
loop-i-preserved c = next c.loop-i.invariant (same_item c.loop-i.i c.as_slice-nodes.ensures.value) (rw (← c.as_slice-nodes.ensures.value) (omega arith)) (sym c.is_backup.ensures ∙ c.if-is_backup.false)

pub directories-smaller : goal.directories-smaller
directories-smaller c =
    let m = moved c.loop-i.invariant (same_item c.loop-i.i c.as_slice-nodes.ensures.value) (sym c.same.ensures ∙ c.if-not-same.true) in
    omega (arith, m, ap length c.as_slice-nodes.ensures.value)

pub returns-then-i-nodes : goal.returns-then-i-nodes
returns-then-i-nodes c =
    let e = c.as_slice-nodes.ensures.value in
    let stops : Stops is_backup_file c.args.src.now c.args.t.now c.directories-test.i = elim c.directories-test.branch [
      | else-directories-test w ↦ rw w.i-is (none_left c.directories.invariant (rw (← e) (omega arith)))
      | then-directories-test+then-loop-i-test+else-not-same+then-is_backup w ↦ rw w.i-is (passes w.loop-i.invariant.seek (same_item _ e) (rw (← e) (omega arith)) (sym w.is_backup.ensures ∙ w.if-is_backup.true))
    ] in
    let h : c.directories-test.i < length (live c.args.t.now) = rw (← e) (omega arith) in
    rw e (first_at c.requires stops h)

pub returns-else-i-nodes : goal.returns-else-i-nodes
returns-else-i-nodes c =
    let e = c.as_slice-nodes.ensures.value in
    let stops : Stops is_backup_file c.args.src.now c.args.t.now c.directories-test.i = elim c.directories-test.branch [
      | else-directories-test w ↦ rw w.i-is (none_left c.directories.invariant (rw (← e) (omega arith)))
      | then-directories-test+then-loop-i-test+else-not-same+then-is_backup w ↦ rw w.i-is (passes w.loop-i.invariant.seek (same_item _ e) (rw (← e) (omega arith)) (sym w.is_backup.ensures ∙ w.if-is_backup.true))
    ] in
    stops.past (rw (← e) (omega arith))
