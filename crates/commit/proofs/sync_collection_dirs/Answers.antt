use native.Mathlib.Omega.{arith}
use mathlib.Core.Path.{sym, ◌∙◌}
use Rattle.plans.proofs.MachineLaws.{stays}
use Rattle.recovery.proofs.Follow.{lawful}
use Rattle.commit.proofs.Namings.{next-op, syncing-skip, syncing-next, syncing-end}
use Rattle.commit.proofs.sync_collection_dirs.Goals as goal
use Rattle.commit.proofs.sync_collection_dirs.Goals.{then-not-named_before, else-not-named_before}

pub returns-then-run : goal.returns-then-run
returns-then-run c = record { sound = c.requires.0; does = stays lawful c.if-run.true }

pub loop-i-preserved : goal.loop-i-preserved
loop-i-preserved c =
    let at = c.collection_of-dir.ensures _ (next-op c.loop-i.invariant _ (omega arith)) in
    elim c.if-not-named_before.branch [
      | then-not-named_before w ↦ syncing-next c.loop-i.invariant _ (omega arith) at _ w.run-is (sym c.named_before.ensures ∙ w.if-not-named_before.true) w.sync_existing.ensures
      | else-not-named_before w ↦ syncing-skip c.loop-i.invariant _ (omega arith) at w.run-is (sym c.named_before.ensures ∙ w.if-not-named_before.false)
    ]

pub returns : goal.returns
returns c = syncing-end c.loop-i.invariant (omega arith)
