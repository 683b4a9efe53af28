-- `commit`: 4, or the steps of the commit; the mark goes where the run did not stop.
use mathlib.Core.Path.{subst}
use borrow.Author.Tests.{not-true, not-false}
use Rattle.store.specs.Stores.{store_of}
use Rattle.local_storage.specs.Recording.{Opens}
use Rattle.local_storage.proofs.Finished.{ops_open, mark-stays, mark-goes}
use Rattle.local_storage.proofs.LocalStorage.commit.Goals as goal
use Rattle.local_storage.proofs.LocalStorage.commit.Goals.{then-not-run, else-not-run}

pub apply_inner-run-requires : goal.apply_inner-run-requires
apply_inner-run-requires c =
    let w = subst (Opens c.args.src.now (store_of c.args.src.now c.args.self.store)) c.in-Some.is c.open_transaction.ensures in
    (record { sound = c.requires.0.sound; within = c.requires.1 }, (rw c.deref.ensures.0 w.held.sound, rw c.deref.ensures.0 (ops_open c.args.self.store w)))

pub returns : goal.returns
returns c =
    let w = subst (Opens c.args.src.now (store_of c.args.src.now c.args.self.store)) c.in-Some.is c.open_transaction.ensures in
    elim c.if-not-run.branch [
      | then-not-run z ↦ rw z.run-is (mark-goes w c.apply_inner-run.ensures (not-true _ z.if-not-run.true))
      | else-not-run z ↦ rw z.run-is (mark-stays w c.apply_inner-run.ensures (not-false _ z.if-not-run.false))
    ]
