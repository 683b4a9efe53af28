-- `delete` meets its contract.
use mathlib.Core.Path.{refl}
use mathlib.Core.Bool.{◌&&◌}
use Rattle.basics.specs.Name.{valid_name, lower}
use Rattle.model.specs.Record.{record_delete}
use Rattle.local_storage.proofs.Outcomes.{admitted, holds, not-admitted, fails, failed-back, accepted, both}
use Rattle.local_storage.proofs.Givens.{no-key}
use Rattle.local_storage.proofs.Renamed.{key-stands, still, deleted}
use Rattle.local_storage.proofs.LocalStorage.delete.Goals as goal
use Rattle.local_storage.proofs.LocalStorage.delete.Goals.{in_default-2-via-in-Some+in_default, in_default-2-via-in_default}

pub returns-in-Err : goal.returns-in-Err
unfolding record_delete
returns-in-Err c = λ n m w. not-admitted c.requires.0.0.sound c.refuse.ensures _ _ c.admit.ensures c.in-Err.is

pub returns-in_default-2 : goal.returns-in_default-2
unfolding record_delete
returns-in_default-2 c = λ n m w.
    admitted _ _ c.admit.ensures c.in_default.is (fails c.requires.0.0.sound c.refuse-in_default-2.ensures {t = valid_name n && valid_name (lower m)} _ (
    elim c.in_default-2.branch [
      | in_default-2-via-in-Some+in_default z ↦ no-key c.args.src.now n m c.args.collection (rw z.in_default-2.is-1 at w)
      | in_default-2-via-in_default z ↦ rw z.in_default-2.is-0 at w
    ]))

pub returns-then-not-exists : goal.returns-then-not-exists
unfolding record_delete
returns-then-not-exists c = λ n m w.
    let g = rw (c.in-Some-Some.is-0, c.in-Some-Some.is-1) at w in
    let x = g.0 in
    let y = g.1 in
    let e = c.ensure_normalized_on_disk.ensures in
    rw (← x.1.same, ← y.1.same)
    (admitted _ _ c.admit.ensures c.in_default.is (holds 6 _ (both (rw (← x.1.same) at x.0) (rw (← y.1.same) at y.0))
    (failed-back e.fits.sound (still e c.exists.ensures c.if-not-exists.true refl) c.refuse-then-not-exists.ensures _ (key-stands e c.exists.ensures c.if-not-exists.true))))

pub returns : goal.returns
unfolding record_delete
returns c = λ n m w.
    let g = rw (c.in-Some-Some.is-0, c.in-Some-Some.is-1) at w in
    let x = g.0 in
    let y = g.1 in
    let e = c.ensure_normalized_on_disk.ensures in
    rw (← x.1.same, ← y.1.same)
    (admitted _ _ c.admit.ensures c.in_default.is (holds 6 _ (both (rw (← x.1.same) at x.0) (rw (← y.1.same) at y.0))
    (holds 8 _ (key-stands e c.exists.ensures c.if-not-exists.false) (accepted e.fits.sound c.accept.ensures (x.1.sound, y.1.sound) (deleted e)))))
