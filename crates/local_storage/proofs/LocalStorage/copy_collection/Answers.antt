-- `copy_collection` meets its contract.
use mathlib.Core.Path.{sym, ◌∙◌}
use Rattle.model.specs.Record.{record_copy}
use Rattle.local_storage.proofs.Outcomes.{admitted, holds, not-admitted, fails, accepted}
use Rattle.local_storage.proofs.LocalStorage.copy_collection.Goals as goal

pub returns-in-Err : goal.returns-in-Err
unfolding record_copy
returns-in-Err c = λ n m w u. not-admitted c.requires.0.sound c.refuse.ensures _ _ c.admit.ensures c.in-Err.is

pub returns-in_default-source : goal.returns-in_default-source
unfolding record_copy
returns-in_default-source c = λ n m w u. admitted _ _ c.admit.ensures c.in_default.is (fails c.requires.0.sound c.refuse-in_default-source.ensures _ (rw c.in_default-source.is at w))

pub returns-then-not-dir_exists : goal.returns-then-not-dir_exists
unfolding record_copy
returns-then-not-dir_exists c = λ n m w u.
    let v = rw c.in-Some.is at w in
    rw (← v.1.same) (admitted _ _ c.admit.ensures c.in_default.is (holds 6 _ (rw (← v.1.same) at v.0)
    (fails c.requires.0.sound c.refuse-then-not-dir_exists.ensures _ (sym c.dir_exists.ensures ∙ c.if-not-dir_exists.true))))

pub returns-in_default-dest : goal.returns-in_default-dest
unfolding record_copy
returns-in_default-dest c = λ n m w u.
    let v = rw c.in-Some.is at w in
    rw (← v.1.same) (admitted _ _ c.admit.ensures c.in_default.is (holds 6 _ (rw (← v.1.same) at v.0) (holds 7 _ (sym c.dir_exists.ensures ∙ c.if-not-dir_exists.false)
    (fails c.requires.0.sound c.refuse-in_default-dest.ensures _ (rw c.in_default-dest.is at u)))))

pub returns : goal.returns
unfolding record_copy
returns c = λ n m w u.
    let v = rw c.in-Some.is at w in
    let x = rw c.in-Some-dest.is at u in
    rw (← v.1.same, ← x.1.same) (admitted _ _ c.admit.ensures c.in_default.is (holds 6 _ (rw (← v.1.same) at v.0) (holds 7 _ (sym c.dir_exists.ensures ∙ c.if-not-dir_exists.false)
    (holds 6 _ (rw (← x.1.same) at x.0) (accepted c.requires.0.sound c.accept.ensures (v.1.sound, x.1.sound) (rw c.dir_exists-existed.ensures))))))
