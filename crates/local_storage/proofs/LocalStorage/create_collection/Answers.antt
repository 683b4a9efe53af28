-- `create_collection` meets its contract.
use mathlib.Core.Path.{refl, sym, ap, ◌∙◌}
use mathlib.Core.Bool.{not}
use Rattle.model.specs.Record.{record_create}
use Rattle.local_storage.proofs.Outcomes.{admitted, holds, not-admitted, fails, accepted}
use Rattle.local_storage.proofs.LocalStorage.create_collection.Goals as goal

pub returns-in-Err : goal.returns-in-Err
unfolding record_create
returns-in-Err c = λ n w. not-admitted c.requires.0.sound c.refuse.ensures _ _ c.admit.ensures c.in-Err.is

pub returns-in_default-name : goal.returns-in_default-name
unfolding record_create
returns-in_default-name c = λ n w. admitted _ _ c.admit.ensures c.in_default.is (fails c.requires.0.sound c.refuse-in_default-name.ensures _ (rw c.in_default-name.is at w))

pub returns-then-dir_exists : goal.returns-then-dir_exists
unfolding record_create
returns-then-dir_exists c = λ n w.
    let v = rw c.in-Some.is at w in
    rw (← v.1.same) (admitted _ _ c.admit.ensures c.in_default.is (holds 6 _ (rw (← v.1.same) at v.0) (fails c.requires.0.sound c.refuse-then-dir_exists.ensures _ (ap not (sym c.dir_exists.ensures ∙ c.if-dir_exists.true)))))

pub returns : goal.returns
unfolding record_create
returns c = λ n w.
    let v = rw c.in-Some.is at w in
    rw (← v.1.same) (admitted _ _ c.admit.ensures c.in_default.is (holds 6 _ (rw (← v.1.same) at v.0) (holds 9 _ (ap not (sym c.dir_exists.ensures ∙ c.if-dir_exists.false)) (accepted c.requires.0.sound c.accept.ensures v.1.sound refl))))
