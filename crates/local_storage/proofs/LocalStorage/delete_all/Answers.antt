-- `delete_all` meets its contract.
use mathlib.Core.Path.{refl}
use Rattle.model.specs.Record.{record_delete_all}
use Rattle.local_storage.proofs.Outcomes.{admitted, holds, not-admitted, fails, accepted}
use Rattle.local_storage.proofs.LocalStorage.delete_all.Goals as goal

pub returns-in-Err : goal.returns-in-Err
unfolding record_delete_all
returns-in-Err c = λ g n w. not-admitted g c.refuse.ensures _ _ c.admit.ensures c.in-Err.is

pub returns-in_default-name : goal.returns-in_default-name
unfolding record_delete_all
returns-in_default-name c = λ g n w. admitted _ _ c.admit.ensures c.in_default.is (fails g c.refuse-in_default-name.ensures _ (rw c.in_default-name.is at w))

pub returns : goal.returns
unfolding record_delete_all
returns c = λ g n w.
    let v = rw c.in-Some.is at w in
    rw (← v.1.same) (admitted _ _ c.admit.ensures c.in_default.is (holds 6 _ (rw (← v.1.same) at v.0) (accepted g c.accept.ensures v.1.sound refl)))
