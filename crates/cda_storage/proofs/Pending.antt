-- The pending work, by what `has_pending_work` answered.
use Rattle.std.specs.Prelude.{if◌then◌else◌}
use mathlib.Core.Path.{◌≡◌, refl, ◌∙◌}
use mathlib.Core.Bool.{Bool, true}
use Prim.Native.Nat.{ℕ}
use Rattle.basics.specs.Base.{Bytes}
use Rattle.model.specs.Store.{has_pending_work}
use Rattle.answers.specs.Answers.{pending}
use Rattle.refusals.specs.Numbers.{number_of}
use Rattle.refusals.specs.declared.Refusal.{Refusal}
use Rattle.store.specs.Stores.{store_of}
use Rattle.decode.specs.declared.Decoded.{Decoded}
use Rattle.handover.specs.Contract.{PendingGives}
use Rattle.handover.specs.Opening.{Opened, Shut}

pub pending-refused : {image : Bytes} {e : Refusal} → Shut image true e → (p : ℕ) → PendingGives (pending image) (number_of e) p p
unfolding pending
pending-refused w p = let b = w.broken refl in record { number = b.1 ∙ rw b.0; answer = rw b.0 }

pub pending-gives : {image : Bytes} {o : Decoded} → Opened image true o → {yes : Bool} → yes ≡ has_pending_work (store_of image o.store) → (p : ℕ)
    → PendingGives (pending image) 0 p (if yes then 1 else 0)
unfolding pending
pending-gives w e p = record { number = rw w.held.accepted; answer = rw (w.held.accepted, e) }
