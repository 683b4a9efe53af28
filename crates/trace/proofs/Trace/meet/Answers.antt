-- `trace::Trace::meet`: in each way that a byte can go.
use mathlib.Core.Path.{ap, sym, ◌∙◌}
use native.Mathlib.Omega.{arith}
use Prim.Native.Nat.{◌<◌, ◌≤◌}
use lib.ListN.{length}
use Rattle.trace.proofs.Meeting.{byte_at, goes-apart, goes-behind}
use Rattle.trace.proofs.Trace.meet.Goals as goal

pub returns-in_default-get : goal.returns-in_default-get
returns-in_default-get c =
    let n : length c.deref.result.now ≤ c.in-Along.met = c.in_default-get.ensures.lookup.3 in
    rw c.in-Along.is (goes-apart _ _ _ _ _ (λ h. absurd (omega (arith, h, n, ap length c.deref.ensures.0))))

pub returns-then-due-x : goal.returns-then-due-x
returns-then-due-x c =
    let l = c.in-Some.ensures.lookup in
    rw c.in-Along.is (goes-apart _ _ _ _ _ (λ h e. c.if-due-x.true (sym (byte_at _ _ _ _ c.deref.ensures.0 l.1 l.3.0) ∙ e)))

pub returns-else-met-len : goal.returns-else-met-len
returns-else-met-len c =
    let l = c.in-Some.ensures.lookup in
    let i : c.in-Along.met < length c.deref.result.now = l.3.0 in
    let j : c.in-Along.met < length c.in-Along.field.items = omega (arith, i, ap length c.deref.ensures.0) in
    rw c.in-Along.is
    (goes-behind _ _ _ _ _ j (byte_at _ _ _ _ c.deref.ensures.0 l.1 i ∙ c.if-due-x.false) (omega (arith, c.len.ensures.value, c.if-met-len.false)) c.behind.ensures)
