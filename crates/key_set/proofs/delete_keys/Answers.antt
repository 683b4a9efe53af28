-- `delete_keys` meets its contract: 1, 2, 4 and the early 6.
use native.Mathlib.Omega.{arith}
use Rattle.std.specs.Prelude.{Err}
use mathlib.Core.Path.{◌≡◌, refl, sym, ◌∙◌}
use borrow.Author.Rules.{rules}
use borrow.Author.Tests.{leb-true}
use Rattle.handover.proofs.Outputs.{left_alone}
use Rattle.key_set.proofs.Whole.{ready, set-opened, set-refused, readable, no-log, none-found, no-set, answered}
use Rattle.key_set.proofs.delete_keys.Goals as goal

pub returns-in_err-opened : goal.returns-in_err-opened
returns-in_err-opened c =
    let w = c.in_err-opened.ensures in
    let e : c.from_residual.result ≡ Err c.in_err-opened.field-0.0 = search rules in
    rw e (λ written. left_alone w.alone (set-refused _ _ _ _ w))

pub open_transaction-found-requires : goal.open_transaction-found-requires
open_transaction-found-requires c = readable c.in_ok-opened.ensures

pub returns-in_default : goal.returns-in_default
returns-in_default c written =
    left_alone refl (none-found _ _ _ _ c.in_ok-opened.ensures c.open_transaction-found.ensures c.in_default.is-1)

pub returns-in_default-2 : goal.returns-in_default-2
returns-in_default-2 c written =
    left_alone refl (no-log _ _ _ _ c.in_ok-opened.ensures c.in_default.is-0)

pub returns-in_default-count_keys : goal.returns-in_default-count_keys
returns-in_default-count_keys c written =
    left_alone refl (no-set _ _ _ _ c.in_ok-opened.ensures c.open_transaction-found.ensures c.in-Some-Some.is-1 c.count_keys.ensures (rw c.in_default-count_keys.is (λ h m. absurd (grind arith))))

pub returns-in_default-count_keys-2 : goal.returns-in_default-count_keys-2
returns-in_default-count_keys-2 c written =
    left_alone refl (no-set _ _ _ _ c.in_ok-opened.ensures c.open_transaction-found.ensures c.in-Some-Some.is-1 c.count_keys.ensures (rw c.in_default-count_keys.is (λ h m. absurd (grind arith))))

pub returns-in_default-count_keys-3 : goal.returns-in_default-count_keys-3
returns-in_default-count_keys-3 c written =
    left_alone refl (no-set _ _ _ _ c.in_ok-opened.ensures c.open_transaction-found.ensures c.in-Some-Some.is-1 c.count_keys.ensures (rw c.in_default-count_keys.is tt))

pub delete_in-requires : goal.delete_in-requires
delete_in-requires c =
    let o = c.in_ok-opened.ensures in
    rw c.len-n.ensures.value (ready o.held c.in-Some-Some.is-0 (rw c.in-Some-Some.is-1 at c.open_transaction-found.ensures) (sym c.count_keys.ensures ∙ c.in-Some-1-to-32.is) (omega arith) (omega arith) (search rules) (leb-true _ _ o.roomy))

pub returns : goal.returns
returns c written =
    answered (set-opened _ _ _ _ c.in_ok-opened.ensures) (c.delete_in.ensures written)
