-- `can_stage` meets its contract.
use mathlib.Core.Path.{◌∙◌, sym}
use borrow.Author.Tests.{le-ltb}
use native.Mathlib.Omega.{arith}
use Rattle.store.proofs.Live.{length-table}
use Rattle.local_storage.proofs.Stagings.{bare-place, stands_already, too_many, by-number}
use Rattle.local_storage.proofs.collection.can_stage.Goals as goal

pub returns-then-exists : goal.returns-then-exists
returns-then-exists c = stands_already _ _ _ (sym (bare-place _ _ _ c.exists.ensures) ∙ c.if-exists.true)

pub returns-then-len-lt-STAGING_LIMIT : goal.returns-then-len-lt-STAGING_LIMIT
returns-then-len-lt-STAGING_LIMIT c = by-number _ _ _ (sym (bare-place _ _ _ c.exists.ensures) ∙ c.if-exists.false) (omega (arith, length-table c.args.src.now c.args.staging.now)) (omega (arith, c.ranges.number))

pub returns-else-len-lt-STAGING_LIMIT : goal.returns-else-len-lt-STAGING_LIMIT
returns-else-len-lt-STAGING_LIMIT c =
    le-ltb _ 32 c.if-len-lt-STAGING_LIMIT.false
    ∙ too_many _ _ _ (sym (bare-place _ _ _ c.exists.ensures) ∙ c.if-exists.false) (omega (arith, length-table c.args.src.now c.args.staging.now))
