-- `paths::normalize_key` meets its contract: with room the lowered key is written, else nothing is.
use mathlib.Core.Path.{sym, ◌∙◌}
use native.Mathlib.Omega.{arith}
use Rattle.field.proofs.Written.{pasting, pasted, all-pasted, written-full}
use Rattle.paths.proofs.Lower.{lowered, lower-at, length-lower}
use Rattle.paths.proofs.normalize_key.Goals as goal
use Rattle.paths.proofs.normalize_key.Goals.{else-at-out-via-then-at-out+else-key-out, else-at-out-via-else-at-out}

pub loop-i-init : goal.loop-i-init
loop-i-init c = pasting _ _ _ (omega (arith, length-lower c.args.key.now))

pub loop-i-preserved : goal.loop-i-preserved
loop-i-preserved c = pasted c.loop-i.invariant _ (c.to_ascii_lowercase.ensures.value ∙ lowered _ ∙ lower-at _ _) (omega (arith, length-lower c.args.key.now))

pub returns-after-loop-i : goal.returns-after-loop-i
returns-after-loop-i c = all-pasted c.loop-i.invariant (omega (arith, length-lower c.args.key.now))

pub returns-else-at-out : goal.returns-else-at-out
returns-else-at-out c = sym (written-full _ _ _ (elim c.else-at-out.branch [ else-at-out-via-then-at-out+else-key-out w ↦ omega (arith, length-lower c.args.key.now) | else-at-out-via-else-at-out w ↦ omega (arith, length-lower c.args.key.now) ]))
