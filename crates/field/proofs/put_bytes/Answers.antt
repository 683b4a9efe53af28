-- `field::put_bytes` meets its contract: with room all bytes are written, else nothing is.
use mathlib.Core.Path.{refl, sym}
use native.Mathlib.Omega.{arith}
use Rattle.field.proofs.Written.{pasting, pasted, all-pasted, written-full}
use Rattle.field.proofs.put_bytes.Goals as goal
use Rattle.field.proofs.put_bytes.Goals.{else-at-out-via-then-at-out+else-s-out, else-at-out-via-else-at-out}

pub loop-i-init : goal.loop-i-init
loop-i-init c = pasting _ _ _ (omega arith)

pub loop-i-preserved : goal.loop-i-preserved
loop-i-preserved c = pasted c.loop-i.invariant _ refl (omega arith)

pub returns-after-loop-i : goal.returns-after-loop-i
returns-after-loop-i c = all-pasted c.loop-i.invariant (omega arith)

pub returns-else-at-out : goal.returns-else-at-out
returns-else-at-out c = sym (written-full _ _ _ (elim c.else-at-out.branch [ else-at-out-via-then-at-out+else-s-out w ↦ omega arith | else-at-out-via-else-at-out w ↦ omega arith ]))
