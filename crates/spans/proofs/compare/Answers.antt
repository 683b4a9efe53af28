use native.Mathlib.Omega.{arith}
use mathlib.Core.Path.{refl, ◌∙◌}
use Rattle.spans.proofs.Walk.{begun, number-decides, number_same}
use Rattle.spans.proofs.compare.Goals as goal

pub loop-i-init : goal.loop-i-init
loop-i-init c = (begun c.requires.0 c.requires.1 (omega arith) (omega arith) refl, omega arith)

pub returns-then-x-y : goal.returns-then-x-y
returns-then-x-y c = number-decides 8 c.loop-i.invariant.0 (λ i. omega (arith, c.type_inv.src i)) c.from-p.ensures c.from-q.ensures (omega arith) (omega arith) c.eight_at-x.ensures c.eight_at-y.ensures c.if-x-y.true _ c.cmp.ensures

pub loop-i-preserved : goal.loop-i-preserved
loop-i-preserved c = (number_same 8 c.loop-i.invariant.0 (λ i. omega (arith, c.type_inv.src i)) c.from-p.ensures c.from-q.ensures (omega arith) (omega arith) c.eight_at-x.ensures c.eight_at-y.ensures refl c.if-x-y.false, omega arith)

pub compare_spans-requires : goal.compare_spans-requires
compare_spans-requires c = ((c.loop-i.invariant.0.left-sound, c.loop-i.invariant.0.right-sound), (omega arith, omega arith))

pub returns : goal.returns
returns c = c.compare_spans.ensures ∙ c.loop-i.invariant.0.same
