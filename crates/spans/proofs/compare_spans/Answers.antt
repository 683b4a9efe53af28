use native.Mathlib.Omega.{arith}
use mathlib.Core.Path.{refl, ◌∙◌}
use Rattle.spans.proofs.Parts.{in_span}
use Rattle.spans.proofs.Walk.{begun, decided, next, number-decides, number_same}
use Rattle.spans.proofs.compare_spans.Goals as goal
use Rattle.spans.proofs.compare_spans.Goals.{then-i-m+else-x-y, else-i-m}

pub returns-then-x-y : goal.returns-then-x-y
returns-then-x-y c = number-decides 4 (begun c.requires.0.0 c.requires.0.1 (omega arith) (omega arith) refl) (λ i. omega (arith, c.type_inv.src i)) c.from-p.ensures c.from-q.ensures (omega arith) (omega arith) c.four_at-x.ensures c.four_at-y.ensures c.if-x-y.true _ c.cmp.ensures

pub loop-i-init : goal.loop-i-init
loop-i-init c =
    elim c.if-i-m.branch [
      | then-i-m+else-x-y w ↦ (
        number_same 4 (begun c.requires.0.0 c.requires.0.1 (omega arith) (omega arith) refl) (λ i. omega (arith, c.type_inv.src i))
            c.from-p.ensures c.from-q.ensures (omega (arith, w.if-i-m.true)) (omega (arith, w.if-i-m.true))
            w.four_at-x.ensures w.four_at-y.ensures w.i-is w.if-x-y.false,
        omega (arith, w.i-is, w.if-i-m.true),
      )
      | else-i-m w ↦ (begun c.requires.0.0 c.requires.0.1 (omega arith) (omega arith) w.i-is, omega (arith, w.i-is))
    ]

pub returns-then-x-y-2 : goal.returns-then-x-y-2
returns-then-x-y-2 c = decided c.loop-i.invariant.0 (omega arith) (omega arith) (in_span c.loop-i.invariant.0.left-sound _ _ c.from-p.ensures (omega arith)) (in_span c.loop-i.invariant.0.right-sound _ _ c.from-q.ensures (omega arith)) c.if-x-y-2.true _ c.cmp-then-x-y-2.ensures

pub loop-i-preserved : goal.loop-i-preserved
loop-i-preserved c = (next c.loop-i.invariant.0 (omega arith) (omega arith) (in_span c.loop-i.invariant.0.left-sound _ _ c.from-p.ensures (omega arith)) (in_span c.loop-i.invariant.0.right-sound _ _ c.from-q.ensures (omega arith)) c.if-x-y-2.false, omega arith)

pub compare_from-requires : goal.compare_from-requires
compare_from-requires c = ((c.loop-i.invariant.0.left-sound, c.loop-i.invariant.0.right-sound), omega arith)

pub returns : goal.returns
returns c = c.compare_from.ensures ∙ c.loop-i.invariant.0.same
