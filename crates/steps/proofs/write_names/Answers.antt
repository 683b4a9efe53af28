-- `steps::write_names` meets its contract: a name a turn behind the field's head; there is room for all, or for none.
use native.Mathlib.Omega.{arith}
use Rattle.spans.specs.declared.TheConstants.{EMPTY}
use Rattle.field.proofs.Written.{length-written}
use Rattle.steps.proofs.Joined.{value_short, none_joined, none_written, first-room, first-name, next-room, next-name, all-joined}
use Rattle.steps.proofs.write_names.Goals as goal
use Rattle.steps.proofs.write_names.Goals.{then-k-gt0, else-k-gt0}

pub overflow_add-n : goal.overflow_add-n
overflow_add-n c = let s = value_short _ _ c.requires.0 in omega (arith, s, c.requires.1)

pub overflow_add-result : goal.overflow_add-result
overflow_add-result c = let s = value_short _ _ c.requires.0 in omega (arith, s, c.requires.1)

pub returns-then-out-n : goal.returns-then-out-n
returns-then-out-n c = none_written _ _ _ _ c.requires.0 c.length_of_names-n.ensures c.if-out-n.true

pub overflow_cast-n : goal.overflow_cast-n
overflow_cast-n c = let s = value_short _ _ c.requires.0 in omega (arith, s, c.requires.1)

pub loop-k-init : goal.loop-k-init
loop-k-init c = none_joined c.requires.0 (rw (c.put_field_head.ensures, length-written 0 _ c.args.out.now, ← c.length_of_names-n.ensures) c.if-out-n.false)

pub overflow_add-at : goal.overflow_add-at
overflow_add-at c = let r = next-room c.loop-k.invariant c.loop-k-test.true EMPTY c.if-k-gt0.true in omega arith

pub overflow_add-at-in-loop-k : goal.overflow_add-at-in-loop-k
overflow_add-at-in-loop-k c =
    let l = c.length_of-at.ensures.0 in
    elim c.if-k-gt0.branch [
      | then-k-gt0 w ↦ let r = next-room c.loop-k.invariant c.loop-k-test.true EMPTY w.if-k-gt0.true in omega (arith, r, l, w.at-is)
      | else-k-gt0 w ↦ let r = first-room c.loop-k.invariant c.loop-k-test.true EMPTY (omega (arith, w.if-k-gt0.false)) in omega (arith, r, l, w.at-is)
    ]

pub loop-k-preserved : goal.loop-k-preserved
loop-k-preserved c =
    elim c.if-k-gt0.branch [
      | then-k-gt0 w ↦
          rw w.at-is (next-name c.loop-k.invariant c.loop-k-test.true _ w.if-k-gt0.true w.put_u8.ensures (rw (w.at-is, w.out-is) at c.put_name.ensures) c.length_of-at.ensures.0)
      | else-k-gt0 w ↦
          rw w.at-is (first-name c.loop-k.invariant c.loop-k-test.true _ (omega (arith, w.if-k-gt0.false)) (rw (w.at-is, w.out-is) at c.put_name.ensures) c.length_of-at.ensures.0)
    ]

pub returns : goal.returns
returns c =
    let s = value_short _ _ c.requires.0 in
    all-joined c.loop-k.invariant _ c.length_of_names-n.ensures (omega (arith, s, c.requires.1)) c.put_field_head.ensures (omega arith)
