use native.Mathlib.Omega.{arith}
use Rattle.store.proofs.Live.{same_item}
use Rattle.store.proofs.Search.{start, up, down, hit, none_left}
use Rattle.store.proofs.Table.find.Goals as goal

pub loop-lo-init : goal.loop-lo-init
loop-lo-init c = rw c.as_slice-nodes.ensures.value (start c.requires.0 c.requires.1.0 c.requires.1.1)

pub loop-lo-preserved-in-Less : goal.loop-lo-preserved-in-Less
loop-lo-preserved-in-Less c = down c.loop-lo.invariant (same_item _ c.as_slice-nodes.ensures.value) (omega arith) (omega arith) c.in-Less.ensures

pub returns-in-Equal : goal.returns-in-Equal
returns-in-Equal c = hit c.loop-lo.invariant (same_item _ c.as_slice-nodes.ensures.value) (omega arith) (omega arith) c.in-Equal.ensures

pub loop-lo-preserved : goal.loop-lo-preserved
loop-lo-preserved c = up c.loop-lo.invariant (same_item _ c.as_slice-nodes.ensures.value) (omega arith) (omega arith) c.in-Greater.ensures

pub returns : goal.returns
returns c = none_left c.loop-lo.invariant (omega arith)
