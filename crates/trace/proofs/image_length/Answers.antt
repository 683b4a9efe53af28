use Rattle.trace.proofs.Lengths.{walked-other, walked-broken, walked_on, walked_end}
use Rattle.trace.proofs.image_length.Goals as goal

pub returns-then-s-at-gt20 : goal.returns-then-s-at-gt20
returns-then-s-at-gt20 c = walked-other c.loop-at.invariant c.loop-at-test.true c.if-s-at-gt20.true

pub returns-in_default : goal.returns-in_default
returns-in_default c = walked-broken c.loop-at.invariant c.loop-at-test.true c.if-s-at-gt20.false _ c.in_default.ensures

pub loop-at-preserved : goal.loop-at-preserved
loop-at-preserved c = walked_on c.loop-at.invariant c.loop-at-test.true c.if-s-at-gt20.false c.in-Ok.ensures

pub returns : goal.returns
returns c = walked_end c.loop-at.invariant c.loop-at-test.false
