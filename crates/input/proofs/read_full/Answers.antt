use Rattle.input.proofs.Filling.{none_read, more_read}
use Rattle.input.proofs.read_full.Goals as goal

pub loop-n-init : goal.loop-n-init
loop-n-init g c = none_read _ _

pub loop-n-preserved : goal.loop-n-preserved
loop-n-preserved g c = more_read c.loop-n.invariant c.read.new.buf c.in_ok-more.ensures.bound.0 c.read.auto.buf c.in_ok-more.ensures.bytes.0
