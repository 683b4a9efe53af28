-- `decode::read_nodes` meets its contract: the loop of `Progress`.
use Rattle.std.proofs.Common.{lit<}
use Rattle.decode.proofs.Progress.{begin, room, goes_on, stops, breaks}
use Rattle.decode.proofs.read_nodes.Goals as goal

pub loop-x-init : goal.loop-x-init
loop-x-init c = begin c.requires.1 c.default.ensures c.requires.0.1

pub returns-in_err-last : goal.returns-in_err-last
returns-in_err-last c = rw c.from_residual.ensures (breaks c.loop-x.invariant c.in_err-last.ensures)

pub push-requires : goal.push-requires
push-requires c = (lit< tt, room c.loop-x.invariant)

pub loop-x-preserved : goal.loop-x-preserved
loop-x-preserved c = goes_on c.loop-x.invariant c.in_ok-last.ensures c.push.ensures.items

pub returns : goal.returns
returns c = stops c.loop-x.invariant c.in_default.ensures
