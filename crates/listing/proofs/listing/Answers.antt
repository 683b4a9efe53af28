-- `listing` meets its contract: a refused image, a refused log, or the tree that recovery leaves.
use Rattle.listing.proofs.Answered.{no-nodes, broken, turned_down, fitting, short, listed}
use Rattle.listing.proofs.listing.Goals as goal

pub put_text-requires : goal.put_text-requires
put_text-requires c = no-nodes _ c.new.ensures

pub returns-in_default : goal.returns-in_default
returns-in_default c = broken _ _ c.new.ensures _ c.put_text.ensures c.in_default.ensures c.from.ensures

pub recover-requires : goal.recover-requires
recover-requires c = (fitting c.in-Some.ensures, (c.in-Some.ensures.plain, short c.in-Some.ensures))

pub put_text-requires-in-Err : goal.put_text-requires-in-Err
put_text-requires-in-Err c = no-nodes _ c.new-in-Err.ensures

pub returns-in-Ok : goal.returns-in-Ok
returns-in-Ok c = listed c.in-Some.ensures c.in-Ok.ensures c.put_text-in-Ok.ensures

pub returns-in-Err : goal.returns-in-Err
returns-in-Err c = turned_down _ _ c.new-in-Err.ensures _ c.put_text-in-Err.ensures c.in-Some.ensures c.in-Err.ensures c.from-in-Err.ensures
