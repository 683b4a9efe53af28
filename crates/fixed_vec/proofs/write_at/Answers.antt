use Rattle.std.proofs.Common.{arith}
use Rattle.std.proofs.lemmas.List.Edits.{paste_none, paste_more}
use Rattle.fixed_vec.proofs.write_at.Goals as goal

pub loop-i-init : goal.loop-i-init
loop-i-init g c = paste_none c.args.cells.now c.args.at c.args.xs.now

pub loop-i-preserved : goal.loop-i-preserved
loop-i-preserved g c =
    let e = paste_more c.args.cells.now c.args.at c.args.xs.now c.loop-i.i c.index-xs-i.result (omega arith) (omega arith) in cc
