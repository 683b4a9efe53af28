use Rattle.std.specs.Prelude.{◌+◌, remove}
use Rattle.std.proofs.Common.{arith}
use Rattle.std.proofs.lemmas.List.Edits.{length-remove, get_or-remove_above}
use Rattle.fixed_vec.proofs.Cells.{spliced-behind, spliced_more, remove_none}
use Rattle.fixed_vec.proofs.move_down.Goals as goal

pub loop-i-init : goal.loop-i-init
loop-i-init g c = remove_none c.args.cells.now c.args.index (omega arith)

pub loop-i-preserved : goal.loop-i-preserved
loop-i-preserved g c =
    let old = c.args.cells.now in
    let done = remove old c.args.index in
    let n = length-remove old c.args.index (omega arith) in
    let stands = spliced-behind done old c.loop-i.i (c.loop-i.i + 1) c.index-cells-i.result (omega (arith, n)) (omega arith) in
    let above = get_or-remove_above old c.args.index c.index-cells-i.result c.loop-i.i (omega arith) (omega arith) in
    let put = spliced_more done old c.loop-i.i c.index-cells-i.result (omega (arith, n)) (omega arith) cc in
    cc
