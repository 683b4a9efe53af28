use Rattle.std.specs.Prelude.{◌≡◌, ◌+◌, ◌-◌}
use Rattle.std.proofs.Common.{arith}
use Rattle.fixed_vec.proofs.Cells.{spliced-before, spliced_less, raised, length-raised, raised_none, raised_next, raised_all}
use Rattle.fixed_vec.proofs.move_up.Goals as goal

pub loop-i-init : goal.loop-i-init
loop-i-init g c = record {
  from = omega arith;
  moved = raised_none c.args.cells.now c.args.index c.args.len c.args.x (omega arith) (omega arith);
}

pub loop-i-preserved : goal.loop-i-preserved
loop-i-preserved g c =
    let old = c.args.cells.now in
    let new = raised old c.args.index c.args.len c.args.x in
    let n = c.loop-i.i - 1 in
    let i : c.loop-i.i ≡ n + 1 = omega arith in
    let long = length-raised old c.args.index c.args.len c.args.x (omega arith) (omega arith) in
    let before = spliced-before old new (c.loop-i.i + 1) n c.index-cells-i.result (omega arith) (omega arith) in
    let next = raised_next old c.args.index c.args.len c.args.x (omega arith) (omega arith) n c.index-cells-i.result (omega arith) (omega arith) in
    let put = spliced_less old new (n + 1) c.index-cells-i.result (omega arith) (omega (arith, long)) cc in
    record { from = omega arith; moved = cc }

pub returns : goal.returns
returns g c =
    let i : c.loop-i.i ≡ c.args.index = omega arith in
    let all = raised_all c.args.cells.now c.args.index c.args.len c.args.x (omega arith) (omega arith) in
    cc
