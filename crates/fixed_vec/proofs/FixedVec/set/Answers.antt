use Rattle.std.proofs.Common.{arith, ap}
use Rattle.fixed_vec.proofs.Cells.{set-told}
use Rattle.fixed_vec.proofs.FixedVec.set.Goals as goal

pub returns-clause-items : goal.returns-clause-items
returns-clause-items g c =
    set-told c.self.inside.cells c.self.inside.len (ap (λ v. v.items) c.self.view_is) (omega (arith, c.self.invariant.0, c.self.invariant.1)) c.args.index c.args.x c.requires
