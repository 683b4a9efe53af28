use Rattle.std.specs.Prelude.{◌+◌, length, take}
use Rattle.std.proofs.Common.{arith, ap, ◌∙◌}
use Rattle.fixed_vec.proofs.Cells.{extend-told}
use Rattle.fixed_vec.proofs.FixedVec.extend_from_slice.Goals as goal

pub returns-clause-items : goal.returns-clause-items
returns-clause-items g c =
    ap (take (c.self.inside.len + length c.args.xs.now)) c.write_at.ensures ∙ extend-told c.self.inside.cells c.self.inside.len (ap (λ v. v.items) c.self.view_is) (omega (arith, c.self.invariant.0, c.self.invariant.1)) c.args.xs.now
