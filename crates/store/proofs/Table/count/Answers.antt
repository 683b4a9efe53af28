use mathlib.Core.Path.{◌≡◌, ap}
use Prim.Native.Nat.{◌-◌}
use Rattle.std.proofs.Common.{rules}
use Rattle.std.specs.Prelude.{count_by}
use Rattle.store.specs.Tables.{live}
use Rattle.store.proofs.Tally.{own, told}
use Rattle.store.proofs.Table.count.Goals as goal

pub returns : goal.returns
returns c =
    let e : c.count-dirs.result ≡ count_by own (live c.args.self.now) = search rules in
    λ src s. told s e (ap (λ n. n - c.count-dirs.result) c.len.ensures.value)
