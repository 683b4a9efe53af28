-- `is_dir`: a directory's own has the empty file name.
use mathlib.Core.Path.{ap, ◌∙◌}
use Rattle.std.specs.Prelude.{nat_eq}
use Rattle.store.proofs.Nodes.{dir-told}
use Rattle.store.proofs.Node.is_dir.Goals as goal

pub returns-clause-by_key : goal.returns-clause-by_key
returns-clause-by_key c = λ src s. ap (λ n. nat_eq n 0) c.length_of.ensures.0 ∙ dir-told c.args.self.now s.file
