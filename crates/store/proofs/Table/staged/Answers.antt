use native.Mathlib.Omega.{arith}
use mathlib.Core.Path.{ap, ◌∙◌}
use mathlib.Core.List.{map}
use Rattle.store.specs.declared.Node.{Node}
use Rattle.store.proofs.Lists.{take_whole}
use Rattle.store.proofs.Listing.{staged_end}
use Rattle.store.proofs.Table.staged.Goals as goal

pub returns : goal.returns
returns c = λ src s. staged_end s (c.loop-x.invariant ∙ ap (map (λ (x : Node). x.file)) (take_whole _ _ (omega arith) ∙ c.as_slice-x-items.ensures.value))
