-- `staged` copies the file name of each node.
use mathlib.Core.Path.{◌≡◌}
use mathlib.Core.List.{map}
use lib.ListN.{take}
use Rattle.store.specs.declared.Node.{Node}
use Rattle.store.proofs.Table.staged.Given as goal

abbrev pub invariant-loop-x : goal.invariant-loop-x
invariant-loop-x l = l.names.items ≡ map (λ (x : Node). x.file) (take l.x-index l.x-items)
