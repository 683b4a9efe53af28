-- What is given by the iterators of two slices, one behind the other.
use mathlib.Core.Path.{◌≡◌}
use mathlib.Core.Bool.{false}
use mathlib.Core.List.{List, ◌++◌}
use Rattle.std.proofs.Common.{Iter}
use Rattle.std.specs.declared.iter.Chain.{Chain}
use Rattle.std.specs.Iterator.Adapters.{chain_first, chain_second, chain_first_done, chain_second_done, chain_steps}
use Rattle.std.specs.Slice.Iter.{iter_rest}
use Rattle.std.proofs.iter.Yields.{fronts}
use Rattle.std.proofs.lemmas.Iterator.{YieldsList, YieldsList-from_slice}
use Rattle.std.proofs.lemmas.Iterator.Consumers.{YieldsList-at, YieldsList-from_chain}

pub chained : {A : Type 0} {i : Iter A} {s : Chain (Iter A) (Iter A)} (a b : List A) → chain_first s ≡ i → iter_rest i ≡ a → iter_rest (chain_second s) ≡ b → chain_first_done s ≡ false → chain_second_done s ≡ false
    → YieldsList (chain_steps fronts fronts) (λ y. y.now) s (a ++ b)
chained a b f p q d e = YieldsList-from_chain (YieldsList-at f (YieldsList-from_slice a p)) (YieldsList-from_slice b q) d e
