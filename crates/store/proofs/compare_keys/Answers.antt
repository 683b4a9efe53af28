-- `compare_keys`: the first difference decides.
use Rattle.std.proofs.Common.{rules, of_calls}
use Rattle.store.proofs.Keys.{first_decides}
use Rattle.store.proofs.compare_keys.Goals as goal

pub returns : goal.returns
returns c = first_decides _ _ _ _ _ _ c.compare.ensures (λ p. search (rules, of_calls)) c.then_with.ensures
