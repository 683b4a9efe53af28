-- `same_key` meets its contract: the pairs from behind are alike.
use mathlib.Core.Path.{◌∙◌}
use Rattle.std.proofs.Common.{rules, tests}
use Rattle.std.proofs.lemmas.Iterator.{YieldsList-from_zip}
use Rattle.std.proofs.lemmas.Iterator.Adapters.{YieldsList-from_rev_slice}
use Rattle.std.proofs.lemmas.Iterator.Search.{all_from_yields_List}
use Rattle.key_set.proofs.Alike.{alike, other_length, from-behind}
use Rattle.key_set.proofs.same_key.Goals as goal

pub returns-then-a-b : goal.returns-then-a-b
returns-then-a-b c =
    all_from_yields_List alike c.all.new.self _ _ c.all.ensures.ran
    (YieldsList-from_zip (YieldsList-from_rev_slice c.args.a.now cc) (YieldsList-from_rev_slice c.args.b.now cc)) (λ x b q k. search (rules, tests))
    ∙ from-behind c.args.a.now c.args.b.now c.if-a-b.true

pub returns-else-a-b : goal.returns-else-a-b
returns-else-a-b c = other_length c.args.a.now c.args.b.now c.if-a-b.false
