-- `paths::are_name_bytes` meets its contract: the eights and the last eight are all bytes, some looked at twice.
use mathlib.Core.Path.{ap, ◌∙◌}
use Rattle.std.proofs.Common.{rules, tests}
use Rattle.std.proofs.lemmas.Iterator.{YieldsList-from_slice}
use Rattle.std.proofs.lemmas.Iterator.Search.{all_from_yields_List}
use Rattle.basics.specs.Base.{all_of}
use Rattle.basics.specs.Name.{is_name_byte}
use Rattle.paths.proofs.Eights.{last-decides, eights-decide}
use Rattle.paths.proofs.are_name_bytes.Goals as goal

pub returns-then-all : goal.returns-then-all
returns-then-all c =
    let a = all_from_yields_List (all_of is_name_byte) _ _ c.all.result c.all.ensures.ran (YieldsList-from_slice c.as_chunks.result.0.now cc) (λ x b q k. search (rules, tests)) in
    last-decides is_name_byte _ c.in-Some.ensures.cases.0 c.as_chunks.ensures.front a c.if-all.true (c.are_all-then-all.ensures ∙ ap (all_of is_name_byte) c.in-Some.ensures.cases.1.same)

pub returns-else-all : goal.returns-else-all
returns-else-all c =
    let a = all_from_yields_List (all_of is_name_byte) _ _ c.all.result c.all.ensures.ran (YieldsList-from_slice c.as_chunks.result.0.now cc) (λ x b q k. search (rules, tests)) in
    eights-decide is_name_byte _ c.in-Some.ensures.cases.0 c.as_chunks.ensures.front a c.if-all.false
