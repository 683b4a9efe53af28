-- `paths::are_all` meets its contract: each byte is tested.
use mathlib.Core.Path.{◌∙◌}
use mathlib.Core.Bool.{true, ◌&&◌}
use Rattle.std.proofs.Common.{rules, tests}
use Rattle.std.proofs.lemmas.Iterator.{YieldsList-from_slice}
use Rattle.std.proofs.lemmas.Iterator.Consumers.{fold_from_yields_List}
use Rattle.basics.specs.Name.{is_name_byte}
use Rattle.paths.proofs.Same.{all_folded}
use Rattle.paths.proofs.are_all.Goals as goal

pub returns : goal.returns
returns c = fold_from_yields_List _ (λ right b. right && is_name_byte b) true c.fold.result c.fold.ensures.ran (YieldsList-from_slice c.args.s.now cc) (λ a x b q k. search (rules, tests)) ∙ all_folded is_name_byte _
