-- `has_new_artifacts`: an operation is asked for its artifact, and each has its names in the bytes.
use mathlib.Core.Path.{sym, subst, ◌∙◌}
use Rattle.std.proofs.Common.{rules, tests}
use Rattle.std.proofs.lemmas.Iterator.{YieldsList-from_slice}
use Rattle.std.proofs.lemmas.Iterator.Adapters.{serves_from_places}
use Rattle.std.proofs.lemmas.Iterator.Search.{any_from_yields_List}
use Rattle.model.specs.Plan.{is_new_artifact}
use Rattle.store.specs.Tables.{map_of}
use Rattle.transaction.specs.Operations.{op_of, SoundOp}
use Rattle.recovery.proofs.Entries.{op-at, any-map}
use Rattle.recovery.proofs.has_new_artifacts.Goals as goal

pub any-requires-clause-callable : goal.any-requires-clause-callable
any-requires-clause-callable c =
    serves_from_places (YieldsList-from_slice c.args.ops.now cc) (λ x q k. search (rules, tests))
    (λ x k h e. let s = subst (SoundOp c.args.src.now) (sym e) (op-at c.args.src.now c.args.ops.now k x.now h c.requires.1) in search (rules, c.requires.0, s))

pub returns : goal.returns
returns c =
    any_from_yields_List (λ o. is_new_artifact (map_of c.args.src.now c.args.t.now) (op_of c.args.src.now o)) _ _ _ c.any.ensures.ran (YieldsList-from_slice c.args.ops.now cc) (λ x b q k. search (rules, tests))
    ∙ any-map (is_new_artifact (map_of c.args.src.now c.args.t.now)) (op_of c.args.src.now) c.args.ops.now
