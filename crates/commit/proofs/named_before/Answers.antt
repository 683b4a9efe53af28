-- `named_before`: each operation has its names in the bytes.
use mathlib.Core.Path.{sym, subst, ◌∙◌}
use mathlib.Core.List.{[], reverse}
use Rattle.std.proofs.Common.{rules, tests}
use Rattle.std.proofs.lemmas.Iterator.Adapters.{serves_from_places, YieldsList-from_rev_slice}
use Rattle.std.proofs.lemmas.Iterator.Search.{any_from_yields_List}
use Rattle.basics.specs.Base.{same_bytes}
use Rattle.model.specs.Plan.{collection_of}
use Rattle.spans.specs.Spans.{name_of}
use Rattle.store.proofs.Lists.{all_get_d}
use Rattle.transaction.specs.Operations.{op_of, SoundOp}
use Rattle.commit.proofs.Namings.{any-named, all-reverse}
use Rattle.commit.proofs.named_before.Goals as goal

pub any-requires-clause-callable : goal.any-requires-clause-callable
any-requires-clause-callable c =
    serves_from_places (YieldsList-from_rev_slice c.args.ops.now cc) (λ x q k. search (rules, tests))
    (λ x k h e.
    let s = subst (SoundOp c.args.src.now) (sym e) (all_get_d (SoundOp c.args.src.now) (reverse c.args.ops.now) k x.now (all-reverse (SoundOp c.args.src.now) c.args.ops.now [] c.requires.0 tt) h) in
    search (rules, c.requires.1, s))

pub returns : goal.returns
returns c =
    any_from_yields_List (λ o. same_bytes (name_of c.args.src.now c.args.dir) (collection_of (op_of c.args.src.now o))) _ _ _ c.any.ensures.ran (YieldsList-from_rev_slice c.args.ops.now cc) (λ x b q k. search (rules, tests))
    ∙ any-named c.args.src.now (name_of c.args.src.now c.args.dir) c.args.ops.now
