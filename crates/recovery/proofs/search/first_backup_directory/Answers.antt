-- `first_backup_directory`: each node has its names in the bytes.
use mathlib.Core.Path.{◌≡◌, sym, subst, ◌∙◌}
use Rattle.std.proofs.Common.{rules, tests}
use Rattle.std.proofs.lemmas.Iterator.{YieldsList-from_slice}
use Rattle.std.proofs.lemmas.Iterator.Adapters.{serves_from_places}
use Rattle.std.proofs.lemmas.Iterator.Search.{find_from_yields_List}
use Rattle.model.specs.Store.{in_backup_directory}
use Rattle.store.specs.Tables.{node_of, live, SoundNode}
use Rattle.store.proofs.Lists.{all_get_d}
use Rattle.spans.specs.Spans.{Sound}
use Rattle.recovery.proofs.Seek.{found}
use Rattle.recovery.proofs.search.first_backup_directory.Goals as goal

pub find-requires-clause-callable : goal.find-requires-clause-callable
find-requires-clause-callable c =
    let r : c.iter.result.rest.now ≡ c.deref.result.now = cc in
    serves_from_places (YieldsList-from_slice (live c.args.t.now) (r ∙ c.deref.ensures.0)) (λ x q k. search (rules, tests))
    (λ x k h e y i.
    let s = subst (SoundNode c.args.src.now) (sym e) (all_get_d (SoundNode c.args.src.now) (live c.args.t.now) k x.now c.requires.each h) in
    let d = subst (λ z. Sound c.args.src.now z.now.dir) (sym i) s.dir in
    search (rules, d))

pub returns : goal.returns
returns c =
    let r : c.iter.result.rest.now ≡ c.deref.result.now = cc in
    found in_backup_directory c.requires (c.copied.ensures ∙ find_from_yields_List (λ x. in_backup_directory (node_of c.args.src.now x)) _ _ _ c.find.ensures.ran (YieldsList-from_slice (live c.args.t.now) (r ∙ c.deref.ensures.0)) (λ x b q k. search (rules, tests)))
