-- `compare_from` meets its contract: the library's order of what is left of both.
use mathlib.Core.Path.{◌≡◌, refl, ap, ap₂, ◌∙◌}
use mathlib.Core.List.{◌++◌}
use Prim.Native.Nat.{◌-◌}
use native.Mathlib.Omega.{arith}
use lib.ListN.{length, take, drop}
use Rattle.std.specs.Ordering.{nat_cmp}
use Rattle.std.proofs.lemmas.Iterator.Consumers.{YieldsList-at}
use Rattle.std.proofs.lemmas.Iterator.Search.{cmp_from_yields_List}
use Rattle.basics.specs.Base.{Bytes}
use Rattle.basics.specs.Order.{cmp_name}
use Rattle.paths.specs.Compare.{order_of}
use Rattle.paths.proofs.Order.{slice-name}
use Rattle.spans.proofs.Chains.{chained}
use Rattle.spans.proofs.Parts.{left}
use Rattle.spans.proofs.Walk.{same_spans, only_spans}
use Rattle.spans.proofs.compare_from.Goals as goal
use Rattle.spans.proofs.compare_from.Goals.{then-a-b-via-then-a-b, then-a-b-via-else-a-b+then-b-eq0}

pub returns : goal.returns
returns c =
    let a : Bytes = take (length c.slices.result.0.now - c.args.at) (drop c.args.at c.slices.result.0.now) in
    let b : Bytes = take (length c.slices-2.result.0.now - c.args.at) (drop c.args.at c.slices-2.result.0.now) in
    let x = chained a c.slices.result.1.now c.chain.ensures.first c.iter.ensures.rest c.chain.ensures.second.0 c.chain.ensures.first_done c.chain.ensures.second_done in
    let y = chained b c.slices-2.result.1.now c.chain-2.ensures.first c.iter-2.ensures.rest c.chain-2.ensures.second.0 c.chain-2.ensures.first_done c.chain-2.ensures.second_done in
    ap order_of (cmp_from_yields_List (λ o i. i ≡ o) c.chain-2.result nat_cmp c.cmp-2.result c.cmp-2.ensures.ran x (λ i e. YieldsList-at e y) (λ u v. refl)) ∙ slice-name (a ++ c.slices.result.1.now) (b ++ c.slices-2.result.1.now)
    ∙ ap₂ cmp_name (left c.requires.0.0 _ _ _ c.slices.ensures.whole c.slices.ensures.lengths.0 (omega arith)) (left c.requires.0.1 _ _ _ c.slices-2.ensures.whole c.slices-2.ensures.lengths.0 (omega arith))

pub returns-then-a-b : goal.returns-then-a-b
returns-then-a-b c =
    elim c.then-a-b.branch [
      | then-a-b-via-then-a-b w ↦ same_spans c.requires.0.0 c.requires.0.1 _ _ _ c.length_of.ensures.0 c.length_of-then-a-b.ensures.0 _ c.cmp.ensures (omega (arith, w.if-a-b.true)) (omega (arith, w.if-a-b.true))
      | then-a-b-via-else-a-b+then-b-eq0 w ↦ only_spans c.requires.0.0 c.requires.0.1 _ _ _ c.length_of.ensures.0 c.length_of-then-a-b.ensures.0 _ c.cmp.ensures c.requires.1 w.if-b-eq0.true.0 w.if-b-eq0.true.1
    ]
