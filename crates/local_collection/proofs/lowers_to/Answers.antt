-- `lowers_to` meets its contract: as many bytes, and each lowered is the key's.
use mathlib.Core.Path.{◌≡◌, ap₂, ◌∙◌}
use mathlib.Core.List.{◌++◌}
use native.Mathlib.Omega.{arith}
use borrow.Author.Tests.{tests}
use lib.ListN.{length-append}
use Rattle.std.proofs.Common.{rules}
use Rattle.std.proofs.lemmas.Iterator.{YieldsList-from_zip, cases_from_all}
use Rattle.std.proofs.lemmas.Iterator.Consumers.{YieldsList-at}
use Rattle.basics.specs.Base.{Bytes, same_bytes}
use Rattle.basics.specs.Name.{lower_byte, lower}
use Rattle.paths.proofs.Lower.{lowered}
use Rattle.spans.proofs.Chains.{chained}
use Rattle.local_collection.proofs.Lowered.{other_length, zipped}
use Rattle.local_collection.proofs.lowers_to.Goals as goal

pub returns-then-length_of : goal.returns-then-length_of
returns-then-length_of c = other_length c.requires.0 c.requires.1 c.length_of.ensures.0 c.length_of-2.ensures.0 c.if-length_of.true

pub returns : goal.returns
returns c =
    let a : Bytes = c.slices.result.0.now ++ c.slices.result.1.now in
    let b : Bytes = c.slices-2.result.0.now ++ c.slices-2.result.1.now in
    let x = chained c.slices.result.0.now c.slices.result.1.now c.chain.ensures.first c.iter.ensures.rest c.chain.ensures.second.0 c.chain.ensures.first_done c.chain.ensures.second_done in
    let y = chained c.slices-2.result.0.now c.slices-2.result.1.now c.chain-2.ensures.first c.iter-2.ensures.rest c.chain-2.ensures.second.0 c.chain-2.ensures.first_done c.chain-2.ensures.second_done in
    zipped a b (omega (arith, length-append c.slices.result.0.now c.slices.result.1.now, length-append c.slices-2.result.0.now c.slices-2.result.1.now)) c.all.result
    (cases_from_all _ _ _ (λ p. lower_byte p.0 ≡ p.1) (λ p. lower_byte p.0 ≡ p.1 → ⊥) c.all.ensures.ran (YieldsList-from_zip (YieldsList-at c.zip-pairs.ensures.first x) (YieldsList-at c.zip-pairs.ensures.second y)) (λ p q k. search (rules, tests, lowered)) (λ p q k. search (rules, tests, lowered)))
    ∙ ap₂ (λ (m n : Bytes). same_bytes (lower m) n) c.slices.ensures.whole c.slices-2.ensures.whole
