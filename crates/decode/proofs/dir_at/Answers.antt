-- `decode::dir_at` meets its contract: each test that fails is one that a node with this field would pass.
use mathlib.Core.Path.{sym, ◌∙◌}
use mathlib.Core.Bool.{false≢true}
use native.Mathlib.Omega.{arith}
use Rattle.spans.proofs.Parts.{empty-name}
use Rattle.decode.proofs.Steps.{name-fits, dir-broken, dir-ordered, dir-followed}
use Rattle.decode.proofs.dir_at.Goals as goal

pub returns-then-not-sanitize_path_segment : goal.returns-then-not-sanitize_path_segment
returns-then-not-sanitize_path_segment c = dir-broken c.requires (λ t. false≢true (sym (c.if-not-sanitize_path_segment.true) ∙ c.sanitize_path_segment.ensures ∙ t.valid))

pub span-name-requires : goal.span-name-requires
span-name-requires c = name-fits _ _ _ c.requires.short c.requires.stands.ordered c.requires.stands.within (sym c.sanitize_path_segment.ensures ∙ c.if-not-sanitize_path_segment.false)

pub returns-then-not-is_below : goal.returns-then-not-is_below
returns-then-not-is_below c = dir-broken c.requires (λ t. false≢true (sym (c.if-not-is_below.true) ∙ (dir-ordered c.requires c.span-name.ensures c.is_below.ensures).1 t.above))

pub returns : goal.returns
returns c =
    dir-followed c.requires
    record {
      room = omega arith;
      valid = sym c.sanitize_path_segment.ensures ∙ c.if-not-sanitize_path_segment.false;
      above = (dir-ordered c.requires c.span-name.ensures c.is_below.ensures).0 (c.if-not-is_below.false);
    }
    c.span-name.ensures (empty-name _)
