-- `decode::file_at` meets its contract: each test that fails is one that a node with this field would pass.
use mathlib.Core.Path.{sym, ◌∙◌}
use mathlib.Core.Bool.{false≢true}
use native.Mathlib.Omega.{arith}
use Rattle.decode.proofs.Steps.{name-fits, file-broken, file-ordered, file-followed}
use Rattle.decode.proofs.file_at.Goals as goal
use Rattle.decode.proofs.file_at.Goals.{then-file_limit-last-via-then-file_limit-last, then-file_limit-last-via-else-file_limit-last+then-x-lt4, then-number-eq0-via-then-number-eq0, then-number-eq0-via-else-number-eq0+then-not-sanitize_path_segment}

pub returns-then-file_limit-last : goal.returns-then-file_limit-last
returns-then-file_limit-last c =
    elim c.then-file_limit-last.branch [
      | then-file_limit-last-via-then-file_limit-last w ↦ file-broken c.requires.0 c.requires.1 (λ t. let r = t.room in omega arith)
      | then-file_limit-last-via-else-file_limit-last+then-x-lt4 w ↦ file-broken c.requires.0 c.requires.1 (λ t. let r = t.long in omega arith)
    ]

pub returns-then-number-eq0 : goal.returns-then-number-eq0
returns-then-number-eq0 c =
    elim c.then-number-eq0.branch [
      | then-number-eq0-via-then-number-eq0 w ↦ file-broken c.requires.0 c.requires.1 (λ t. let r = t.number in omega (arith, c.u32_at-number.ensures))
      | then-number-eq0-via-else-number-eq0+then-not-sanitize_path_segment w ↦
          file-broken c.requires.0 c.requires.1 (λ t. false≢true (sym w.if-not-sanitize_path_segment.true ∙ w.sanitize_path_segment.ensures ∙ t.valid))
    ]

pub span-name-requires : goal.span-name-requires
span-name-requires c = name-fits _ _ _ c.requires.0.short (omega arith) c.requires.0.stands.within (sym c.sanitize_path_segment.ensures ∙ c.if-not-sanitize_path_segment.false)

pub returns-then-not-is_below : goal.returns-then-not-is_below
returns-then-not-is_below c = file-broken c.requires.0 c.requires.1 (λ t. false≢true (sym (c.if-not-is_below.true) ∙ (file-ordered c.requires.0 c.span-name.ensures c.is_below.ensures).1 t.above))

pub returns : goal.returns
returns c =
    file-followed c.requires.0 c.requires.1 (λ i. omega (arith, c.type_inv.src i))
    record {
      room = omega arith;
      long = omega arith;
      number = omega (arith, c.u32_at-number.ensures);
      small = omega (arith, c.u32_at-number.ensures);
      valid = sym c.sanitize_path_segment.ensures ∙ c.if-not-sanitize_path_segment.false;
      above = (file-ordered c.requires.0 c.span-name.ensures c.is_below.ensures).0 (c.if-not-is_below.false);
    }
    c.span-name.ensures c.u32_at-number.ensures
