-- `lend::lend_key` meets its contract.
use mathlib.Core.Path.{refl, sym, ap, ◌∙◌}
use Prim.Native.Nat.{◌≤◌}
use native.Mathlib.Omega.{arith}
use lib.ListN.{length}
use lib.Seq.{length-take-le}
use Rattle.basics.specs.Name.{valid_name, lower}
use Rattle.paths.proofs.Lower.{length-lower}
use Rattle.lend.proofs.Lent.{not-lent, lent, long-key, same_size, kept, written-part}
use Rattle.lend.proofs.lend_key.Goals as goal

pub returns-then-n-gt-NAME_LIMIT : goal.returns-then-n-gt-NAME_LIMIT
returns-then-n-gt-NAME_LIMIT c =
    not-lent c.args.at (lower c.args.key.now) c.args.src.now c.requires.0 refl refl (long-key c.args.key.now c.if-n-gt-NAME_LIMIT.true) c.not_valid.ensures

pub returns-then-sanitize_path_segment : goal.returns-then-sanitize_path_segment
returns-then-sanitize_path_segment c =
    let k = c.args.key.now in
    let l : length (lower k) ≤ 64 = omega (arith, length-lower k, c.if-n-gt-NAME_LIMIT.false) in
    let e = written-part c.args.at (lower k) c.args.src.now c.requires.0 l c.normalize_key.ensures (sym (length-lower k)) in
    lent c.args.at (lower k) c.args.src.now c.requires.0 l c.normalize_key.ensures (ap valid_name (sym e) ∙ sym c.sanitize_path_segment.ensures ∙ c.if-sanitize_path_segment.true) (sym (length-lower k)) c.span.ensures

pub returns : goal.returns
returns c =
    let k = c.args.key.now in
    let l : length (lower k) ≤ 64 = omega (arith, length-lower k, c.if-n-gt-NAME_LIMIT.false) in
    let e = written-part c.args.at (lower k) c.args.src.now c.requires.0 l c.normalize_key.ensures (sym (length-lower k)) in
    not-lent c.args.at (lower k) c.args.src.now c.requires.0
    (same_size c.args.at (lower k) c.args.src.now c.requires.0 l c.normalize_key.ensures)
    (kept c.args.at (lower k) c.args.src.now c.requires.0 l c.normalize_key.ensures)
    (ap valid_name (sym e) ∙ sym c.sanitize_path_segment.ensures ∙ c.if-sanitize_path_segment.false) c.not_valid-2.ensures
