-- `lend::lend_name` meets its contract.
use mathlib.Core.Path.{refl, sym, ap, ◌∙◌}
use native.Mathlib.Omega.{arith}
use lib.ListN.{length}
use lib.Seq.{length-take-le}
use Rattle.basic_laws.specs.ValidNames.{valid-length}
use Rattle.field.proofs.Written.{length-written}
use Rattle.lend.proofs.Lent.{not-lent, lent}
use Rattle.lend.proofs.lend_name.Goals as goal

pub slice_bounds-span-end : goal.slice_bounds-span-end
slice_bounds-span-end c =
    let v = valid-length c.args.name.now (sym c.sanitize_path_segment.ensures ∙ c.if-sanitize_path_segment.true) in
    omega (arith, c.requires.0, v.1, ap length c.put_bytes.ensures ∙ length-written c.args.at c.args.name.now c.args.src.now)

pub slice_bounds-span-end-then-sanitize_path_segment : goal.slice_bounds-span-end-then-sanitize_path_segment
slice_bounds-span-end-then-sanitize_path_segment c = sym (length-take-le _ _ (
    let v = valid-length c.args.name.now (sym c.sanitize_path_segment.ensures ∙ c.if-sanitize_path_segment.true) in
    omega (arith, c.requires.0, v.1, ap length c.put_bytes.ensures ∙ length-written c.args.at c.args.name.now c.args.src.now)))

pub span-requires : goal.span-requires
span-requires c =
    let v = valid-length c.args.name.now (sym c.sanitize_path_segment.ensures ∙ c.if-sanitize_path_segment.true) in
    (omega (arith, c.requires.0, c.requires.1), v.1, omega (arith, slice_bounds-span-end-then-sanitize_path_segment c))

pub returns-then-sanitize_path_segment : goal.returns-then-sanitize_path_segment
returns-then-sanitize_path_segment c =
    let e = sym c.sanitize_path_segment.ensures ∙ c.if-sanitize_path_segment.true in
    lent c.args.at c.args.name.now c.args.src.now c.requires.0 (valid-length c.args.name.now e).1 c.put_bytes.ensures e refl c.span.ensures
