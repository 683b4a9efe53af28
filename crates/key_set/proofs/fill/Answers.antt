-- `fill` meets its contract: three parts, one behind the other.
use native.Mathlib.Omega.{arith}
use mathlib.Core.Path.{refl, ap, ◌∙◌}
use lib.ListN.{length}
use Rattle.field.proofs.Written.{length-written}
use Rattle.key_set.proofs.Filled.{lent-first, filled}
use Rattle.key_set.proofs.fill.Goals as goal

pub gather-requires : goal.gather-requires
gather-requires c =
    let e = ap length c.put_bytes-2.ensures ∙ length-written _ _ _ ∙ ap length c.put_bytes.ensures ∙ length-written _ _ _ in
    let w = c.from-len.ensures in
    ((c.requires.0.0, record { collection = c.args.collection.now; roomy = lent-first refl c.lend_name-c.ensures }), (omega (arith, e, w, c.requires.1.0), omega (arith, e, c.requires.1.1)))

pub returns : goal.returns
returns c =
    filled c.args.src.now c.requires.0.0 c.requires.0.1 c.requires.1.0 c.put_bytes.ensures c.from-start.ensures c.from-len.ensures c.put_bytes-2.ensures
    (c.gather.ensures c.args.collection.now (lent-first refl c.lend_name-c.ensures))
