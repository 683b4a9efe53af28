-- `recording::ask_in`: the image is copied, three names are lent behind it, the method is asked, its answer is handed on.
use mathlib.Core.Path.{ap, ◌∙◌}
use native.Mathlib.Omega.{arith}
use lib.ListN.{length}
use Rattle.field.proofs.Written.{length-written}
use Rattle.recording.proofs.Lent.{copied, lent-next, lend_room}
use Rattle.recording.proofs.Given.{lent-names, asks}
use Rattle.recording.proofs.Handed.{hands_on, handed}
use Rattle.recording.proofs.ask_in.Goals as goal

pub lend_name-d-requires : goal.lend_name-d-requires
lend_name-d-requires c =
    let x = c.lend_name-a.ensures in
    let y = c.lend_key-b.ensures in
    lend_room (lent-next (lent-next (copied c.requires.roomy c.put_bytes.ensures) x) y) (omega (arith, x.ends, y.ends))

pub answer-r-requires : goal.answer-r-requires
answer-r-requires c =
    let l = lent-names c.args.key.now c.requires.roomy c.put_bytes.ensures c.lend_name-a.ensures c.lend_key-b.ensures c.lend_name-d.ensures in
    asks l c.requires.opens.held

pub hand_on-requires : goal.hand_on-requires
hand_on-requires c =
    let l = lent-names c.args.key.now c.requires.roomy c.put_bytes.ensures c.lend_name-a.ensures c.lend_key-b.ensures c.lend_name-d.ensures in
    hands_on c.args.op c.args.collection.now c.args.key.now c.args.other.now c.args.image.now (length c.args.out.now)
    c.requires.opens l.begins c.answer-r.ensures c.kept-front.ensures

pub shape_of-src : goal.shape_of-src
shape_of-src c =
    c.lend_name-d.ensures.size ∙ c.lend_key-b.ensures.size ∙ c.lend_name-a.ensures.size ∙ ap length c.put_bytes.ensures ∙ length-written 0 _ _

pub returns : goal.returns
returns c written =
    let l = lent-names c.args.key.now c.requires.roomy c.put_bytes.ensures c.lend_name-a.ensures c.lend_key-b.ensures c.lend_name-d.ensures in
    handed c.args.op c.args.collection.now c.args.key.now c.args.other.now c.args.image.now (length c.args.out.now)
    c.requires.opens l.begins c.answer-r.ensures (c.hand_on.ensures written)
