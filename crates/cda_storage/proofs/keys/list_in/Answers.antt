-- `keys::list_in`: the image is copied, the name is lent behind it, the keys are listed.
use mathlib.Core.Path.{refl}
use lib.ListN.{length}
use Rattle.recording.proofs.Lent.{copied, lent-next, below, stands}
use Rattle.cda_storage.proofs.Listed.{keys-invalid, keys-ask, keys-listed}
use Rattle.cda_storage.proofs.keys.list_in.Goals as goal

pub list_keys-requires : goal.list_keys-requires
list_keys-requires c =
    let l = lent-next (copied c.requires.roomy c.put_bytes.ensures) c.lend_name-named.ensures in
    let g = stands (below c.lend_name-named.ensures) in
    keys-ask c.args.collection.now c.args.image.now (length c.args.out.now) c.requires.opens (rw c.in-Some.is at g) l.begins

pub returns : goal.returns
returns c =
    let l = lent-next (copied c.requires.roomy c.put_bytes.ensures) c.lend_name-named.ensures in
    let g = stands (below c.lend_name-named.ensures) in
    keys-listed c.args.collection.now c.args.image.now (length c.args.out.now) c.requires.opens (rw c.in-Some.is at g) l.begins refl c.list_keys.ensures

pub returns-in_default : goal.returns-in_default
returns-in_default c =
    let g = stands (below c.lend_name-named.ensures) in
    keys-invalid c.args.collection.now c.args.image.now (length c.args.out.now) c.requires.opens (rw c.in_default.is at g)
