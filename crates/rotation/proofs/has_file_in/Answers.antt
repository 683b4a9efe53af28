-- `rotation::has_file_in`: the image is copied, the name is lent behind it, the store is asked.
use Rattle.recording.proofs.Lent.{copied, lent-next, below, stands}
use Rattle.rotation.proofs.Having.{has-invalid, has-asks, has-found}
use Rattle.rotation.proofs.has_file_in.Goals as goal

pub is_dir_empty-requires : goal.is_dir_empty-requires
is_dir_empty-requires c =
    let l = lent-next (copied c.requires.roomy c.put_bytes.ensures) c.lend_name-named.ensures in
    let g = stands (below c.lend_name-named.ensures) in
    has-asks c.args.name.now c.args.image.now c.requires.opens (rw c.in-Some.is at g) l.begins

pub returns-in-Some : goal.returns-in-Some
returns-in-Some c =
    let l = lent-next (copied c.requires.roomy c.put_bytes.ensures) c.lend_name-named.ensures in
    let g = stands (below c.lend_name-named.ensures) in
    has-found c.args.name.now c.args.image.now c.requires.opens (rw c.in-Some.is at g) l.begins c.is_dir_empty.ensures

pub returns-in-None : goal.returns-in-None
returns-in-None c =
    let g = stands (below c.lend_name-named.ensures) in
    has-invalid c.args.name.now c.args.image.now c.requires.opens (rw c.in-None.is at g)
