-- `delete_one` meets its contract.
use Rattle.key_set.proofs.Deletes.{asks-rename, is-renamed, no-delete}
use Rattle.key_set.proofs.delete_one.Goals as goal

pub returns-in_default : goal.returns-in_default
returns-in_default c = no-delete c.args.op c.requires c.in_default.not-Delete

pub ensure_normalized_on_disk-requires : goal.ensure_normalized_on_disk-requires
ensure_normalized_on_disk-requires c = asks-rename c.requires c.in-Delete.is

pub exists-requires : goal.exists-requires
exists-requires c =
    let a = asks-rename c.requires c.in-Delete.is in (c.ensure_normalized_on_disk.ensures.fits.sound.tree, (a.1.0, a.1.1.sound))

pub returns : goal.returns
returns c =
    is-renamed c.requires c.in-Delete.is c.ensure_normalized_on_disk.ensures c.exists.ensures
