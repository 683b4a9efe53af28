-- `shown::inventory`: the image is read, its text is written where it has room.
use Rattle.std.proofs.lemmas.Result.{err_from_is_err_and}
use lib.ListN.{length}
use Rattle.cda_storage.proofs.Inventories.{inventory-refused, inventory-asks, inventory-answers}
use Rattle.cda_storage.proofs.shown.inventory.Goals as goal

pub returns-in_err-opened : goal.returns-in_err-opened
returns-in_err-opened c =
    let p = err_from_is_err_and c.from_residual.result c.from_residual.ensures.1 in
    rw (p.1, p.2) (inventory-refused c.args.image.now c.in_err-opened.ensures (length c.args.out.now))

pub put_inventory-requires : goal.put_inventory-requires
put_inventory-requires c = inventory-asks c.args.image.now c.in_ok-opened.ensures

pub returns : goal.returns
returns c = rw c.ok_or.ensures.value (inventory-answers c.args.image.now c.in_ok-opened.ensures _ c.put_inventory.ensures)
