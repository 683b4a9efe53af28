-- `put_number` meets its contract.
use Rattle.listing.proofs.Shapes.{digits_room, end-written}
use Rattle.listing.proofs.put_number.Goals as goal

pub put_decimal-requires : goal.put_decimal-requires
put_decimal-requires c = digits_room c.digits-k.ensures _ c.args.out.now c.requires c.put_u8.ensures

pub returns : goal.returns
returns c = end-written c.digits-k.ensures _ _ c.requires c.put_u8.ensures c.put_decimal.ensures c.put_u8-2.ensures
