-- `put_line` meets its contract: the directory's name, a slash, and for a file its name and number.
use Rattle.listing.proofs.Shapes.{dir-written, file-room, file-written}
use Rattle.listing.proofs.put_line.Goals as goal

pub returns-then-f-eq0 : goal.returns-then-f-eq0
returns-then-f-eq0 c = dir-written c.length_of-d.ensures.0 c.length_of-f.ensures.0 c.requires.0 _ _ c.requires.1 c.put_name.ensures c.if-f-eq0.true c.put_bytes.ensures

pub put_number-requires : goal.put_number-requires
put_number-requires c = file-room c.length_of-d.ensures.0 c.length_of-f.ensures.0 c.requires.0 _ c.args.out.now c.requires.1 c.put_name.ensures c.if-f-eq0.false c.put_u8.ensures c.put_name-2.ensures

pub returns : goal.returns
returns c = file-written c.length_of-d.ensures.0 c.length_of-f.ensures.0 c.requires.0 _ _ c.requires.1 c.put_name.ensures c.if-f-eq0.false c.put_u8.ensures c.put_name-2.ensures c.put_number.ensures
