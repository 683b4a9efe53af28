-- `encode::put_tail` meets its contract.
use Rattle.encode.proofs.Tails.{sound-entry, entry-room, nothing_written, header-written, entry-written}
use Rattle.encode.proofs.put_tail.Goals as goal

pub put_appended-requires : goal.put_appended-requires
put_appended-requires c =
    let e = c.in-Entry.is in
    (c.requires.0, (sound-entry _ c.requires.1.0 e, entry-room _ _ _ c.args.out.now e c.requires.1.1))

pub returns-in-Nothing : goal.returns-in-Nothing
returns-in-Nothing c =
    let s = c.requires.0 in
    let e = c.in-Nothing.is in
    nothing_written _ _ _ _ s e c.put_log.ensures c.log_size.ensures

pub returns-in-Header : goal.returns-in-Header
returns-in-Header c = header-written _ _ _ _ c.in-Header.is c.put_header.ensures

pub returns-in-Entry : goal.returns-in-Entry
returns-in-Entry c = entry-written _ _ _ _ c.in-Entry.is c.put_appended.ensures
