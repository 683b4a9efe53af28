-- `put` puts the node over the one that `find` found, or in at its place.
use native.Mathlib.Omega.{arith}
use mathlib.Core.Path.{◌≡◌, refl}
use Prim.Native.Nat.{◌<◌}
use lib.ListN.{length}
use Rattle.std.proofs.Common.{lit<, rules}
use Rattle.store.specs.Places.{table_room}
use Rattle.store.specs.Tables.{live}
use Rattle.store.proofs.Search.{within, at_most}
use Rattle.store.proofs.Change.{put_full, put-over, put-new}
use Rattle.store.proofs.Table.put.Goals as goal

pub returns-then-is_full : goal.returns-then-is_full
returns-then-is_full c =
    let e : length (live c.args.self.now) ≡ table_room = search rules in
    put_full c.requires.0 _ _ (omega arith)

pub set-requires : goal.set-requires
set-requires c = (lit< tt, within _ _ (c.in-Ok.ensures.at _ refl).1)

pub insert-requires : goal.insert-requires
insert-requires c = (lit< tt, (at_most _ _ (c.in-Err.ensures.missing _ refl), search rules))

pub returns-in-Ok : goal.returns-in-Ok
returns-in-Ok c =
    let h : length (live c.args.self.now) < table_room = search rules in
    put-over c.requires.0 c.requires.1 h _ (c.in-Ok.ensures.at _ refl).1 c.set.ensures.items

pub returns-in-Err : goal.returns-in-Err
returns-in-Err c =
    let h : length (live c.args.self.now) < table_room = search rules in
    put-new c.requires.0 c.requires.1 h _ (c.in-Err.ensures.missing _ refl) c.insert.ensures.len c.insert.ensures.items
