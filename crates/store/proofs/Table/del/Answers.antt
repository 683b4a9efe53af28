-- `del` takes the node out that `find` found.
use mathlib.Core.Path.{refl}
use Rattle.std.proofs.Common.{lit<}
use Rattle.store.proofs.Search.{within}
use Rattle.store.proofs.Change.{del-out, del-none}
use Rattle.store.proofs.Table.del.Goals as goal

pub remove-requires : goal.remove-requires
remove-requires c = (lit< tt, within _ _ (c.in-Ok.ensures.at _ refl).1)

pub returns-in-Ok : goal.returns-in-Ok
returns-in-Ok c = del-out c.requires.0 _ (c.in-Ok.ensures.at _ refl).1 c.remove.ensures.len c.remove.ensures.items

pub returns-in_default : goal.returns-in_default
returns-in_default c = del-none c.requires.0 (c.find-found.ensures.missing _ c.in_default.is)
