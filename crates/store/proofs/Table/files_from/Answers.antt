-- `files_from`: the place behind the directory's own, or where that would stand.
use mathlib.Core.Path.{refl}
use native.Mathlib.Omega.{arith}
use Rattle.spans.proofs.Parts.{empty-name}
use Rattle.store.proofs.Search.{within}
use Rattle.store.proofs.Files.{from-hit, from-gap}
use Rattle.store.proofs.Table.files_from.Goals as goal

pub overflow_add-result : goal.overflow_add-result
overflow_add-result c = omega (arith, within _ _ (c.in-Ok.ensures.at _ refl).1, c.requires.0.room)

pub returns-in-Ok : goal.returns-in-Ok
returns-in-Ok c = from-hit _ (empty-name _).same c.in-Ok.ensures refl

pub returns-in-Err : goal.returns-in-Err
returns-in-Err c = from-gap _ (empty-name _).same c.in-Err.ensures refl
