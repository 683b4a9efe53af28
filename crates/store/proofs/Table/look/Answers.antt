-- `look` reads the number at the place that `find` found.
use native.Mathlib.Omega.{arith}
use mathlib.Core.Path.{◌∙◌, ap}
use Rattle.store.specs.Tables.{held_of}
use Rattle.store.proofs.Live.{same_item}
use Rattle.store.proofs.Search.{within, look_at, hit_found, none_found}
use Rattle.store.proofs.Table.look.Goals as goal

pub returns-in_err-i : goal.returns-in_err-i
returns-in_err-i c = ap held_of c.from_residual.ensures ∙ none_found _ c.find.ensures c.in_err-i.ensures.value

pub offset_bounds-deref-i : goal.offset_bounds-deref-i
offset_bounds-deref-i c = omega (arith, within _ _ (hit_found _ c.find.ensures c.in_ok-i.ensures.value).1, c.requires.0.room)

pub bounds-deref-i : goal.bounds-deref-i
bounds-deref-i c = rw c.deref.ensures.0 (within _ _ (hit_found _ c.find.ensures c.in_ok-i.ensures.value).1)

pub returns : goal.returns
returns c = look_at _ _ c.requires.0 (hit_found _ c.find.ensures c.in_ok-i.ensures.value).1 (same_item _ c.deref.ensures.0)
