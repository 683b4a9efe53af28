-- A table that is filled from its front.
use mathlib.Core.Path.{◌≡◌, refl, ap, ◌∙◌}
use mathlib.Core.List.{[], ◌∷◌, ◌++◌, map, map-append}
use Prim.Native.Nat.{◌<◌}
use native.Mathlib.Omega.{arith}
use lib.ListN.{length, length-append}
use Rattle.basics.specs.Map as model
use Rattle.basics.specs.Base.{Bytes}
use Rattle.basic_laws.specs.MapLaws.{Sorted}
use Rattle.basic_laws.specs.Tests.{all_append}
use Rattle.store.specs.declared.Node.{Node}
use Rattle.store.specs.declared.Table.{Table}
use Rattle.store.specs.Places.{table_room}
use Rattle.store.specs.Tables.{node_of, live, map_of, SoundNode, Holds}
use Rattle.store.proofs.Change.{holds}

pub unused : {src : Bytes} {t : Table} → live t ≡ [] → Holds src t []
unfolding map_of
unused e = holds (rw e (omega arith)) (rw e tt) (rw e refl) tt

-- A node stored behind the last one.
pub stored : {src : Bytes} {t u : Table} {m : model.Map} {x : Node} → Holds src t m → SoundNode src x → length (live t) < table_room → live u ≡ live t ++ x ∷ [] → Sorted (m ++ node_of src x ∷ []) → Holds src u (m ++ node_of src x ∷ [])
unfolding map_of
stored {src} {t} {u} {m} {x} h sx r e s =
    holds (rw (e, length-append (live t) (x ∷ [])) (omega arith))
    (rw e (all_append (SoundNode src) (live t) (x ∷ []) h.sound.each (sx, tt)))
    (ap (map (node_of src)) e ∙ map-append (node_of src) (live t) (x ∷ []) ∙ ap (λ (n : model.Map). n ++ node_of src x ∷ []) h.same)
    s
