-- A list of places with numbers, as a finite map: look, put, del; ascending in a well-formed store (crate model, Store). No part of document 01.
-- Crate basic_laws has their laws (MapLaws).
use Rattle.std.specs.Prelude.{◌≡◌, ℕ, List, [], ◌∷◌}
use Rattle.std.proofs.Math.Option.{Option, none, some}
use Rattle.basics.specs.Order.{Key, cmp_key, case_cmp}

abbrev pub Node : Type 0
Node = Key × ℕ

abbrev pub Map : Type 0
Map = List Node

-- The number that stands at a place, if any.
unfoldable pub look : Key → Map → Option ℕ
look k [] = none
look k (n ∷ r) = let rest = look k r in case_cmp (cmp_key k n.0) rest (some n.1) rest

-- The map with this number at this place, in place of what stands there.
unfoldable pub put : Key → ℕ → Map → Map
put k v [] = (k, v) ∷ []
put k v (n ∷ r) = case_cmp (cmp_key k n.0) ((k, v) ∷ n ∷ r) ((k, v) ∷ r) (n ∷ put k v r)

-- The map without what stands at this place.
unfoldable pub del : Key → Map → Map
del k [] = []
del k (n ∷ r) = let rest = del k r in case_cmp (cmp_key k n.0) (n ∷ rest) rest (n ∷ rest)

-- Something stands at a place.
abbrev pub Has : Key → Map → Type 0
Has k m = (x : ℕ) × (look k m ≡ some x)
