-- The nodes of a table, and the map that they stand for.
use mathlib.Core.Path.{◌≡◌, sym, ap, subst, ◌∙◌}
use mathlib.Core.List.{List, [], ◌∷◌}
use Prim.Native.Nat.{ℕ, suc, ◌+◌, ◌≤◌, ◌<◌}
use native.Mathlib.Numerals.{add-one}
use native.Mathlib.Omega.{arith}
use lib.ListN.{length, drop, get_or, length-map, get_or-map, drop_of_length-le}
use lib.Seq.{drop-cons}
use Rattle.basics.specs.Map as model
use Rattle.basics.specs.Base.{Bytes}
use Rattle.store.specs.declared.Node.{Node}
use Rattle.store.specs.declared.Table.{Table}
use Rattle.store.specs.Tables.{node_of, live, map_of, SoundNode, SoundTable}
use Rattle.store.proofs.Lists.{all_get_d}

-- What is read where nothing stands.
abbrev pub blank : Node
blank = record { dir = record { start = 0; len = 0; baks = 0 }; file = record { start = 0; len = 0; baks = 0 }; number = 0 }

pub length-table : (src : Bytes) (t : Table) → length (map_of src t) ≡ length (live t)
unfolding map_of
length-table src t = length-map (live t) (node_of src)

-- The node at i, and what is left from i on.
module _ (src : Bytes) (t : Table) (i : ℕ) (d : Node) where
  pub node_at_lem : get_or (map_of src t) i (node_of src d) ≡ node_of src (get_or (live t) i d)
  unfolding map_of
  node_at_lem = get_or-map (node_of src) (live t) i d

  pub rest : i < length (live t) → drop i (map_of src t) ≡ node_of src (get_or (live t) i d) ∷ drop (i + 1) (map_of src t)
  rest h =
      let l : i < length (map_of src t) = omega (arith, length-table src t) in
      drop-cons (map_of src t) i (node_of src d) l ∙ ap (λ (n : model.Node). n ∷ drop (suc i) (map_of src t)) node_at_lem ∙ ap (λ (j : ℕ). node_of src (get_or (live t) i d) ∷ drop j (map_of src t)) (sym (add-one i))

pub finished : (src : Bytes) (t : Table) (i : ℕ) → length (live t) ≤ i → drop i (map_of src t) ≡ []
finished src t i h = drop_of_length-le (map_of src t) {i = i} (omega (arith, length-table src t))

-- The node at i of what is read in a table's place.
pub same_item : {xs ys : List Node} (i : ℕ) → xs ≡ ys → get_or xs i blank ≡ get_or ys i blank
same_item i e = ap (λ xs. get_or xs i blank) e

-- A node x that was read at i.
module _ {src : Bytes} {t : Table} (s : SoundTable src t) {i : ℕ} {x : Node} (h : i < length (live t)) (q : x ≡ get_or (live t) i blank) where
  pub sound-read : SoundNode src x
  sound-read = subst (SoundNode src) (sym q) (all_get_d (SoundNode src) (live t) i blank s.each h)

  pub rest_read : drop i (map_of src t) ≡ node_of src x ∷ drop (i + 1) (map_of src t)
  rest_read = rest src t i blank h ∙ ap (λ (y : Node). node_of src y ∷ drop (i + 1) (map_of src t)) (sym q)
