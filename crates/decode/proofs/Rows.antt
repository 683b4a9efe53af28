-- A listing with one node more, and a listing's node behind those before it.
use mathlib.Core.Path.{◌≡◌, refl, sym}
use mathlib.Core.Bool.{Bool, true, false}
use mathlib.Core.List.{[], ◌∷◌, ◌++◌}
use Prim.Native.Nat.{ℕ, suc, ◌+◌}
use native.Mathlib.Omega.{arith}
use lib.ListN.{length}
use Rattle.basics.specs.Order.{lt, Name, Key, cmp_key}
use Rattle.basics.specs.Map.{Map, Node}
use Rattle.basics.specs.Base.{all_of}
use Rattle.basics.specs.Name.{valid_name}
use Rattle.model.specs.Store.{valid_nodes, valid_staged, below_first, ascending}
use Rattle.basic_laws.specs.Tests.{nil≢cons, and_both, and_made}
use Rattle.laws.specs.ImageLaws.{staged-parts}
use Rattle.basic_laws.specs.ValidNames.{valid-named}
use Rattle.laws.specs.TreeLaws.{below_lt, size, is_dir, is_file, dir-size, file-size}
use Rattle.store.proofs.Tally.{dirs-files}
use Rattle.decode.specs.Listing.{valid_at, valid_from, last_key}

-- A valid name has bytes.
pub invalid-nil : {A : Type 0} → valid_name [] ≡ true → A
invalid-nil v = absurd (valid-named [] v refl)

-- The last key.
pub last_more : (k : Key) (m : Map) (n : Node) → last_key k (m ++ n ∷ []) ≡ n.0
last_more k [] n = refl
last_more k (x ∷ m) n = last_more x.0 m n

-- In an ascending list each key is above the last one before it; a node with a key above the last one goes behind.
pub last-below : (j : Key) (m : Map) (n : Node) (r : Map) → ascending (m ++ n ∷ r) ≡ true → (m ≡ [] → cmp_key j n.0 ≡ lt) → cmp_key (last_key j m) n.0 ≡ lt
unfolding ascending
last-below j [] n r a h = h refl
last-below j (x ∷ []) n r a h = below_lt (cmp_key x.0 n.0) (and_both (below_first x.0 (n ∷ r)) (ascending (n ∷ r)) a).0
last-below j (x ∷ y ∷ m) n r a h = last-below x.0 (y ∷ m) n r (and_both (below_first x.0 (y ∷ m ++ n ∷ r)) (ascending (y ∷ m ++ n ∷ r)) a).1 (λ e. nil≢cons (sym e))

pub ascending-more : (j : Key) (m : Map) (n : Node) → ascending m ≡ true → cmp_key (last_key j m) n.0 ≡ lt → ascending (m ++ n ∷ []) ≡ true
unfolding ascending
ascending-more j [] n a h = refl
ascending-more j (x ∷ []) n a h = rw h
ascending-more j (x ∷ y ∷ m) n a h =
    let p = and_both (below_first x.0 (y ∷ m)) (ascending (y ∷ m)) a in
    and_made (below_first x.0 (y ∷ m ++ n ∷ [])) (ascending (y ∷ m ++ n ∷ [])) p.0 (ascending-more x.0 (y ∷ m) n p.1 h)

-- Valid nodes.
module _ (staged : Bool) where
  pub valid-at : (k : Key) (m : Map) (n : Node) (r : Map) → valid_from staged k.0 (m ++ n ∷ r) ≡ true → valid_at staged (last_key k m).0 n ≡ true
  valid-at k [] n r e = (and_both (valid_at staged k.0 n) (valid_from staged n.0.0 r) e).0
  valid-at k (x ∷ m) n r e = valid-at x.0 m n r (and_both (valid_at staged k.0 x) (valid_from staged x.0.0 (m ++ n ∷ r)) e).1

  pub valid-more : (k : Key) (m : Map) (n : Node) → valid_from staged k.0 m ≡ true → valid_at staged (last_key k m).0 n ≡ true → valid_from staged k.0 (m ++ n ∷ []) ≡ true
  valid-more k [] n e h = and_made (valid_at staged k.0 n) true h refl
  valid-more k (x ∷ m) n e h =
      let p = and_both (valid_at staged k.0 x) (valid_from staged x.0.0 m) e in
      and_made (valid_at staged k.0 x) (valid_from staged x.0.0 (m ++ n ∷ [])) p.0 (valid-more x.0 m n p.1 h)

pub valid-tree : (d : Name) (m : Map) → valid_from false d m ≡ valid_nodes d m
unfolding valid_nodes
valid-tree d [] = refl
valid-tree d (n ∷ r) = rw (valid-tree n.0.0 r)

pub valid-staging : (d : Name) (m : Map) → valid_from true d m ≡ all_of valid_staged m
valid-staging d [] = refl
valid-staging d (n ∷ r) = rw (valid-staging n.0.0 r)

-- Counts.
pub size_append : (w : Key → ℕ) (m r : Map) → size w (m ++ r) ≡ size w m + size w r
size_append w [] r = omega arith
size_append w (n ∷ m) r = omega (arith, size_append w m r)

pub count : (m : Map) → length m ≡ size is_dir m + size is_file m
count m = omega (arith, dirs-files m, dir-size m, file-size m)

pub staged-files : (m : Map) → all_of valid_staged m ≡ true → size is_file m ≡ length m
staged-files [] e = refl
staged-files (n ∷ m) e =
    let h = and_both (valid_staged n) (all_of valid_staged m) e in
    go n.0.1 (staged-parts n h.0).1 (staged-files m h.1)
  where
    go : (f : Name) → valid_name f ≡ true → size is_file m ≡ length m → is_file (n.0.0, f) + size is_file m ≡ suc (length m)
    go [] v e = invalid-nil v
    go (y ∷ ys) v e = omega arith
