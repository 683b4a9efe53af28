-- A table after a node is put in, put over another or taken out.
use mathlib.Core.Path.{◌≡◌, sym, ap, ◌∙◌}
use mathlib.Core.List.{List, [], ◌∷◌, ◌++◌, map, map-append}
use Prim.Native.Nat.{ℕ, suc, ◌+◌, ◌≤◌, ◌<◌}
use native.Mathlib.Omega.{arith}
use lib.ListN.{length, take, drop, set, length-set}
use lib.Seq.{set_split}
use Rattle.basics.specs.Order.{Key}
use Rattle.basics.specs.Map as model
use Rattle.basics.specs.Map.{del}
use Rattle.basics.specs.Base.{Bytes}
use Rattle.basic_laws.specs.MapLaws.{Sorted, sorted-put, sorted-del}
use Rattle.basic_laws.specs.Tests.{All, all_append, all_take, all_drop}
use Rattle.store.specs.declared.Node.{Node}
use Rattle.store.specs.declared.Table.{Table}
use Rattle.store.specs.Places.{Hit, Gap, put_in, table_room}
use Rattle.store.specs.Tables.{key_of, node_of, live, map_of, SoundNode, SoundTable, Holds}
use Rattle.store.proofs.Lists.{map-take, map-drop}
use Rattle.store.proofs.Live.{length-table}
use Rattle.store.proofs.Places.{put-gap, put-hit, del-gap, del-hit}
use Rattle.store.proofs.Room.{room-put, full_put}

-- A table whose nodes are those of a sorted map.
pub holds : {src : Bytes} {r : Table} {m : model.Map} → length (live r) ≤ table_room → All (SoundNode src) (live r) → map_of src r ≡ m → Sorted m → Holds src r m
holds z a e s = record { sound = record { room = z; each = a; sorted = rw e s }; same = e }

module _ {src : Bytes} {t : Table} (s : SoundTable src t) where
  pub put_full : (k : Key) (v : ℕ) → table_room ≤ length (live t) → Holds src t (put_in k v (map_of src t))
  put_full k v h = record { sound = s; same = sym (full_put k v (map_of src t) (omega (arith, length-table src t))) }

  -- The nodes before i and from j on, with some between them.
  around : (i j : ℕ) (l : List Node) → All (SoundNode src) l → All (SoundNode src) (take i (live t) ++ (l ++ drop j (live t)))
  around i j l h = all_append (SoundNode src) (take i (live t)) _ (all_take (SoundNode src) i (live t) s.each) (all_append (SoundNode src) l _ h (all_drop (SoundNode src) j (live t) s.each))

  map-around : (i j : ℕ) (l : List Node) → map (node_of src) (take i (live t) ++ (l ++ drop j (live t))) ≡ take i (map_of src t) ++ (map (node_of src) l ++ drop j (map_of src t))
  unfolding map_of
  map-around i j l = simp (map-append, map-take, map-drop)

  changed : {r : Table} {m : model.Map} (i j : ℕ) (l : List Node) → length (live r) ≤ table_room → live r ≡ take i (live t) ++ (l ++ drop j (live t)) → All (SoundNode src) l
      → m ≡ take i (map_of src t) ++ (map (node_of src) l ++ drop j (map_of src t)) → Sorted m → Holds src r m
  unfolding map_of
  changed {r} {m} i j l z e h q o = holds z (rw e (around i j l h)) (ap (map (node_of src)) e ∙ map-around i j l ∙ sym q) o

  module _ {x : Node} (sx : SoundNode src x) (h : length (live t) < table_room) where
    sorted : Sorted (put_in (key_of src x.dir x.file) x.number (map_of src t))
    sorted = rw (room-put (key_of src x.dir x.file) x.number (map_of src t) (omega (arith, length-table src t))) (sorted-put (key_of src x.dir x.file) x.number (map_of src t) s.sorted)

    pub put-new : {i : ℕ} (r : Table) → Gap (key_of src x.dir x.file) (map_of src t) i → length (live r) ≡ length (live t) + 1 → live r ≡ take i (live t) ++ x ∷ drop i (live t) → Holds src r (put_in (key_of src x.dir x.file) x.number (map_of src t))
    put-new {i} r g z e = changed i i (x ∷ []) (omega arith) e (sx, tt) (room-put _ _ (map_of src t) (omega (arith, length-table src t)) ∙ put-gap _ g x.number) sorted

    pub put-over : {i v : ℕ} (r : Table) → Hit (key_of src x.dir x.file) v (map_of src t) i → live r ≡ set (live t) i x → Holds src r (put_in (key_of src x.dir x.file) x.number (map_of src t))
    put-over {i} r g e =
        let l : i < length (live t) = omega (arith, g.within, length-table src t) in
        let z : length (live r) ≤ table_room = rw (e, length-set (live t) i x) (omega arith) in
        changed i (suc i) (x ∷ []) z (e ∙ set_split (live t) i x l) (sx, tt)
        (room-put _ _ (map_of src t) (omega (arith, length-table src t)) ∙ put-hit _ g x.number) sorted

  pub del-out : {k : Key} {i v : ℕ} (r : Table) → Hit k v (map_of src t) i → length (live r) + 1 ≡ length (live t) → live r ≡ take i (live t) ++ drop (suc i) (live t) → Holds src r (del k (map_of src t))
  del-out {k} {i} r g z e = changed i (suc i) [] (omega (arith, s.room)) e tt (del-hit k g) (sorted-del k (map_of src t) s.sorted)

  pub del-none : {k : Key} {i : ℕ} → Gap k (map_of src t) i → Holds src t (del k (map_of src t))
  del-none {k} g = record { sound = s; same = sym (del-gap k g) }
