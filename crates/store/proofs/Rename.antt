-- A directory renamed: it is removed, and then its nodes are put in under the new name.
use Rattle.std.specs.Prelude.{if◌then◌else◌}
use mathlib.Core.Path.{◌≡◌, refl, sym, ap, ◌∙◌}
use mathlib.Core.List.{[], ◌∷◌}
use mathlib.Core.Bool.{Bool, true, false}
use Prim.Native.Nat.{ℕ, suc, ◌+◌, ◌≤◌, ◌<◌}
use native.Mathlib.Omega.{arith}
use lib.ListN.{length, drop, get_or}
use Rattle.basics.specs.Order.{Cmp, lt, eq, gt, Name, Key, cmp_name, case_cmp}
use Rattle.basics.specs.Map as model
use Rattle.basics.specs.Map.{Map, put, del}
use Rattle.basics.specs.Base.{Bytes, same_bytes}
use Rattle.model.specs.Step.{remove_dir, rename_dir}
use Rattle.basic_laws.specs.OrderLaws.{name_laws, key_laws, lt≢eq}
use Rattle.basic_laws.specs.MapLaws.{Sorted, sorted-put, sorted-del, commute}
use Rattle.laws.specs.TreeLaws.{one, length-size, size-put_le}
use Rattle.basic_laws.specs.Tests.{All}
use Rattle.spans.specs.Spans.{name_of}
use Rattle.spans.specs.declared.NameRef.{NameRef}
use Rattle.store.specs.declared.Node.{Node}
use Rattle.store.specs.Places.{Over, put_in, table_room}
use Rattle.store.specs.declared.Table.{Table}
use Rattle.store.specs.Tables.{key_of, node_of, live, map_of, SoundNode, SoundTable, Holds}
use Rattle.store.proofs.Lists.{drop-zero}
use Rattle.store.proofs.Live.{blank, length-table, finished, sound-read, rest_read}
use Rattle.store.proofs.Places.{above-all, flipped, del-over}
use Rattle.store.proofs.Room.{room-put}
use Rattle.store.proofs.Sweep.{by-same}

module _ (a : Name) where
  -- The map t without what the listing holds of directory a.
  unfoldable del_all : Map → Map → Map
  del_all [] t = t
  del_all (n ∷ r) t = del_all r (case_cmp (cmp_name a n.0.0) t (del n.0 t) t)

  -- How many nodes of directory a a map holds.
  unfoldable pub nodes_in : Map → ℕ
  nodes_in [] = 0
  nodes_in (n ∷ r) = let rest = nodes_in r in case_cmp (cmp_name a n.0.0) rest (suc rest) rest

  del_all-put : (k : Key) (v : ℕ) (r t : Map) → Sorted t → All (λ n. a ≡ n.0.0 → n.0 ≡ k → ⊥) r → del_all r (put k v t) ≡ put k v (del_all r t)
  unfolding del_all
  del_all-put k v [] t s h = refl
  del_all-put k v (n ∷ r) t s h = go (cmp_name a n.0.0) refl (λ u z. del_all-put k v r u z h.1)
    where
      go : (c : Cmp) → cmp_name a n.0.0 ≡ c → ((u : Map) → Sorted u → del_all r (put k v u) ≡ put k v (del_all r u)) → del_all r (case_cmp c (put k v t) (del n.0 (put k v t)) (put k v t)) ≡ put k v (del_all r (case_cmp c t (del n.0 t) t))
      go lt e ih = ih t s
      go eq e ih = ap (del_all r) (commute k n.0 v t s (h.0 (name_laws.equal a n.0.0 e))) ∙ ih (del n.0 t) (sorted-del n.0 t s)
      go gt e ih = ih t s

  del_all-cons : (n : model.Node) (r t : Map) → All (Over n.0) r → del_all r (n ∷ t) ≡ n ∷ del_all r t
  unfolding del del_all
  del_all-cons n [] t h = refl
  del_all-cons n (x ∷ r) t h = go (cmp_name a x.0.0) (λ u. del_all-cons n r u h.1)
    where
      go : (c : Cmp) → ((u : Map) → del_all r (n ∷ u) ≡ n ∷ del_all r u) → del_all r (case_cmp c (n ∷ t) (del x.0 (n ∷ t)) (n ∷ t)) ≡ n ∷ del_all r (case_cmp c t (del x.0 t) t)
      go lt ih = ih t
      go eq ih = rw (flipped n.0 x.0 h.0) (ih (del x.0 t))
      go gt ih = ih t

  removed : (m : Map) → Sorted m → del_all m m ≡ remove_dir a m
  unfolding remove_dir del del_all
  removed [] s = refl
  removed (n ∷ r) s = go (cmp_name a n.0.0) (removed r s.1) (above-all n.0 r s.1 s.0)
    where
      go : (c : Cmp) → del_all r r ≡ remove_dir a r → All (Over n.0) r → del_all r (case_cmp c (n ∷ r) (del n.0 (n ∷ r)) (n ∷ r)) ≡ case_cmp c (n ∷ remove_dir a r) (remove_dir a r) (n ∷ remove_dir a r)
      go lt ih o = del_all-cons n r r o ∙ ap (n ∷◌) ih
      go eq ih o = rw (key_laws.reflexive n.0, del-over n.0 r o) ih
      go gt ih o = del_all-cons n r r o ∙ ap (n ∷◌) ih

  length_removed : (m : Map) → length (remove_dir a m) + nodes_in m ≡ length m
  unfolding remove_dir nodes_in
  length_removed [] = refl
  length_removed (n ∷ r) = go (cmp_name a n.0.0) (length_removed r)
    where
      go : (c : Cmp) → length (remove_dir a r) + nodes_in r ≡ length r → length (case_cmp c (n ∷ remove_dir a r) (remove_dir a r) (n ∷ remove_dir a r)) + case_cmp c (nodes_in r) (suc (nodes_in r)) (nodes_in r) ≡ suc (length r)
      go lt ih = omega arith
      go eq ih = omega arith
      go gt ih = omega arith

module _ (a b : Name) where
  -- The map t with what the listing holds of directory a put in under b.
  unfoldable pub put_all : Map → Map → Map
  put_all [] t = t
  put_all (n ∷ r) t = put_all r (case_cmp (cmp_name a n.0.0) t (put (b, n.0.1) n.1 t) t)

  split : (r t : Map) → Sorted r → Sorted t → rename_dir a b r t ≡ put_all r (del_all a r t)
  unfolding rename_dir put_all del_all
  split [] t s z = refl
  split (n ∷ r) t s z = go (cmp_name a n.0.0) refl (λ u z. split r u s.1 z)
    where
      k : Key
      k = (b, n.0.1)

      apart : (l : Map) → a ≡ n.0.0 → All (Over n.0) l → All (λ x. a ≡ x.0.0 → x.0 ≡ k → ⊥) l
      apart [] e h = tt
      apart (x ∷ l) e h = (λ p q. lt≢eq (sym h.0 ∙ rw (same p q) (key_laws.reflexive n.0)), apart l e h.1)
        where
          same : a ≡ x.0.0 → x.0 ≡ k → x.0 ≡ n.0
          same p q = q ∙ λ i. ((sym (ap (λ (j : Key). j.0) q) ∙ sym p ∙ e) i, n.0.1)

      go : (c : Cmp) → cmp_name a n.0.0 ≡ c → ((u : Map) → Sorted u → rename_dir a b r u ≡ put_all r (del_all a r u)) → rename_dir a b r (case_cmp c t (put k n.1 (del n.0 t)) t) ≡ put_all r (case_cmp c (del_all a r (case_cmp c t (del n.0 t) t)) (put k n.1 (del_all a r (case_cmp c t (del n.0 t) t))) (del_all a r (case_cmp c t (del n.0 t) t)))
      go lt e ih = ih t z
      go eq e ih = ih _ (sorted-put k n.1 (del n.0 t) (sorted-del n.0 t z)) ∙ ap (put_all r) (del_all-put a k n.1 r (del n.0 t) (sorted-del n.0 t z) (apart r (name_laws.equal a n.0.0 e) (above-all n.0 r s.1 s.0)))
      go gt e ih = ih t z

  pub renamed : (m : Map) → Sorted m → rename_dir a b m m ≡ put_all m (remove_dir a m)
  renamed m s = split m m s s ∙ ap (put_all m) (removed a m s)

-- `rename_dir`: what is left of the table t as it stood is put into u; the places that the removed nodes left are enough.
pub record Renaming (src : Bytes) (t u : Table) (from to : NameRef) (i : ℕ) : Type 0 where
  pub sound_now : SoundTable src u
  pub room : length (live u) + nodes_in (name_of src from) (drop i (map_of src t)) ≤ length (live t)
  pub same : put_all (name_of src from) (name_of src to) (drop i (map_of src t)) (map_of src u) ≡ rename_dir (name_of src from) (name_of src to) (map_of src t) (map_of src t)

pub renaming_start : {src : Bytes} {t u : Table} {from to : NameRef} → SoundTable src t → Holds src u (remove_dir (name_of src from) (map_of src t)) → Renaming src t u from to 0
renaming_start {src} {t} {u} {from} {to} s h =
    let a : Name = name_of src from in
    let l = length_removed a (map_of src t) in
    let p : length (live u) ≡ length (remove_dir a (map_of src t)) = sym (length-table src u) ∙ ap length h.same in
    record {
      sound_now = h.sound;
      room = rw (drop-zero (map_of src t)) (omega (arith, length-table src t));
      same = rw (drop-zero (map_of src t), h.same) (sym (renamed a (name_of src to) (map_of src t) s.sorted));
    }

-- The node x at i.
module _ {src : Bytes} {t u : Table} {from to : NameRef} {i : ℕ} {x : Node} (w : Renaming src t u from to i) (s : SoundTable src t) (h : i < length (live t)) (r : x ≡ get_or (live t) i blank) where
  pub node : SoundNode src x
  node = sound-read s h r

  abbrev Of : Bool → Type 0
  Of b = same_bytes (name_of src from) (name_of src x.dir) ≡ b

  abbrev left : Map
  left = drop (i + 1) (map_of src t)

  listed : drop i (map_of src t) ≡ node_of src x ∷ left
  listed = rest_read s h r

  counted : {b : Bool} → Of b → nodes_in (name_of src from) (drop i (map_of src t)) ≡ (if b then suc (nodes_in (name_of src from) left) else nodes_in (name_of src from) left)
  unfolding nodes_in
  counted e = rw listed (by-same (name_of src from) (name_of src x.dir) _ _ e)

  next : {b : Bool} → Of b → put_all (name_of src from) (name_of src to) (drop i (map_of src t)) (map_of src u) ≡ put_all (name_of src from) (name_of src to) left (if b then put (key_of src to x.file) x.number (map_of src u) else map_of src u)
  unfolding put_all
  next e = rw listed (ap (put_all (name_of src from) (name_of src to) left) (by-same (name_of src from) (name_of src x.dir) _ _ e))

  pub other : {v : Table} → Of false → v ≡ u → Renaming src t v from to (i + 1)
  other e p = record {
    sound_now = rw p w.sound_now;
    room = rw (p, ← counted e) w.room;
    same = rw p (sym (next e) ∙ w.same);
  }

  pub moved : {v o : Table} → Of true → v ≡ o → Holds src o (put_in (key_of src to x.file) x.number (map_of src u)) → Renaming src t v from to (i + 1)
  moved {v} {o} e p q =
      let k : Key = key_of src to x.file in
      let c = counted e in
      let l : length (map_of src u) < table_room = omega (arith, length-table src u, w.room, s.room) in
      let z : map_of src o ≡ put k x.number (map_of src u) = q.same ∙ room-put k x.number (map_of src u) l in
      let m : length (map_of src o) ≤ 1 + length (map_of src u) = rw (z, length-size (put k x.number (map_of src u)), length-size (map_of src u)) (size-put_le one k x.number (map_of src u)) in
      record {
        sound_now = rw p q.sound;
        room = rw p (omega (arith, length-table src u, length-table src o, w.room));
        same = rw (p, z) (sym (next e) ∙ w.same);
      }

pub renaming_end : {src : Bytes} {t u : Table} {from to : NameRef} {i : ℕ} → Renaming src t u from to i → length (live t) ≤ i → Holds src u (rename_dir (name_of src from) (name_of src to) (map_of src t) (map_of src t))
unfolding put_all
renaming_end {src} {t} {u} {from} {to} {i} w h = record { sound = w.sound_now; same = rw (finished src t i h) at w.same }
