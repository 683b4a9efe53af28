-- A key's place in a sorted map, and what look, put and del make of it there.
use mathlib.Core.Path.{◌≡◌, refl, sym, ap, ◌∙◌}
use mathlib.Core.List.{[], ◌∷◌, ◌++◌}
use mathlib.Core.Option.{none, some}
use Prim.Native.Nat.{ℕ, zero, suc, ◌<◌}
use native.Mathlib.Nat.{le_of_suc-le-suc, not-suc-le-zero}
use lib.ListN.{length, take, drop, get_or, take-append-drop}
use lib.Seq.{drop-cons}
use Rattle.basics.specs.Order.{lt, eq, gt, Key, cmp_key}
use Rattle.basics.specs.Map.{Node, Map, look, put, del}
use Rattle.basic_laws.specs.OrderLaws.{flip, key_laws}
use Rattle.basic_laws.specs.MapLaws.{Above, Sorted, look-head}
use Rattle.basic_laws.specs.Tests.{All}
use Rattle.store.specs.Places.{Under, Over, Hit, Gap}
use Rattle.store.proofs.Lists.{all_get_d, drop-zero, all-zero}

pub flipped : (a b : Key) → cmp_key a b ≡ lt → cmp_key b a ≡ gt
flipped a b h = key_laws.turn a b ∙ ap flip h

flipped-back : (a b : Key) → cmp_key a b ≡ gt → cmp_key b a ≡ lt
flipped-back a b h = key_laws.turn a b ∙ ap flip h

-- What stands in the rest of a sorted map is above its first key.
pub above-all : (k : Key) (r : Map) → Sorted r → Above k r → All (Over k) r
above-all k [] s a = tt
above-all k (n ∷ r) s a =
    let h : cmp_key k n.0 ≡ lt = a n.0 n.1 (look-head n r) in
    (h, above-all k r s.1 (λ j x q. key_laws.trans k n.0 j h (s.0 j x q)))

over-trans : (k j : Key) (r : Map) → cmp_key k j ≡ lt → All (Over j) r → All (Over k) r
over-trans k j [] h a = tt
over-trans k j (n ∷ r) h a = (key_laws.trans k j n.0 h a.0, over-trans k j r h a.1)

later : (n : Node) (r : Map) (i : ℕ) (d : Node) → Sorted (n ∷ r) → i < length r → cmp_key n.0 (get_or r i d).0 ≡ lt
later n r i d s h = all_get_d (Over n.0) r i d (above-all n.0 r s.1 s.0) h

-- One node of a sorted map against a key, and what that says of those before and behind it.
module _ (k : Key) where
  pub raise : (m : Map) (i : ℕ) (d : Node) → Sorted m → i < length m → Under k (get_or m i d) → All (Under k) (take (suc i) m)
  raise [] i d s h u = absurd (not-suc-le-zero h)
  raise (n ∷ r) zero d s h u = (u, all-zero (Under k) r)
  raise (n ∷ r) (suc i) d s h u =
      let a : cmp_key n.0 (get_or r i d).0 ≡ lt = later n r i d s (le_of_suc-le-suc h) in
      (flipped n.0 k (key_laws.trans _ _ _ a (flipped-back k _ u)), raise r i d s.1 (le_of_suc-le-suc h) u)

  pub lower : (m : Map) (i : ℕ) (d : Node) → Sorted m → i < length m → Over k (get_or m i d) → All (Over k) (drop i m)
  lower [] i d s h o = absurd (not-suc-le-zero h)
  lower (n ∷ r) zero d s h o = (o, over-trans k n.0 r o (above-all n.0 r s.1 s.0))
  lower (n ∷ r) (suc i) d s h o = lower r i d s.1 (le_of_suc-le-suc h) o

  before : (m : Map) (i : ℕ) (d : Node) → Sorted m → i < length m → (get_or m i d).0 ≡ k → All (Under k) (take i m)
  before [] i d s h e = absurd (not-suc-le-zero h)
  before (n ∷ r) zero d s h e = tt
  before (n ∷ r) (suc i) d s h e = (flipped n.0 k (rw e at (later n r i d s (le_of_suc-le-suc h))), before r i d s.1 (le_of_suc-le-suc h) e)

  behind : (m : Map) (i : ℕ) (d : Node) → Sorted m → i < length m → (get_or m i d).0 ≡ k → All (Over k) (drop (suc i) m)
  behind [] i d s h e = absurd (not-suc-le-zero h)
  behind (n ∷ r) zero d s h e = rw (← e) (rw (drop-zero r) (above-all n.0 r s.1 s.0))
  behind (n ∷ r) (suc i) d s h e = behind r i d s.1 (le_of_suc-le-suc h) e

  pub hit-at : (m : Map) (i : ℕ) (d : Node) → Sorted m → i < length m → cmp_key k (get_or m i d).0 ≡ eq → Hit k (get_or m i d).1 m i
  hit-at m i d s h c =
      let e : (get_or m i d).0 ≡ k = sym (key_laws.equal k (get_or m i d).0 c) in
      record {
        within = h;
        under = before m i d s h e;
        here = drop-cons m i d h ∙ ap (λ (j : Key). (j, (get_or m i d).1) ∷ drop (suc i) m) e;
        over = behind m i d s h e;
      }

  -- Nodes below the key are passed.
  look-under : (a b : Map) → All (Under k) a → look k (a ++ b) ≡ look k b
  unfolding look
  look-under [] b h = refl
  look-under (n ∷ a) b h = rw h.0 (look-under a b h.1)

  put_under : (v : ℕ) (a b : Map) → All (Under k) a → put k v (a ++ b) ≡ a ++ put k v b
  unfolding put
  put_under v [] b h = refl
  put_under v (n ∷ a) b h = rw h.0 (ap (n ∷◌) (put_under v a b h.1))

  del-under : (a b : Map) → All (Under k) a → del k (a ++ b) ≡ a ++ del k b
  unfolding del
  del-under [] b h = refl
  del-under (n ∷ a) b h = rw h.0 (ap (n ∷◌) (del-under a b h.1))

  -- Nodes above the key stay behind it.
  look-over : (b : Map) → All (Over k) b → look k b ≡ none
  unfolding look
  look-over [] h = refl
  look-over (n ∷ b) h = rw h.0 (look-over b h.1)

  put-over : (v : ℕ) (b : Map) → All (Over k) b → put k v b ≡ (k, v) ∷ b
  unfolding put
  put-over v [] h = refl
  put-over v (n ∷ b) h = rw h.0

  pub del-over : (b : Map) → All (Over k) b → del k b ≡ b
  unfolding del
  del-over [] h = refl
  del-over (n ∷ b) h = rw h.0 (ap (n ∷◌) (del-over b h.1))

  module _ {m : Map} {i : ℕ} (g : Gap k m i) where
    whole : m ≡ take i m ++ drop i m
    whole = sym (take-append-drop i m)

    pub look-gap : look k m ≡ none
    look-gap = ap (look k) whole ∙ look-under (take i m) (drop i m) g.under ∙ look-over (drop i m) g.over

    pub put-gap : (v : ℕ) → put k v m ≡ take i m ++ (k, v) ∷ drop i m
    put-gap v = ap (put k v) whole ∙ put_under v (take i m) (drop i m) g.under ∙ ap (take i m ++◌) (put-over v (drop i m) g.over)

    pub del-gap : del k m ≡ m
    del-gap = ap (del k) whole ∙ del-under (take i m) (drop i m) g.under ∙ ap (take i m ++◌) (del-over (drop i m) g.over) ∙ sym whole

  module _ {m : Map} {i v : ℕ} (g : Hit k v m i) where
    split : m ≡ take i m ++ (k, v) ∷ drop (suc i) m
    split = sym (take-append-drop i m) ∙ ap (take i m ++◌) g.here

    pub look_hit : look k m ≡ some v
    look_hit = ap (look k) split ∙ look-under (take i m) _ g.under ∙ look-head (k, v) (drop (suc i) m)

    pub put-hit : (w : ℕ) → put k w m ≡ take i m ++ (k, w) ∷ drop (suc i) m
    put-hit w = ap (put k w) split ∙ put_under w (take i m) _ g.under ∙ ap (take i m ++◌) (unfold put in rw (key_laws.reflexive k))

    pub del-hit : del k m ≡ take i m ++ drop (suc i) m
    del-hit = ap (del k) split ∙ del-under (take i m) _ g.under ∙ ap (take i m ++◌) (unfold del in rw (key_laws.reflexive k) (del-over (drop (suc i) m) g.over))
