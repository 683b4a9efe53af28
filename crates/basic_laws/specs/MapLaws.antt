-- The laws of look, put and del; the looks decide a sorted map.
use Rattle.std.specs.Prelude.{◌≡◌, ℕ, [], ◌∷◌}
use Rattle.std.proofs.Math.Path.{refl, sym}
use Rattle.std.proofs.Common.{◌∙◌, ap, ap₂, arith}
use Rattle.std.proofs.Math.Option.{Option, none, some}
use Rattle.basics.specs.Order.{Cmp, lt, eq, gt, Key, cmp_key, case_cmp}
use Rattle.basics.specs.Map.{Node, Map, look, put, del}
use Rattle.basic_laws.specs.Tests.{All}
use Rattle.basic_laws.specs.OrderLaws.{flip, key_laws, lt≢gt, lt≢eq, gt≢eq}

-- All keys of the map are above k.
abbrev pub Above : Key → Map → Type 0
Above k m = (j : Key) (x : ℕ) → look j m ≡ some x → cmp_key k j ≡ lt

abbrev pub Sorted : Map → Type 0
Sorted [] = Unit {0}
Sorted (n ∷ r) = Above n.0 r × Sorted r

pub none≢some : {A B : Type 0} {x : B} → none ≡ some x → A
none≢some {B = B} {x = x} p = let z : ◌≡◌ {A = ℕ} 0 1 = cc in absurd (omega arith)

pub some_inj : {B : Type 0} {x y : B} → some x ≡ some y → x ≡ y
some_inj {B} {x} {y} p = cc

pub key_dec : (a b : Key) → Dec (a ≡ b)
key_dec a b = go (cmp_key a b) refl
  where
    go : (c : Cmp) → cmp_key a b ≡ c → Dec (a ≡ b)
    go lt e = no (λ p. lt≢eq (sym e ∙ rw p (key_laws.reflexive b)))
    go eq e = yes (key_laws.equal a b e)
    go gt e = no (λ p. gt≢eq (sym e ∙ rw p (key_laws.reflexive b)))

-- What a comparison does with two different keys.
on-other : {A : Type 0} {k j : Key} → (k ≡ j → ⊥) → (a b : A) → case_cmp (cmp_key k j) a b a ≡ a
on-other {A} {k} {j} h a b = go (cmp_key k j) refl
  where
    go : (c : Cmp) → cmp_key k j ≡ c → case_cmp c a b a ≡ a
    go lt e = refl
    go eq e = absurd (h (key_laws.equal k j e))
    go gt e = refl

pub look-head : (n : Node) (r : Map) → look n.0 (n ∷ r) ≡ some n.1
unfolding look
look-head n r = rw (key_laws.reflexive n.0)

pub look-tail : (k : Key) (n : Node) (r : Map) → (k ≡ n.0 → ⊥) → look k (n ∷ r) ≡ look k r
unfolding look
look-tail k n r h = on-other h (look k r) (some n.1)

pub look-put-same : (k : Key) (v : ℕ) (m : Map) → look k (put k v m) ≡ some v
unfolding put
look-put-same k v [] = look-head (k, v) []
look-put-same k v (n ∷ r) = go (look-put-same k v r) (cmp_key k n.0) refl
  where
    go : look k (put k v r) ≡ some v → (c : Cmp) → cmp_key k n.0 ≡ c → look k (case_cmp c ((k, v) ∷ n ∷ r) ((k, v) ∷ r) (n ∷ put k v r)) ≡ some v
    go ih lt e = look-head (k, v) (n ∷ r)
    go ih eq e = look-head (k, v) r
    go ih gt e = look-tail k n (put k v r) (λ p. gt≢eq (sym e ∙ rw p (key_laws.reflexive n.0))) ∙ ih

pub look-put-other : (k j : Key) (v : ℕ) (m : Map) → (j ≡ k → ⊥) → look j (put k v m) ≡ look j m
unfolding put
look-put-other k j v [] h = look-tail j (k, v) [] h
look-put-other k j v (n ∷ r) h = go (look-put-other k j v r h) (cmp_key k n.0) refl
  where
    go : look j (put k v r) ≡ look j r → (c : Cmp) → cmp_key k n.0 ≡ c → look j (case_cmp c ((k, v) ∷ n ∷ r) ((k, v) ∷ r) (n ∷ put k v r)) ≡ look j (n ∷ r)
    go ih lt e = look-tail j (k, v) (n ∷ r) h
    go ih eq e = look-tail j (k, v) r h ∙ sym (look-tail j n r (λ p. h (p ∙ sym (key_laws.equal _ _ e))))
    go ih gt e = unfold look in (rw ih)

pub look-del-same : (k : Key) (m : Map) → look k (del k m) ≡ none
unfolding del
look-del-same k [] = unfold look in refl
look-del-same k (n ∷ r) = go (look-del-same k r) (cmp_key k n.0) refl
  where
    go : look k (del k r) ≡ none → (c : Cmp) → cmp_key k n.0 ≡ c → look k (case_cmp c (n ∷ del k r) (del k r) (n ∷ del k r)) ≡ none
    go ih lt e = look-tail k n (del k r) (λ p. lt≢eq (sym e ∙ rw p (key_laws.reflexive n.0))) ∙ ih
    go ih eq e = ih
    go ih gt e = look-tail k n (del k r) (λ p. gt≢eq (sym e ∙ rw p (key_laws.reflexive n.0))) ∙ ih

pub look-del-other : (k j : Key) (m : Map) → (j ≡ k → ⊥) → look j (del k m) ≡ look j m
unfolding del
look-del-other k j [] h = refl
look-del-other k j (n ∷ r) h = go (look-del-other k j r h) (cmp_key k n.0) refl
  where
    go : look j (del k r) ≡ look j r → (c : Cmp) → cmp_key k n.0 ≡ c → look j (case_cmp c (n ∷ del k r) (del k r) (n ∷ del k r)) ≡ look j (n ∷ r)
    go ih lt e = unfold look in (rw ih)
    go ih eq e = ih ∙ sym (look-tail j n r (λ p. h (p ∙ sym (key_laws.equal _ _ e))))
    go ih gt e = unfold look in (rw ih)

-- What stands after a removal stood before.
pub look-del-some : (k j : Key) (m : Map) (x : ℕ) → look j (del k m) ≡ some x → look j m ≡ some x
look-del-some k j m x h = go (key_dec j k)
  where
    go : Dec (j ≡ k) → look j m ≡ some x
    go (yes p) = none≢some (sym (look-del-same k m) ∙ rw p at h)
    go (no p) = sym (look-del-other k j m p) ∙ h

pub sorted-del : (k : Key) (m : Map) → Sorted m → Sorted (del k m)
unfolding del
sorted-del k [] s = s
sorted-del k (n ∷ r) s = go (sorted-del k r s.1) (cmp_key k n.0)
  where
    go : Sorted (del k r) → (c : Cmp) → Sorted (case_cmp c (n ∷ del k r) (del k r) (n ∷ del k r))
    go ih lt = (λ j x h. s.0 j x (look-del-some k j r x h), ih)
    go ih eq = ih
    go ih gt = (λ j x h. s.0 j x (look-del-some k j r x h), ih)

pub sorted-put : (k : Key) (v : ℕ) (m : Map) → Sorted m → Sorted (put k v m)
unfolding put
sorted-put k v [] s = (λ j x h. unfold look in (none≢some h), s)
sorted-put k v (n ∷ r) s = go (sorted-put k v r s.1) (cmp_key k n.0) refl
  where
    above : cmp_key k n.0 ≡ lt → Above k (n ∷ r)
    above e j x h = at (key_dec j n.0)
      where
        at : Dec (j ≡ n.0) → cmp_key k j ≡ lt
        at (yes p) = rw p e
        at (no p) = key_laws.trans _ _ _ e (s.0 j x (sym (look-tail j n r p) ∙ h))

    go : Sorted (put k v r) → (c : Cmp) → cmp_key k n.0 ≡ c → Sorted (case_cmp c ((k, v) ∷ n ∷ r) ((k, v) ∷ r) (n ∷ put k v r))
    go ih lt e = (above e, s)
    go ih eq e = (rw (key_laws.equal _ _ e) s.0, s.1)
    go ih gt e = (λ j x h. at j x h (key_dec j k), ih)
      where
        at : (j : Key) (x : ℕ) → look j (put k v r) ≡ some x → Dec (j ≡ k) → cmp_key n.0 j ≡ lt
        at j x h (yes p) = rw p (key_laws.turn k n.0 ∙ ap flip e)
        at j x h (no p) = s.0 j x (sym (look-put-other k j v r p) ∙ h)

-- No key stands: the map is empty.
pub look-nil : (m : Map) → ((k : Key) → look k m ≡ none) → m ≡ []
look-nil [] h = refl
look-nil (n ∷ r) h = none≢some (sym (h n.0) ∙ look-head n r)

pub above-none : (k : Key) (r : Map) → Above k r → look k r ≡ none
above-none k r a = go (look k r) refl
  where
    go : (o : Option ℕ) → look k r ≡ o → look k r ≡ none
    go none e = e
    go (some x) e = lt≢eq (sym (a k x e) ∙ key_laws.reflexive k)

pub ext : (a b : Map) → Sorted a → Sorted b → ((k : Key) → look k a ≡ look k b) → a ≡ b
unfolding look
ext [] b s t h = sym (look-nil b (λ k. sym (h k)))
ext (n ∷ r) [] s t h = look-nil (n ∷ r) (λ k. h k)
ext (n ∷ r) (m ∷ q) s t h = go (λ f. ext r q s.1 t.1 f) (key_dec n.0 m.0)
  where
    tails : n.0 ≡ m.0 → (k : Key) → Dec (k ≡ n.0) → look k r ≡ look k q
    tails e k (yes p) = rw p (above-none n.0 r s.0 ∙ rw e (sym (above-none m.0 q t.0)))
    tails e k (no p) = sym (look-tail k n r p) ∙ h k ∙ look-tail k m q (λ p'. p (p' ∙ sym e))

    go : (((k : Key) → look k r ≡ look k q) → r ≡ q) → Dec (n.0 ≡ m.0) → n ∷ r ≡ m ∷ q
    go ih (yes e) =
        let v : n.1 ≡ m.1 = some_inj (sym (look-head n r) ∙ h n.0 ∙ ap (λ (k : Key). look k (m ∷ q)) e ∙ look-head m q) in
        ap₂ ◌∷◌ (λ i. (e i, v i)) (ih (λ k. tails e k (key_dec k n.0)))
    go ih (no e) =
        let a : cmp_key m.0 n.0 ≡ lt = t.0 n.0 n.1 (sym (look-tail n.0 m q e) ∙ sym (h n.0) ∙ look-head n r) in
        let b : cmp_key n.0 m.0 ≡ lt = s.0 m.0 m.1 (sym (look-tail m.0 n r (λ p. e (sym p))) ∙ h m.0 ∙ look-head m q) in
        lt≢gt (sym b ∙ key_laws.turn m.0 n.0 ∙ ap flip a)

-- Removing what is missing changes nothing.
pub del-absent : (k : Key) (m : Map) → Sorted m → look k m ≡ none → del k m ≡ m
del-absent k m s h = ext (del k m) m (sorted-del k m s) s λ j. go j (key_dec j k)
  where
    go : (j : Key) → Dec (j ≡ k) → look j (del k m) ≡ look j m
    go j (yes p) = rw p (look-del-same k m ∙ sym h)
    go j (no p) = look-del-other k j m p

-- What was removed is put back.
pub put_back : (k : Key) (x : ℕ) (t : Map) → Sorted t → look k t ≡ some x → put k x (del k t) ≡ t
put_back k x t s e = ext _ t (sorted-put k x _ (sorted-del k t s)) s (λ j. at j (key_dec j k))
  where
    at : (j : Key) → Dec (j ≡ k) → look j (put k x (del k t)) ≡ look j t
    at j (yes q) = rw q (look-put-same k x (del k t) ∙ sym e)
    at j (no q) = look-put-other k j x (del k t) q ∙ look-del-other k j t q

-- Of two puts at one place the second counts; a number that stands there is put to no effect.
pub put-put : (k : Key) (x y : ℕ) (t : Map) → Sorted t → put k y (put k x t) ≡ put k y t
put-put k x y t s = ext (put k y (put k x t)) (put k y t) (sorted-put k y (put k x t) (sorted-put k x t s)) (sorted-put k y t s) λ j. at j (key_dec j k)
  where
    at : (j : Key) → Dec (j ≡ k) → look j (put k y (put k x t)) ≡ look j (put k y t)
    at j (yes p) = rw p (look-put-same k y (put k x t) ∙ sym (look-put-same k y t))
    at j (no p) = look-put-other k j y (put k x t) p ∙ look-put-other k j x t p ∙ sym (look-put-other k j y t p)

pub put_same : (k : Key) (x : ℕ) (t : Map) → Sorted t → look k t ≡ some x → put k x t ≡ t
put_same k x t s e = ext (put k x t) t (sorted-put k x t s) s λ j. at j (key_dec j k)
  where
    at : (j : Key) → Dec (j ≡ k) → look j (put k x t) ≡ look j t
    at j (yes p) = rw p (look-put-same k x t ∙ sym e)
    at j (no p) = look-put-other k j x t p

-- A removal and a put at different places, in either order.
pub commute : (k j : Key) (v : ℕ) (t : Map) → Sorted t → (j ≡ k → ⊥) → del j (put k v t) ≡ put k v (del j t)
commute k j v t s h = ext _ _ (sorted-del j (put k v t) (sorted-put k v t s)) (sorted-put k v (del j t) (sorted-del j t s)) λ i. go i (key_dec i k) (key_dec i j)
  where
    go : (i : Key) → Dec (i ≡ k) → Dec (i ≡ j) → look i (del j (put k v t)) ≡ look i (put k v (del j t))
    go i (yes p) q = rw p (look-del-other j k (put k v t) (λ e. h (sym e)) ∙ look-put-same k v t ∙ sym (look-put-same k v (del j t)))
    go i (no p) (yes q) = rw q (look-del-same j (put k v t) ∙ sym (look-put-other k j v (del j t) h ∙ look-del-same j t))
    go i (no p) (no q) = look-del-other j i (put k v t) q ∙ look-put-other k i v t p ∙ sym (look-put-other k i v (del j t) p ∙ look-del-other j i t q)

-- What holds of every look, and of every node of a list.
pub all-look : (P : Key → ℕ → Type 0) (m : Map) → All (λ n. P n.0 n.1) m → (k : Key) (x : ℕ) → look k m ≡ some x → P k x
all-look P [] h k x e = unfold look in (none≢some e)
all-look P (n ∷ r) h k x e = go (λ e. all-look P r h.1 k x e) (key_dec k n.0)
  where
    go : (look k r ≡ some x → P k x) → Dec (k ≡ n.0) → P k x
    go ih (yes z) =
        let c : x ≡ n.1 = some_inj (sym e ∙ rw z (look-head n r)) in
        rw (z, c) h.0
    go ih (no z) = ih (sym (look-tail k n r z) ∙ e)

pub look-all : (P : Key → ℕ → Type 0) (m : Map) → Sorted m → ((k : Key) (x : ℕ) → look k m ≡ some x → P k x) → All (λ n. P n.0 n.1) m
look-all P [] s h = tt
look-all P (n ∷ r) s h = (h n.0 n.1 (look-head n r), look-all P r s.1 (λ k x e. h k x (look-tail k n r (λ z. lt≢eq (sym (s.0 k x e) ∙ rw z (key_laws.reflexive n.0))) ∙ e)))
