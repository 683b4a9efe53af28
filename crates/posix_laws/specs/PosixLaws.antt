-- The laws of find, enter and leave; what a directory's names name decides it.
use Rattle.std.specs.Prelude.{◌≡◌}
use Rattle.std.proofs.Math.Path.{refl, sym}
use Rattle.std.proofs.Common.{◌∙◌, ap}
use Rattle.std.proofs.Math.Option.{Option, none, some}
use Rattle.basics.specs.Order.{Cmp, lt, eq, gt, Name, cmp_name, case_cmp}
use Rattle.posix.specs.Posix.{Node, Directory, empty, entry, find, enter, leave}
use Rattle.basic_laws.specs.OrderLaws.{flip, name_laws, lt≢gt, lt≢eq, gt≢eq}
use Rattle.basic_laws.specs.MapLaws.{none≢some, some_inj}
use Rattle.laws.specs.StoreLaws.{name_dec}

-- All names of the directory are above n; its names ascend.
abbrev pub Over : Name → Directory → Type 0
Over n r = (m : Name) (x : Node) → find m r ≡ some x → cmp_name n m ≡ lt

abbrev pub Rising : Directory → Type 0
Rising empty = Unit {0}
Rising (entry n x r) = Over n r × Rising r

pub other_lt : {a b : Name} → cmp_name a b ≡ lt → a ≡ b → ⊥
other_lt {a} {b} e p = lt≢eq (sym e ∙ rw p (name_laws.reflexive b))

pub other_gt : {a b : Name} → cmp_name a b ≡ gt → a ≡ b → ⊥
other_gt {a} {b} e p = gt≢eq (sym e ∙ rw p (name_laws.reflexive b))

pub find_head : (n : Name) (x : Node) (r : Directory) → find n (entry n x r) ≡ some x
unfolding find
find_head n x r = rw (name_laws.reflexive n)

pub find-tail : (k n : Name) (x : Node) (r : Directory) → (k ≡ n → ⊥) → find k (entry n x r) ≡ find k r
unfolding find
find-tail k n x r h = go (cmp_name k n) refl
  where
    go : (c : Cmp) → cmp_name k n ≡ c → case_cmp c (find k r) (some x) (find k r) ≡ find k r
    go lt e = refl
    go eq e = absurd (h (name_laws.equal k n e))
    go gt e = refl

pub find-enter-same : (k : Name) (v : Node) (t : Directory) → find k (enter k v t) ≡ some v
unfolding enter
find-enter-same k v empty = find_head k v empty
find-enter-same k v (entry n x r) = go (find-enter-same k v r) (cmp_name k n) refl
  where
    go : find k (enter k v r) ≡ some v → (c : Cmp) → cmp_name k n ≡ c → find k (case_cmp c (entry k v (entry n x r)) (entry k v r) (entry n x (enter k v r))) ≡ some v
    go ih lt e = find_head k v (entry n x r)
    go ih eq e = find_head k v r
    go ih gt e = find-tail k n x (enter k v r) (other_gt e) ∙ ih

pub find-enter-other : (k j : Name) (v : Node) (t : Directory) → (j ≡ k → ⊥) → find j (enter k v t) ≡ find j t
unfolding enter
find-enter-other k j v empty h = find-tail j k v empty h
find-enter-other k j v (entry n x r) h = go (find-enter-other k j v r h) (cmp_name k n) refl
  where
    go : find j (enter k v r) ≡ find j r → (c : Cmp) → cmp_name k n ≡ c → find j (case_cmp c (entry k v (entry n x r)) (entry k v r) (entry n x (enter k v r))) ≡ find j (entry n x r)
    go ih lt e = find-tail j k v (entry n x r) h
    go ih eq e = find-tail j k v r h ∙ sym (find-tail j n x r (λ p. h (p ∙ sym (name_laws.equal k n e))))
    go ih gt e = unfold find in (rw ih)

pub find-leave-same : (k : Name) (t : Directory) → find k (leave k t) ≡ none
unfolding leave
find-leave-same k empty = unfold find in refl
find-leave-same k (entry n x r) = go (find-leave-same k r) (cmp_name k n) refl
  where
    go : find k (leave k r) ≡ none → (c : Cmp) → cmp_name k n ≡ c → find k (case_cmp c (entry n x (leave k r)) (leave k r) (entry n x (leave k r))) ≡ none
    go ih lt e = find-tail k n x (leave k r) (other_lt e) ∙ ih
    go ih eq e = ih
    go ih gt e = find-tail k n x (leave k r) (other_gt e) ∙ ih

pub find-leave-other : (k j : Name) (t : Directory) → (j ≡ k → ⊥) → find j (leave k t) ≡ find j t
unfolding leave
find-leave-other k j empty h = refl
find-leave-other k j (entry n x r) h = go (find-leave-other k j r h) (cmp_name k n) refl
  where
    go : find j (leave k r) ≡ find j r → (c : Cmp) → cmp_name k n ≡ c → find j (case_cmp c (entry n x (leave k r)) (leave k r) (entry n x (leave k r))) ≡ find j (entry n x r)
    go ih lt e = unfold find in (rw ih)
    go ih eq e = ih ∙ sym (find-tail j n x r (λ p. h (p ∙ sym (name_laws.equal k n e))))
    go ih gt e = unfold find in (rw ih)

pub find-leave-some : (k j : Name) (t : Directory) (x : Node) → find j (leave k t) ≡ some x → find j t ≡ some x
find-leave-some k j t x h = go (name_dec j k)
  where
    go : Dec (j ≡ k) → find j t ≡ some x
    go (yes p) = none≢some (sym (find-leave-same k t) ∙ rw p at h)
    go (no p) = sym (find-leave-other k j t p) ∙ h

pub rising-leave : (k : Name) (t : Directory) → Rising t → Rising (leave k t)
unfolding leave
rising-leave k empty s = s
rising-leave k (entry n x r) s = go (rising-leave k r s.1) (cmp_name k n)
  where
    go : Rising (leave k r) → (c : Cmp) → Rising (case_cmp c (entry n x (leave k r)) (leave k r) (entry n x (leave k r)))
    go ih lt = (λ j y h. s.0 j y (find-leave-some k j r y h), ih)
    go ih eq = ih
    go ih gt = (λ j y h. s.0 j y (find-leave-some k j r y h), ih)

pub rising-enter : (k : Name) (v : Node) (t : Directory) → Rising t → Rising (enter k v t)
unfolding enter
rising-enter k v empty s = (λ j x h. unfold find in (none≢some h), s)
rising-enter k v (entry n x r) s = go (rising-enter k v r s.1) (cmp_name k n) refl
  where
    above : cmp_name k n ≡ lt → Over k (entry n x r)
    above e j y h = at (name_dec j n)
      where
        at : Dec (j ≡ n) → cmp_name k j ≡ lt
        at (yes p) = rw p e
        at (no p) = name_laws.trans k n j e (s.0 j y (sym (find-tail j n x r p) ∙ h))

    go : Rising (enter k v r) → (c : Cmp) → cmp_name k n ≡ c → Rising (case_cmp c (entry k v (entry n x r)) (entry k v r) (entry n x (enter k v r)))
    go ih lt e = (above e, s)
    go ih eq e = (rw (name_laws.equal k n e) s.0, s.1)
    go ih gt e = (λ j y h. at j y h (name_dec j k), ih)
      where
        at : (j : Name) (y : Node) → find j (enter k v r) ≡ some y → Dec (j ≡ k) → cmp_name n j ≡ lt
        at j y h (yes p) = rw p (name_laws.turn k n ∙ ap flip e)
        at j y h (no p) = s.0 j y (sym (find-enter-other k j v r p) ∙ h)

pub find-nothing : (t : Directory) → ((k : Name) → find k t ≡ none) → t ≡ empty
find-nothing empty h = refl
find-nothing (entry n x r) h = none≢some (sym (h n) ∙ find_head n x r)

pub over_none : (k : Name) (r : Directory) → Over k r → find k r ≡ none
over_none k r a = go (find k r) refl
  where
    go : (o : Option Node) → find k r ≡ o → find k r ≡ none
    go none e = e
    go (some x) e = lt≢eq (sym (a k x e) ∙ name_laws.reflexive k)

pub same_entries : (a b : Directory) → Rising a → Rising b → ((k : Name) → find k a ≡ find k b) → a ≡ b
unfolding find
same_entries empty b s t h = sym (find-nothing b (λ k. sym (h k)))
same_entries (entry n x r) empty s t h = find-nothing (entry n x r) (λ k. h k)
same_entries (entry n x r) (entry m y q) s t h = go (λ f. same_entries r q s.1 t.1 f) (name_dec n m)
  where
    tails : n ≡ m → (k : Name) → Dec (k ≡ n) → find k r ≡ find k q
    tails e k (yes p) = rw p (over_none n r s.0 ∙ rw e (sym (over_none m q t.0)))
    tails e k (no p) = sym (find-tail k n x r p) ∙ h k ∙ find-tail k m y q (λ p'. p (p' ∙ sym e))

    go : (((k : Name) → find k r ≡ find k q) → r ≡ q) → Dec (n ≡ m) → entry n x r ≡ entry m y q
    go ih (yes e) =
        let v : x ≡ y = some_inj (sym (find_head n x r) ∙ h n ∙ ap (λ (k : Name). find k (entry m y q)) e ∙ find_head m y q) in
        let w : r ≡ q = ih (λ k. tails e k (name_dec k n)) in
        λ i. entry (e i) (v i) (w i)
    go ih (no e) =
        let a : cmp_name m n ≡ lt = t.0 n x (sym (find-tail n m y q e) ∙ sym (h n) ∙ find_head n x r) in
        let b : cmp_name n m ≡ lt = s.0 m y (sym (find-tail m n x r (λ p. e (sym p))) ∙ h m ∙ find_head m y q) in
        lt≢gt (sym b ∙ name_laws.turn m n ∙ ap flip a)

-- Entering twice, leaving what was entered, and leaving the first entry.
pub enter-enter : (k : Name) (v w : Node) (t : Directory) → Rising t → enter k w (enter k v t) ≡ enter k w t
enter-enter k v w t s = same_entries _ _ (rising-enter k w _ (rising-enter k v t s)) (rising-enter k w t s) λ j. go j (name_dec j k)
  where
    go : (j : Name) → Dec (j ≡ k) → find j (enter k w (enter k v t)) ≡ find j (enter k w t)
    go j (yes p) = rw p (find-enter-same k w (enter k v t) ∙ sym (find-enter-same k w t))
    go j (no p) = find-enter-other k j w (enter k v t) p ∙ find-enter-other k j v t p ∙ sym (find-enter-other k j w t p)

pub leave-enter : (k : Name) (v : Node) (t : Directory) → Rising t → leave k (enter k v t) ≡ leave k t
leave-enter k v t s = same_entries _ _ (rising-leave k _ (rising-enter k v t s)) (rising-leave k t s) λ j. go j (name_dec j k)
  where
    go : (j : Name) → Dec (j ≡ k) → find j (leave k (enter k v t)) ≡ find j (leave k t)
    go j (yes p) = rw p (find-leave-same k (enter k v t) ∙ sym (find-leave-same k t))
    go j (no p) = find-leave-other k j (enter k v t) p ∙ find-enter-other k j v t p ∙ sym (find-leave-other k j t p)

pub leave-head : (n : Name) (x : Node) (r : Directory) → Rising (entry n x r) → leave n (entry n x r) ≡ r
leave-head n x r s = same_entries _ _ (rising-leave n (entry n x r) s) s.1 λ j. go j (name_dec j n)
  where
    go : (j : Name) → Dec (j ≡ n) → find j (leave n (entry n x r)) ≡ find j r
    go j (yes p) = rw p (find-leave-same n (entry n x r) ∙ sym (over_none n r s.0))
    go j (no p) = find-leave-other n j (entry n x r) p ∙ find-tail j n x r p

-- What stands is entered as it stands.
pub enter-same : (k : Name) (v : Node) (t : Directory) → Rising t → find k t ≡ some v → enter k v t ≡ t
enter-same k v t s e = same_entries _ _ (rising-enter k v t s) s λ j. go j (name_dec j k)
  where
    go : (j : Name) → Dec (j ≡ k) → find j (enter k v t) ≡ find j t
    go j (yes p) = rw p (find-enter-same k v t ∙ sym e)
    go j (no p) = find-enter-other k j v t p

-- What is missing is left as it is.
pub leave-absent : (k : Name) (t : Directory) → Rising t → find k t ≡ none → leave k t ≡ t
leave-absent k t s e = same_entries _ _ (rising-leave k t s) s λ j. go j (name_dec j k)
  where
    go : (j : Name) → Dec (j ≡ k) → find j (leave k t) ≡ find j t
    go j (yes p) = rw p (find-leave-same k t ∙ sym e)
    go j (no p) = find-leave-other k j t p
