-- The comparisons of numbers, names and keys are strict total orders.
use Rattle.std.specs.Prelude.{◌≡◌, refl, ℕ, zero, suc, ◌≤◌, ◌<◌, [], ◌∷◌, length, take, drop}
use Rattle.std.proofs.Common.{sym, ◌∙◌, ap, ap₂, arith}
use Prim.Native.Nat.compare
use Rattle.basics.specs.Order.{Cmp, lt, eq, gt, then_cmp, cmp_nat, Name, cmp_name, cmp_key}

-- The comparison of the two the other way round.
abbrev pub flip : Cmp → Cmp
flip lt = gt
flip eq = eq
flip gt = lt

-- The laws that a map needs.
pub record Laws {A : Type 0} (cmp : A → A → Cmp) : Type 0 where
  pub reflexive : (a : A) → cmp a a ≡ eq
  pub equal : (a b : A) → cmp a b ≡ eq → a ≡ b
  pub turn : (a b : A) → cmp b a ≡ flip (cmp a b)
  pub trans : (a b c : A) → cmp a b ≡ lt → cmp b c ≡ lt → cmp a c ≡ lt

pub lt≢gt : {A : Type 0} → lt ≡ gt → A
lt≢gt p = let z : ◌≡◌ {A = ℕ} 0 1 = cc in absurd (omega arith)

pub lt≢eq : {A : Type 0} → lt ≡ eq → A
lt≢eq p = let z : ◌≡◌ {A = ℕ} 0 1 = cc in absurd (omega arith)

pub gt≢eq : {A : Type 0} → gt ≡ eq → A
gt≢eq p = let z : ◌≡◌ {A = ℕ} 0 1 = cc in absurd (omega arith)

pub nat_same : (a : ℕ) → cmp_nat a a ≡ eq
nat_same zero = refl
nat_same (suc a) = rw compare.suc-suc (nat_same a)

nat_equal : (a b : ℕ) → cmp_nat a b ≡ eq → a ≡ b
nat_equal zero zero p = refl
nat_equal zero (suc b) p = lt≢eq (rw compare.zero-suc at p)
nat_equal (suc a) zero p = gt≢eq (rw compare.suc-zero at p)
nat_equal (suc a) (suc b) p = ap suc (nat_equal a b (rw compare.suc-suc at p))

nat_turn : (a b : ℕ) → cmp_nat b a ≡ flip (cmp_nat a b)
nat_turn zero zero = refl
nat_turn zero (suc b) = rw (compare.suc-zero, compare.zero-suc)
nat_turn (suc a) zero = rw (compare.zero-suc, compare.suc-zero)
nat_turn (suc a) (suc b) = rw (compare.suc-suc b a, compare.suc-suc a b) (nat_turn a b)

nat_trans : (a b c : ℕ) → cmp_nat a b ≡ lt → cmp_nat b c ≡ lt → cmp_nat a c ≡ lt
nat_trans zero zero c p q = lt≢eq (sym p)
nat_trans zero (suc b) zero p q = lt≢gt (sym (rw compare.suc-zero at q))
nat_trans zero (suc b) (suc c) p q = rw compare.zero-suc
nat_trans (suc a) zero c p q = lt≢gt (sym (rw compare.suc-zero at p))
nat_trans (suc a) (suc b) zero p q = lt≢gt (sym (rw compare.suc-zero at q))
nat_trans (suc a) (suc b) (suc c) p q = rw compare.suc-suc (nat_trans a b c (rw compare.suc-suc at p) (rw compare.suc-suc at q))

-- The lexicographic pair of two comparisons.
abbrev pub lex : {A B : Type 0} → (A → A → Cmp) → (B → B → Cmp) → A × B → A × B → Cmp
lex f g a b = then_cmp (f a.0 b.0) (g a.1 b.1)

then_eq : (c d : Cmp) → then_cmp c d ≡ eq → (c ≡ eq) × (d ≡ eq)
then_eq lt d p = lt≢eq p
then_eq eq d p = (refl, p)
then_eq gt d p = gt≢eq p

then_flip : (c d : Cmp) → then_cmp (flip c) (flip d) ≡ flip (then_cmp c d)
then_flip lt d = refl
then_flip eq d = refl
then_flip gt d = refl

data Lt2 (c d : Cmp) : Type 0 where
  first : c ≡ lt → Lt2 c d
  second : c ≡ eq → d ≡ lt → Lt2 c d

then_lt : (c d : Cmp) → then_cmp c d ≡ lt → Lt2 c d
then_lt lt d p = first refl
then_lt eq d p = second refl p
then_lt gt d p = lt≢gt (sym p)

module _ {A B : Type 0} (f : A → A → Cmp) (g : B → B → Cmp) (F : Laws f) (G : Laws g) where
  lex-trans : (a b c : A × B) → Lt2 (f a.0 b.0) (g a.1 b.1) → Lt2 (f b.0 c.0) (g b.1 c.1) → lex f g a c ≡ lt
  lex-trans a b c (first p) (first q) = rw (F.trans a.0 b.0 c.0 p q)
  lex-trans a b c (first p) (second q r) =
      let e : b.0 ≡ c.0 = F.equal _ _ q in
      let p' : f a.0 c.0 ≡ lt = rw e at p in rw p'
  lex-trans a b c (second p r) (first q) =
      let e : a.0 ≡ b.0 = F.equal _ _ p in
      let q' : f a.0 c.0 ≡ lt = rw (← e) at q in rw q'
  lex-trans a b c (second p r) (second q r') =
      let e : a.0 ≡ b.0 = F.equal _ _ p in
      let q' : f a.0 c.0 ≡ eq = rw (← e) at q in rw q' (G.trans _ _ _ r r')

  pub lex_laws : Laws (lex f g)
  lex_laws = record {
    reflexive = λ a. rw (F.reflexive a.0) (G.reflexive a.1);
    equal = λ a b p. let h = then_eq _ _ p in λ i. (F.equal a.0 b.0 h.0 i, G.equal a.1 b.1 h.1 i);
    turn = λ a b. rw (F.turn a.0 b.0, G.turn a.1 b.1) (then_flip (f a.0 b.0) (g a.1 b.1));
    trans = λ a b c p q. lex-trans a b c (then_lt _ _ p) (then_lt _ _ q);
  }

-- The comparison of numbers by their order.
pub cmp_less : (a b : ℕ) → a < b → cmp_nat a b ≡ lt
cmp_less a zero h = absurd (omega arith)
cmp_less zero (suc b) h = rw compare.zero-suc
cmp_less (suc a) (suc b) h = rw compare.suc-suc (cmp_less a b (omega arith))

pub cmp_greater : (a b : ℕ) → b < a → cmp_nat a b ≡ gt
cmp_greater a b h = nat_turn b a ∙ ap flip (cmp_less b a h)

pub nat_laws : Laws cmp_nat
nat_laws = record { reflexive = nat_same; equal = nat_equal; turn = nat_turn; trans = nat_trans }

name-same : (a : Name) → cmp_name a a ≡ eq
name-same [] = refl
name-same (x ∷ xs) = rw (nat_same x) (name-same xs)

name-equal : (a b : Name) → cmp_name a b ≡ eq → a ≡ b
name-equal [] [] p = refl
name-equal [] (y ∷ ys) p = lt≢eq p
name-equal (x ∷ xs) [] p = gt≢eq p
name-equal (x ∷ xs) (y ∷ ys) p = let h = then_eq _ _ p in ap₂ ◌∷◌ (nat_equal x y h.0) (name-equal xs ys h.1)

name-turn : (a b : Name) → cmp_name b a ≡ flip (cmp_name a b)
name-turn [] [] = refl
name-turn [] (y ∷ ys) = refl
name-turn (x ∷ xs) [] = refl
name-turn (x ∷ xs) (y ∷ ys) = rw (nat_turn x y, name-turn xs ys) (then_flip (cmp_nat x y) (cmp_name xs ys))

name-trans : (a b c : Name) → cmp_name a b ≡ lt → cmp_name b c ≡ lt → cmp_name a c ≡ lt
name-trans [] [] c p q = q
name-trans [] (y ∷ ys) [] p q = lt≢gt (sym q)
name-trans [] (y ∷ ys) (z ∷ zs) p q = refl
name-trans (x ∷ xs) [] c p q = lt≢gt (sym p)
name-trans (x ∷ xs) (y ∷ ys) [] p q = q
name-trans (x ∷ xs) (y ∷ ys) (z ∷ zs) p q = go (name-trans xs ys zs) (then_lt _ _ p) (then_lt _ _ q)
  where
    go : (cmp_name xs ys ≡ lt → cmp_name ys zs ≡ lt → cmp_name xs zs ≡ lt) → Lt2 (cmp_nat x y) (cmp_name xs ys) → Lt2 (cmp_nat y z) (cmp_name ys zs) → then_cmp (cmp_nat x z) (cmp_name xs zs) ≡ lt
    go ih (first p) (first q) = rw (nat_trans x y z p q)
    go ih (first p) (second q r) = rw (rw (nat_equal y z q) at p)
    go ih (second p r) (first q) = rw (rw (← (nat_equal x y p)) at q)
    go ih (second p r) (second q r') = rw (rw (← (nat_equal x y p)) at q) (ih r r')

pub name_laws : Laws cmp_name
name_laws = record { reflexive = name-same; equal = name-equal; turn = name-turn; trans = name-trans }

pub key_laws : Laws cmp_key
unfolding cmp_key
key_laws = lex_laws cmp_name cmp_name name_laws name_laws

-- What two names have in common at their fronts decides nothing.
pub cmp_drop : (i : ℕ) (a b : Name) → i ≤ length a → i ≤ length b → take i a ≡ take i b → cmp_name a b ≡ cmp_name (drop i a) (drop i b)
cmp_drop zero a b l r e = refl
cmp_drop (suc i) [] b l r e = absurd (omega arith)
cmp_drop (suc i) (x ∷ xs) [] l r e = absurd (omega arith)
cmp_drop (suc i) (x ∷ xs) (y ∷ ys) l r e =
    let h : x ≡ y = cc in
    let t : take i xs ≡ take i ys = cc in
    rw (← h, nat_same x) (cmp_drop i xs ys (omega arith) (omega arith) t)
