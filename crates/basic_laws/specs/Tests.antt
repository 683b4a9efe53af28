-- What a test that passed says, and back.
use Rattle.std.specs.Prelude.{◌≡◌, refl, ℕ, zero, suc, ◌≤◌, List, [], ◌∷◌, ◌++◌, map, Bool, true, false, not, ◌&&◌, ◌||◌, take, drop, get_or, T, leb, eqb}
use Rattle.std.proofs.Common.{sym, subst, arith, leb→le, le→leb, eqb→eq, inl, inr}
use Rattle.std.proofs.lemmas.Bool.{false≢true}
use Rattle.basics.specs.Base.{Bytes, same_bytes, all_of, is_in, In}
use Rattle.basics.specs.Order.{Cmp, lt, eq, gt, cmp_name}
use Rattle.basic_laws.specs.OrderLaws.{name_laws}
use Rattle.basics.specs.Order.{case_cmp}

pub nil≢cons : {A B : Type 0} {x : B} {l : List B} → [] ≡ x ∷ l → A
nil≢cons {B = B} {x = x} {l = l} p = let z : ◌≡◌ {A = ℕ} 0 1 = cc in absurd (omega arith)

pub to_T : {b : Bool} → b ≡ true → T b
to_T {b} e = subst (λ (c : Bool). T c) (sym e) tt

pub of_T : (b : Bool) → T b → b ≡ true
of_T true t = refl
of_T false t = absurd t

pub and_both : (a b : Bool) → (a && b) ≡ true → (a ≡ true) × (b ≡ true)
and_both true b e = (refl, e)
and_both false b e = absurd (false≢true e)

pub and_made : (a b : Bool) → a ≡ true → b ≡ true → (a && b) ≡ true
and_made true b e f = f
and_made false b e f = absurd (false≢true e)

pub leb_le : (m n : ℕ) → leb m n ≡ true → m ≤ n
leb_le m n e = leb→le m n (to_T e)

pub le-leb : (m n : ℕ) → m ≤ n → leb m n ≡ true
le-leb m n h = of_T (leb m n) (le→leb m n h)

pub eqb-eq : (m n : ℕ) → eqb m n ≡ true → m ≡ n
eqb-eq m n e = eqb→eq m n (to_T e)

pub same-eq : (a b : Bytes) → same_bytes a b ≡ true → a ≡ b
same-eq a b p = go (cmp_name a b) refl p
  where
    go : (c : Cmp) → cmp_name a b ≡ c → case_cmp c false true false ≡ true → a ≡ b
    go lt e p = absurd (false≢true p)
    go eq e p = name_laws.equal a b e
    go gt e p = absurd (false≢true p)

pub same_refl : (a : Bytes) → same_bytes a a ≡ true
same_refl a = rw (name_laws.reflexive a)

pub not-true : (b : Bool) → (b ≡ true → ⊥) → not b ≡ true
not-true true h = absurd (h refl)
not-true false h = refl

pub true-not : (b : Bool) → not b ≡ true → b ≡ true → ⊥
true-not true e p = false≢true e
true-not false e p = false≢true p

pub in_of : (n : Bytes) (l : List Bytes) → is_in n l ≡ true → In n l
in_of n [] e = absurd (false≢true e)
in_of n (a ∷ l) e = go (same_bytes n a) refl e (λ z. in_of n l z)
  where
    go : (t : Bool) → same_bytes n a ≡ t → (t || is_in n l) ≡ true → (is_in n l ≡ true → In n l) → In n (a ∷ l)
    go true p e ih = inl (same-eq n a p)
    go false p e ih = inr (ih e)

pub of_in : (n : Bytes) (l : List Bytes) → In n l → is_in n l ≡ true
of_in n [] i = elim i [ ]
of_in n (a ∷ l) (inl p) = rw (p, same_refl a)
of_in n (a ∷ l) (inr i) = go (same_bytes n a) (of_in n l i)
  where
    go : (t : Bool) → is_in n l ≡ true → (t || is_in n l) ≡ true
    go true e = refl
    go false e = e

-- What holds of every element of a list.
abbrev pub All : {A : Type 0} → (A → Type 0) → List A → Type 0
All P [] = Unit {0}
All P (a ∷ l) = P a × All P l

pub all_append : {A : Type 0} (P : A → Type 0) (l r : List A) → All P l → All P r → All P (l ++ r)
all_append P [] r p q = q
all_append P (a ∷ l) r p q = (p.0, all_append P l r p.1 q)

pub all_in : {A : Type 0} (P : A → Type 0) (l : List A) → All P l → (a : A) → In a l → P a
all_in P [] h a i = elim i [ ]
all_in P (b ∷ l) h a (inl e) = subst P (sym e) h.0
all_in P (b ∷ l) h a (inr i) = all_in P l h.1 a i

pub in_all : {A : Type 0} (P : A → Type 0) (l : List A) → ((a : A) → In a l → P a) → All P l
in_all P [] h = tt
in_all P (a ∷ l) h = (h a (inl refl), in_all P l (λ b i. h b (inr i)))

pub all-of : {A : Type 0} (p : A → Bool) (l : List A) → all_of p l ≡ true → All (λ a. p a ≡ true) l
all-of p [] e = tt
all-of p (a ∷ l) e = let h = and_both (p a) (all_of p l) e in (h.0, all-of p l h.1)

pub of-all : {A : Type 0} (p : A → Bool) (l : List A) → All (λ a. p a ≡ true) l → all_of p l ≡ true
of-all p [] h = refl
of-all p (a ∷ l) h = and_made (p a) (all_of p l) h.0 (of-all p l h.1)

pub all_every : {A : Type 0} {P : A → Type 0} → ((a : A) → P a) → (l : List A) → All P l
all_every h [] = tt
all_every h (a ∷ l) = (h a, all_every h l)

pub all_both : {A : Type 0} (P Q : A → Type 0) (l : List A) → All P l → All Q l → All (λ a. P a × Q a) l
all_both P Q [] p q = tt
all_both P Q (a ∷ l) p q = ((p.0, q.0), all_both P Q l p.1 q.1)

pub all_imp : {A : Type 0} {P Q : A → Type 0} → ((a : A) → P a → Q a) → (l : List A) → All P l → All Q l
all_imp h [] p = tt
all_imp h (a ∷ l) p = (h a p.0, all_imp h l p.1)

pub all_map : {A B : Type 0} (P : A → Type 0) (Q : B → Type 0) (f : A → B) → ((a : A) → P a → Q (f a)) → (l : List A) → All P l → All Q (map f l)
all_map P Q f h [] p = tt
all_map P Q f h (a ∷ l) p = (h a p.0, all_map P Q f h l p.1)

pub all-of_append : {A : Type 0} (p : A → Bool) (l r : List A) → all_of p l ≡ true → all_of p r ≡ true → all_of p (l ++ r) ≡ true
all-of_append p l r h k = of-all p (l ++ r) (all_append (λ a. p a ≡ true) l r (all-of p l h) (all-of p r k))

pub all-of-front : {A : Type 0} (p : A → Bool) (l r : List A) → all_of p (l ++ r) ≡ true → all_of p l ≡ true
all-of-front p [] r h = refl
all-of-front p (a ∷ l) r h = let k = and_both (p a) (all_of p (l ++ r)) h in and_made (p a) (all_of p l) k.0 (all-of-front p l r k.1)

-- What holds of a list holds of its parts.
pub all_take : {A : Type 0} (P : A → Type 0) (n : ℕ) (l : List A) → All P l → All P (take n l)
all_take P zero [] h = tt
all_take P zero (x ∷ l) h = tt
all_take P (suc n) [] h = tt
all_take P (suc n) (x ∷ l) h = (h.0, all_take P n l h.1)

pub all_drop : {A : Type 0} (P : A → Type 0) (n : ℕ) (l : List A) → All P l → All P (drop n l)
all_drop P zero [] h = tt
all_drop P zero (x ∷ l) h = h
all_drop P (suc n) [] h = tt
all_drop P (suc n) (x ∷ l) h = all_drop P n l h.1

-- What holds at every place of a list, and of what stands past its end, holds of every element.
pub all-at : {A : Type 0} (P : A → Type 0) (d : A) (l : List A) → ((i : ℕ) → P (get_or l i d)) → All P l
all-at P d [] h = tt
all-at P d (a ∷ l) h = (h 0, all-at P d l (λ i. h (suc i)))
