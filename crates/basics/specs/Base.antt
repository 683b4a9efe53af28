-- Going by cases, and words for lists. No part of document 01.
use Rattle.std.specs.Prelude.{if◌then◌else◌, ◌≡◌, ℕ, zero, suc, List, [], ◌∷◌, ◌++◌, Bool, true, false, ◌&&◌, ◌||◌, ◌⊎◌}
use Rattle.std.proofs.Math.Option.{Option, none, some}
use Rattle.basics.specs.Order.{cmp_name, case_cmp}

abbrev pub Bytes : Type 0
Bytes = List ℕ

-- By cases on an option: the answer for none, and the one for some a.
abbrev pub case_option : {A B : Type 0} → Option A → B → (A → B) → B
case_option none b f = b
case_option (some a) b f = f a

-- The first answer for an empty list, else the second.
abbrev pub if_empty : {A B : Type 0} → List A → B → B → B
if_empty [] a b = a
if_empty (x ∷ l) a b = b

abbrev pub is_some : {A : Type 0} → Option A → Bool
is_some none = false
is_some (some a) = true

-- The list where something is present, or where it is missing; else none of it.
abbrev pub if_present : {A B : Type 0} → Option A → List B → List B
if_present none l = []
if_present (some a) l = l

abbrev pub if_missing : {A B : Type 0} → Option A → List B → List B
if_missing none l = l
if_missing (some a) l = []

abbrev pub same_bytes : Bytes → Bytes → Bool
same_bytes a b = case_cmp (cmp_name a b) false true false

abbrev pub all_of : {A : Type 0} → (A → Bool) → List A → Bool
all_of p [] = true
all_of p (a ∷ l) = p a && all_of p l

abbrev pub any_of : {A : Type 0} → (A → Bool) → List A → Bool
any_of p [] = false
any_of p (a ∷ l) = p a || any_of p l

-- The first element that passes a test, if any.
abbrev pub first_of : {A : Type 0} → (A → Bool) → List A → Option A
first_of p [] = none
first_of p (a ∷ l) = if p a then some a else first_of p l

abbrev pub is_in : Bytes → List Bytes → Bool
is_in n l = any_of (same_bytes n) l

-- A list has at least so many elements.
abbrev pub at_least : {A : Type 0} → ℕ → List A → Bool
at_least zero l = true
at_least (suc k) [] = false
at_least (suc k) (a ∷ l) = at_least k l

abbrev pub flat_map : {A B : Type 0} → (A → List B) → List A → List B
flat_map f [] = []
flat_map f (a ∷ l) = f a ++ flat_map f l

-- Something holds of an element of a list; an element is in a list.
abbrev pub Any : {A : Type 0} → (A → Type 0) → List A → Type 0
Any P [] = ⊥
Any P (b ∷ l) = P b ⊎ Any P l

abbrev pub In : {A : Type 0} → A → List A → Type 0
In a l = Any (λ b. a ≡ b) l
