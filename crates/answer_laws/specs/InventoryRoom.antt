-- No inventory is longer than 20,178 bytes: 2 braces, 133 bytes for each of 16 directories and 141 for each of 128 files. A name of 64 double
-- quotes takes 130 bytes and every other one at most 129; since no name stands twice in a directory, or twice as a directory's, the first takes
-- the byte that a comma would.
use Rattle.std.specs.Prelude.{◌≡◌, Bool, ℕ, suc, ◌+◌, ◌*◌, ◌≤◌, eqb, if◌then◌else◌}
use Rattle.std.proofs.Math.Path.{refl}
use Rattle.std.proofs.Common.{sym, ap, ap₂, subst, ◌∙◌, inl, inr}
use Rattle.std.proofs.Math.Bool.{true, false}
use mathlib.Core.List.{List, [], ◌∷◌, ◌++◌, map}
use Rattle.std.proofs.Math.Option.{some}
use native.Mathlib.Omega.{arith}
use Rattle.std.proofs.Math.ListN.{length, length-append}
use Rattle.std.proofs.lemmas.List.{length-map}
use Rattle.std.proofs.Math.Dec.{leb}
use borrow.Author.Tests.{leb-true, leb-false}
use Rattle.basics.specs.Order.{Name}
use Rattle.basics.specs.Map.{Map}
use Rattle.basics.specs.Base.{Bytes, flat_map, In}
use Rattle.model.specs.Store.{Store, dirs, files, valid_nodes}
use Rattle.model.specs.Image.{decode}
use Rattle.answers.specs.Answers.{decimal}
use Rattle.answers.specs.Inventory.{Collection, contents, collections, escaped, quoted, object, file_member, collection_member, inventory_text}
use Rattle.basic_laws.specs.Tests.{All, eqb-eq, in_all, all_map, all_every}
use Rattle.basic_laws.specs.ValidNames.{Sized, Valid, valid_naming}
use Rattle.laws.specs.ImageLaws.{parts, decode-only}
use Rattle.laws.specs.TreeLaws.{size, is_file, dir-size}
use Rattle.laws.specs.StoreLaws.{Tree}
use Rattle.laws.specs.Listings.{Once, listed-dir, listed-file, files-once, dirs-once}
use Rattle.answer_laws.specs.EntryLaws.{lent-good}
use Rattle.answer_laws.specs.DecimalLaws.{decimal-length}
use Rattle.answer_laws.specs.Collections.{contents-named, ahead, following, by-following}
use Rattle.answer_laws.specs.InventoryReader.{member, files_text}

abbrev pub inventory_room : ℕ
inventory_room = 20_178

-- How long a name is between its quotes.
quoted-length : (n : Name) → length (quoted n) ≡ 2 + length (escaped n)
unfolding quoted
quoted-length n = omega (arith, length-append (escaped n) (0x22 ∷ []))

escaped-length : (n : Name) → length (escaped n) ≤ 2 * length n
unfolding escaped
escaped-length [] = omega arith
escaped-length (b ∷ n) = go (eqb b 0x22) (escaped-length n)
  where
    go : (t : Bool) → length (escaped n) ≤ 2 * length n → length ((if t then 0x5C ∷ 0x22 ∷ [] else b ∷ []) ++ escaped n) ≤ 2 * suc (length n)
    go true ih = omega arith
    go false ih = omega arith

-- A name that takes all it can is of double quotes alone.
full-head : (b : ℕ) (n : Name) → 2 * length (b ∷ n) ≤ length (escaped (b ∷ n)) → (b ≡ 0x22) × (2 * length n ≤ length (escaped n))
unfolding escaped
full-head b n h = go (eqb b 0x22) refl h
  where
    go : (t : Bool) → eqb b 0x22 ≡ t → 2 * suc (length n) ≤ length ((if t then 0x5C ∷ 0x22 ∷ [] else b ∷ []) ++ escaped n) → (b ≡ 0x22) × (2 * length n ≤ length (escaped n))
    go true e l = (eqb-eq b 0x22 e, omega arith)
    go false e l = absurd (omega (arith, escaped-length n))

full-same : (n m : Name) → length n ≡ length m → 2 * length n ≤ length (escaped n) → 2 * length m ≤ length (escaped m) → n ≡ m
full-same [] [] e f g = refl
full-same [] (y ∷ m) e f g = absurd (omega arith)
full-same (x ∷ n) [] e f g = absurd (omega arith)
full-same (x ∷ n) (y ∷ m) e f g =
    let p = full-head x n f in
    let q = full-head y m g in
    ap₂ (λ (b : ℕ) (l : Name). b ∷ l) (p.0 ∙ sym q.0) (full-same n m (omega arith) p.1 q.1)

both-full : (n m : Name) → Sized n → Sized m → 128 ≤ length (escaped n) → 128 ≤ length (escaped m) → n ≡ m
both-full n m s z f g =
    let a = escaped-length n in
    let b = escaped-length m in
    full-same n m (omega (arith, s.1, z.1)) (omega (arith, s.1)) (omega (arith, z.1))

-- The members of an object whose names are sized and stand once.
module _ {A : Type 0} (text : A → Bytes) where
  abbrev total : List (Name × A) → ℕ
  total [] = 0
  total (m ∷ l) = 131 + length (text m.1) + total l

  abbrev more : List (Name × A) → Bytes
  more l = flat_map (λ n. 0x2C ∷ n) (map (member text) l)

  abbrev Named : List (Name × A) → Type 0
  Named l = All (λ m. Sized m.0) l

  member-length : (m : Name × A) → length (member text m) ≡ 3 + length (escaped m.0) + length (text m.1)
  member-length m = omega (arith, quoted-length m.0, length-append (quoted m.0) (0x3A ∷ text m.1))

  more-length : (m : Name × A) (l : List (Name × A)) → length (more (m ∷ l)) ≡ 4 + length (escaped m.0) + length (text m.1) + length (more l)
  more-length m l = omega (arith, member-length m, length-append (member text m) (more l))

  -- Behind a full name none is full.
  behind : (n : Name) → Sized n → 128 ≤ length (escaped n) → (l : List (Name × A)) → Named l → (In n (map (λ m. m.0) l) → ⊥) → length (more l) ≤ total l
  behind n s f [] h o = omega arith
  behind n s f (m ∷ l) h o = go (leb 128 (length (escaped m.0))) refl (behind n s f l h.1 (λ i. o (inr i)))
    where
      go : (t : Bool) → leb 128 (length (escaped m.0)) ≡ t → length (more l) ≤ total l → length (more (m ∷ l)) ≤ total (m ∷ l)
      go true e ih = absurd (o (inl (both-full n m.0 s h.0 f (leb-true 128 (length (escaped m.0)) e))))
      go false e ih = omega (arith, more-length m l, leb-false 128 (length (escaped m.0)) e)

  any : (l : List (Name × A)) → Named l → Once (map (λ m. m.0) l) → length (more l) ≤ 1 + total l
  any [] h o = omega arith
  any (m ∷ l) h o = go (leb 128 (length (escaped m.0))) refl (any l h.1 o.1)
    where
      go : (t : Bool) → leb 128 (length (escaped m.0)) ≡ t → length (more l) ≤ 1 + total l → length (more (m ∷ l)) ≤ 1 + total (m ∷ l)
      go true e ih = omega (arith, more-length m l, escaped-length m.0, h.0.1, behind m.0 h.0 (leb-true 128 (length (escaped m.0)) e) l h.1 o.0)
      go false e ih = omega (arith, more-length m l, leb-false 128 (length (escaped m.0)) e)

  object-size : (m : Bytes) (l : List Bytes) → length (object (m ∷ l)) ≡ 2 + length m + length (flat_map (λ n. 0x2C ∷ n) l)
  unfolding object
  object-size m l = let f : Bytes = flat_map (λ n. 0x2C ∷ n) l in omega (arith, length-append (m ++ f) (0x7D ∷ []), length-append m f)

  object-bound : (l : List (Name × A)) → Named l → Once (map (λ m. m.0) l) → length (object (map (member text) l)) ≤ 2 + total l
  unfolding object
  object-bound [] h o = omega arith
  object-bound (m ∷ l) h o = go (leb 128 (length (escaped m.0))) refl
    where
      go : (t : Bool) → leb 128 (length (escaped m.0)) ≡ t → length (object (map (member text) (m ∷ l))) ≤ 2 + total (m ∷ l)
      go true e = omega (arith, object-size (member text m) (map (member text) l), member-length m, escaped-length m.0, h.0.1, behind m.0 h.0 (leb-true 128 (length (escaped m.0)) e) l h.1 o.0)
      go false e = omega (arith, object-size (member text m) (map (member text) l), member-length m, leb-false 128 (length (escaped m.0)) e, any l h.1 o.1)

-- What holds of the names of members.
unmapped : {A B : Type 0} (P : B → Type 0) (f : A → B) (l : List A) → All P (map f l) → All (λ a. P (f a)) l
unmapped P f [] h = tt
unmapped P f (a ∷ l) h = (h.0, unmapped P f l h.1)

-- The files of one directory.
numbers-total : (l : List (Name × ℕ)) → total (decimal 10) l ≤ 141 * length l
numbers-total [] = omega arith
numbers-total (f ∷ l) = omega (arith, numbers-total l, decimal-length 10 f.1)

files-bound : (t : Map) → Tree Valid t → (d : Name) → length (files_text (contents d t)) ≤ 2 + 141 * length (contents d t)
files-bound t g d =
    let e = contents-named d t in
    let named : All Sized (files d t) = in_all Sized (files d t) (λ f i. valid_naming.sized f (listed-file t g d f i)) in
    let n = unmapped Sized (λ f. f.0) (contents d t) (subst (All Sized) (sym e) named) in
    omega (arith, object-bound (decimal 10) (contents d t) n (subst Once (sym e) (files-once d t g.sorted)), numbers-total (contents d t))

-- All directories.
abbrev count : List Collection → ℕ
count [] = 0
count (c ∷ l) = length c.1 + count l

abbrev Bounded : Collection → Type 0
Bounded c = length (files_text c.1) ≤ 2 + 141 * length c.1

collections-total : (l : List Collection) → All Bounded l → total files_text l ≤ 133 * length l + 141 * count l
collections-total [] h = omega arith
collections-total (c ∷ l) h = omega (arith, h.0, collections-total l h.1)

following-count : (t : Map) → length (ahead t) + count (following t) ≡ size is_file t
unfolding ahead following
following-count [] = refl
following-count (((d, []), x) ∷ r) = omega (arith, following-count r)
following-count (((d, y ∷ ys), x) ∷ r) = omega (arith, following-count r)

pub text-bound : (t : Map) → valid_nodes [] t ≡ true → Tree Valid t → length (inventory_text t) ≤ inventory_room
unfolding inventory_text collection_member file_member collections
text-bound t v g =
    let l : List Collection = collections t in
    let names : map (λ (c : Collection). c.0) l ≡ dirs t = map_id (dirs t) in
    let n = unmapped Sized (λ c. c.0) l (subst (All Sized) (sym names) (in_all Sized (dirs t) (λ d i. valid_naming.sized d (listed-dir t g d i)))) in
    let o = subst Once (sym names) (dirs-once t g.sorted) in
    let b = all_map (λ d. Unit {0}) Bounded (λ d. (d, contents d t)) (λ d u. files-bound t g d) (dirs t) (all_every (λ d. tt) (dirs t)) in
    omega (arith, object-bound files_text l n o, collections-total l b, following-count t, ap count (by-following [] t v g.sorted), length-map {B = Collection} (dirs t) (λ d. (d, contents d t)), dir-size t, g.dirs_fit, g.files_fit)
  where
    map_id : (k : List Name) → map (λ (c : Collection). c.0) (map (λ d. (d, contents d t)) k) ≡ k
    map_id [] = refl
    map_id (d ∷ k) = ap (λ (m : List Name). d ∷ m) (map_id k)

-- The text of an image that is read.
pub inventory-length : (b : Bytes) (s : Store) → decode b ≡ some s → length (inventory_text s.tree) ≤ inventory_room
inventory-length b s d = text-bound s.tree (parts s (decode-only b s d).1).nodes (lent-good b s d).tree
