-- A reader can trust the inventory's text: a small reader of this JSON gives the directories with their files and numbers back. So no name breaks
-- out of its quotes.
use Rattle.std.specs.Prelude.{◌≡◌, Bool, true, false, not, ◌&&◌, leb, eqb, if◌then◌else◌}
use Rattle.std.proofs.Math.Path.{refl, ap}
use Rattle.std.proofs.Common.{sym, ◌∙◌, arith, le-leb, leb-true, leb-false}
use mathlib.Core.List.{List, [], ◌∷◌, ◌++◌, map, append-nil, append_assoc}
use Rattle.std.proofs.Math.Option.{Option, none, some}
use Prim.Native.Nat.{ℕ, zero, suc, ◌+◌, ◌*◌, ◌-◌, ◌/◌, ◌%◌, ◌≤◌, ◌<◌}
use Rattle.std.proofs.Math.ListN.{length, length-append}
use Rattle.std.proofs.Math.Seq.{append_snoc}
use Rattle.basics.specs.Order.{Cmp, lt, eq, gt, Name, cmp_name, case_cmp}
use Rattle.basics.specs.Map.{Map}
use Rattle.basics.specs.Base.{Bytes, case_option, if_empty, all_of, flat_map}
use Rattle.basics.specs.Name.{is_name_byte}
use Rattle.model.specs.Store.{Store, dirs, valid_number}
use Rattle.model.specs.Image.{decode}
use Rattle.answers.specs.Answers.{decimal}
use Rattle.answers.specs.Inventory.{Collection, contents, collections, escaped, quoted, object, file_member, collection_member, inventory_text}
use Rattle.basic_laws.specs.Tests.{All, and_both, eqb-eq, all_map, in_all, all_imp, nil≢cons}
use Rattle.basic_laws.specs.MapLaws.{look-all}
use Rattle.basic_laws.specs.ValidNames.{Valid, valid-bytes}
use Rattle.laws.specs.ImageLaws.{number_le}
use Rattle.laws.specs.TreeLaws.{NodeGood}
use Rattle.laws.specs.StoreLaws.{Tree}
use Rattle.laws.specs.Listings.{listed-dir}
use Rattle.answer_laws.specs.EntryLaws.{lent-good}
use Rattle.answer_laws.specs.DecimalLaws.{one-digit, more_digits, tens}

-- What is read at the front of some bytes, and what is left of them.
abbrev pub Reader : Type 0 → Type 0
Reader A = Bytes → Option (A × Bytes)

-- A string behind its opening quote, up to the next quote without a backslash before it; behind a backslash only a quote is read. The backslash is
-- taken away.
unfoldable pub read_string : Bool → Reader Name
read_string behind [] = none
read_string true (b ∷ r) = let rest = read_string false r in if eqb b 0x22 then case_option rest none (λ p. some (b ∷ p.0, p.1)) else none
read_string false (b ∷ r) =
    let rest = read_string false r in
    let next = read_string true r in
    if eqb b 0x22 then some ([], r) else if eqb b 0x5C then next else case_option rest none (λ p. some (b ∷ p.0, p.1))

abbrev pub is_digit : ℕ → Bool
is_digit b = leb 0x30 b && leb b 0x39

-- A number of one digit or more; n is what was read before.
unfoldable pub read_digits : ℕ → Reader ℕ
read_digits n [] = some (n, [])
read_digits n (b ∷ r) = let next = read_digits (10 * n + (b - 0x30)) r in if is_digit b then next else some (n, b ∷ r)

unfoldable pub read_number : Reader ℕ
read_number [] = none
read_number (b ∷ r) = if is_digit b then read_digits (b - 0x30) r else none

-- This byte, and what follows it.
abbrev pub expect : {A : Type 0} → ℕ → Bytes → (Bytes → Option A) → Option A
expect b [] next = none
expect b (c ∷ r) next = if eqb c b then next r else none

-- A string, a colon and a value.
unfoldable pub read_member : {A : Type 0} → Reader A → Reader (Name × A)
read_member value b =
    expect 0x22 b λ r. case_option (read_string false r) none λ n. expect 0x3A n.1 λ s. case_option (value s) none λ v. some ((n.0, v.0), v.1)

-- The members behind one, each behind a comma, and the closing brace; at most k of them.
unfoldable pub read_more : {A : Type 0} → ℕ → Reader A → Reader (List (Name × A))
read_more zero value b = none
read_more (suc k) value [] = none
read_more (suc k) value (c ∷ r) =
    if eqb c 0x7D then some ([], r) else if eqb c 0x2C then case_option (read_member value r) none (λ m. case_option (read_more k value m.1) none λ l. some (m.0 ∷ l.0, l.1)) else none

-- An object: no object has more members than bytes.
unfoldable pub read_members : {A : Type 0} → Reader A → Reader (List (Name × A))
read_members value [] = none
read_members value (c ∷ r) =
    if eqb c 0x7D then some ([], r) else case_option (read_member value (c ∷ r)) none λ m. case_option (read_more (length r) value m.1) none λ l. some (m.0 ∷ l.0, l.1)

unfoldable pub read_object : {A : Type 0} → Reader A → Reader (List (Name × A))
read_object value b = expect 0x7B b (read_members value)

-- An object of objects of numbers, and nothing behind it.
unfoldable pub read_inventory : Bytes → Option (List Collection)
read_inventory b = case_option (read_object (read_object read_number) b) none λ p. if_empty p.1 (some p.0) none

-- A name between its quotes.
name_byte : (b : ℕ) → is_name_byte b ≡ true → eqb b 0x5C ≡ false
unfolding is_name_byte
name_byte b h = go (eqb b 0x5C) (and_both (leb 0x21 b && leb b 0x7E && not (eqb b 0x2F)) (not (eqb b 0x5C)) h).1
  where
    go : (t : Bool) → not t ≡ true → t ≡ false
    go true e = sym e
    go false e = refl

pub read_string_lem : (n r : Bytes) → all_of is_name_byte n ≡ true → read_string false (escaped n ++ 0x22 ∷ r) ≡ some (n, r)
unfolding read_string escaped
read_string_lem [] r h = refl
read_string_lem (b ∷ n) r h =
    let p = and_both (is_name_byte b) (all_of is_name_byte n) h in
    go (eqb b 0x22) refl (name_byte b p.0) (read_string_lem n r p.1)
  where
    go : (t : Bool) → eqb b 0x22 ≡ t → eqb b 0x5C ≡ false → read_string false (escaped n ++ 0x22 ∷ r) ≡ some (n, r) →
        read_string false ((if t then 0x5C ∷ 0x22 ∷ [] else b ∷ []) ++ escaped n ++ 0x22 ∷ r) ≡ some (b ∷ n, r)
    go true e f ih = rw (ih, eqb-eq b 0x22 e)
    go false e f ih = rw (e, f, ih)

-- A number, and what follows it.
digit : (d : ℕ) → d ≤ 9 → is_digit (0x30 + d) ≡ true
digit d h = rw (le-leb 0x30 (0x30 + d) (omega arith), le-leb (0x30 + d) 0x39 (omega arith))

next-digit : (n d : ℕ) (s : Bytes) → d ≤ 9 → read_digits n ((0x30 + d) ∷ s) ≡ read_digits (10 * n + d) s
unfolding read_digits
next-digit n d s h =
    let e : 0x30 + d - 0x30 ≡ d = omega arith in
    rw (digit d h, e)

first-digit : (d : ℕ) (s : Bytes) → d ≤ 9 → read_number ((0x30 + d) ∷ s) ≡ read_digits d s
unfolding read_number
first-digit d s h =
    let e : 0x30 + d - 0x30 ≡ d = omega arith in
    rw (digit d h, e)

short-number : (k x : ℕ) (s : Bytes) → x ≤ 9 → read_number (decimal (suc k) x ++ s) ≡ read_digits x s
short-number k x s h = ap (λ (b : Bytes). read_number (b ++ s)) (one-digit k x h) ∙ first-digit x s h

all_digits : (k x : ℕ) (s : Bytes) → x < tens (suc k) → read_number (decimal (suc k) x ++ s) ≡ read_digits x s
all_digits zero x s h = short-number 0 x s (omega arith)
all_digits (suc k) x s h = go (leb x 9) refl (λ l. all_digits k (x / 10) ((0x30 + x % 10) ∷ s) l)
  where
    go : (t : Bool) → leb x 9 ≡ t → (x / 10 < tens (suc k) → read_number (decimal (suc k) (x / 10) ++ (0x30 + x % 10) ∷ s) ≡ read_digits (x / 10) ((0x30 + x % 10) ∷ s)) →
        read_number (decimal (suc (suc k)) x ++ s) ≡ read_digits x s
    go true e ih = short-number (suc k) x s (leb-true x 9 e)
    go false e ih =
        let w : 10 * (x / 10) + x % 10 ≡ x = omega arith in
        ap (λ (b : Bytes). read_number (b ++ s)) (more_digits (suc k) x (leb-false x 9 e)) ∙ ap read_number (append_snoc (decimal (suc k) (x / 10)) (0x30 + x % 10) s) ∙ ih (omega arith)
        ∙ next-digit (x / 10) (x % 10) s (omega arith) ∙ ap (λ (n : ℕ). read_digits n s) w

-- A value's text is read back where a byte follows that is no digit.
abbrev pub ReadsBack : {A : Type 0} → Reader A → (A → Bytes) → A → Type 0
ReadsBack value text a = (c : ℕ) (r : Bytes) → is_digit c ≡ false → value (text a ++ c ∷ r) ≡ some (a, c ∷ r)

number-back : (x : ℕ) → x ≤ 4294967295 → ReadsBack read_number (decimal 10) x
unfolding read_digits
number-back x h c r e = all_digits 9 x (c ∷ r) (omega arith) ∙ rw e

-- An object's members.
quoted_then : (n s : Bytes) → quoted n ++ s ≡ 0x22 ∷ (escaped n ++ 0x22 ∷ s)
unfolding quoted
quoted_then n s = ap (λ (b : Bytes). 0x22 ∷ b) (append_snoc (escaped n) 0x22 s)

abbrev pub member : {A : Type 0} → (A → Bytes) → Name × A → Bytes
member text m = quoted m.0 ++ 0x3A ∷ text m.1

module _ {A : Type 0} (value : Reader A) (text : A → Bytes) where
  abbrev pub Back : Name × A → Type 0
  Back m = (all_of is_name_byte m.0 ≡ true) × ReadsBack value text m.1

  member_then : (m : Name × A) (s : Bytes) → member text m ++ s ≡ 0x22 ∷ (escaped m.0 ++ 0x22 ∷ 0x3A ∷ (text m.1 ++ s))
  member_then m s = append_assoc (quoted m.0) (0x3A ∷ text m.1) s ∙ quoted_then m.0 (0x3A ∷ (text m.1 ++ s))

  read-member : (m : Name × A) (c : ℕ) (r : Bytes) → Back m → is_digit c ≡ false → read_member value (member text m ++ c ∷ r) ≡ some (m, c ∷ r)
  unfolding read_member
  read-member m c r g e = ap (read_member value) (member_then m (c ∷ r)) ∙ rw (read_string_lem m.0 (0x3A ∷ (text m.1 ++ c ∷ r)) g.0, g.1 c r e)

  -- The members behind the first, and the brace.
  abbrev more : List (Name × A) → Bytes → Bytes
  more l r = flat_map (λ n. 0x2C ∷ n) (map (member text) l) ++ 0x7D ∷ r

  -- What follows a member is no digit.
  read_then : (m : Name × A) (l : List (Name × A)) (r : Bytes) → Back m → read_member value (member text m ++ more l r) ≡ some (m, more l r)
  read_then m [] r g = read-member m 0x7D r g refl
  read_then m (n ∷ l) r g =
      let s : Bytes = member text n ++ flat_map (λ n. 0x2C ∷ n) (map (member text) l) ++ 0x7D ∷ r in
      read-member m 0x2C s g refl

  read_more_lem : (k : ℕ) (l : List (Name × A)) (r : Bytes) → length l < k → All Back l → read_more k value (more l r) ≡ some (l, r)
  unfolding read_more
  read_more_lem zero l r h g = absurd (omega arith)
  read_more_lem (suc k) [] r h g = refl
  read_more_lem (suc k) (m ∷ l) r h g =
      let e : read_member value (member text m ++ flat_map (λ n. 0x2C ∷ n) (map (member text) l) ++ 0x7D ∷ r) ≡ some (m, more l r)
      = ap (read_member value) (append_assoc (member text m) (flat_map (λ n. 0x2C ∷ n) (map (member text) l)) (0x7D ∷ r)) ∙ read_then m l r g.0 in
      rw (e, read_more_lem k l r (omega arith) g.1)

  object-length : (l : List (Name × A)) (r : Bytes) → length l < length (more l r)
  object-length [] r = omega arith
  object-length (m ∷ l) r =
      let f : Bytes = flat_map (λ n. 0x2C ∷ n) (map (member text) l) in
      omega (arith, object-length l r, length-append (member text m ++ f) (0x7D ∷ r), length-append (member text m) f, length-append f (0x7D ∷ r))

  -- An object with a first member, and what follows it.
  opened : (m : Name × A) (l : List (Name × A)) (r : Bytes) → object (map (member text) (m ∷ l)) ++ r ≡ 0x7B ∷ (member text m ++ more l r)
  unfolding object
  opened m l r =
      let f : Bytes = flat_map (λ n. 0x2C ∷ n) (map (member text) l) in
      ap (λ (b : Bytes). 0x7B ∷ b) (append_snoc (member text m ++ f) 0x7D r ∙ append_assoc (member text m) f (0x7D ∷ r))

  read_first : (b : Bytes) (m : Name × A) (l : List (Name × A)) (r : Bytes) → read_member value (0x22 ∷ b) ≡ some (m, more l r) → length l < length b → All Back l → read_object value (0x7B ∷ 0x22 ∷ b) ≡ some (m ∷ l, r)
  unfolding read_object read_members
  read_first b m l r e h g = rw (e, read_more_lem (length b) l r h g)

  pub read-object : (l : List (Name × A)) (r : Bytes) → All Back l → read_object value (object (map (member text) l) ++ r) ≡ some (l, r)
  unfolding read_object read_members object
  read-object [] r g = refl
  read-object (m ∷ l) r g =
      let t : Bytes = text m.1 ++ more l r in
      let b : Bytes = escaped m.0 ++ 0x22 ∷ 0x3A ∷ t in
      let e : member text m ++ more l r ≡ 0x22 ∷ b = member_then m (more l r) in
      let n : length l < length b = omega (arith, object-length l r, length-append (escaped m.0) (0x22 ∷ 0x3A ∷ t), length-append (text m.1) (more l r)) in
      ap (read_object value) (opened m l r ∙ ap (λ (b : Bytes). 0x7B ∷ b) e) ∙ read_first b m l r (ap (read_member value) (sym e) ∙ read_then m l r g.0) n g.1

-- The files of a directory: valid names with numbers.
abbrev FileGood : Name × ℕ → Type 0
FileGood f = Valid f.0 × (f.1 ≤ 4294967295)

contents-good : (u : Map) (d : Name) (t : Map) → All (λ n. NodeGood Valid u n.0.0 n.0.1 n.1) t → All FileGood (contents d t)
unfolding contents
contents-good u d [] h = tt
contents-good u d (n ∷ r) h = go (cmp_name d n.0.0) n.0.1 (contents-good u d r h.1) h.0.name h.0.number
  where
    go : (c : Cmp) (f : Name) → All FileGood (contents d r) → ((f ≡ [] → ⊥) → Valid f) → ((f ≡ [] → ⊥) → valid_number n.1 ≡ true) →
        All FileGood (case_cmp c (contents d r) (if_empty f (contents d r) ((f, n.1) ∷ contents d r)) (contents d r))
    go lt f ih p q = ih
    go eq [] ih p q = ih
    go eq (y ∷ ys) ih p q = let z : (y ∷ ys ≡ [] → ⊥) = λ e. nil≢cons (sym e) in ((p z, number_le n.1 (q z)), ih)
    go gt f ih p q = ih

file-back : (f : Name × ℕ) → FileGood f → Back read_number (decimal 10) f
file-back f g = (valid-bytes f.0 g.0, number-back f.1 g.1)

abbrev pub files_text : List (Name × ℕ) → Bytes
files_text l = object (map (member (decimal 10)) l)

collection-back : (c : Collection) → Valid c.0 → All FileGood c.1 → Back (read_object read_number) files_text c
collection-back c v g = (valid-bytes c.0 v, λ b r e. read-object read_number (decimal 10) c.1 (b ∷ r) (all_imp file-back c.1 g))

pub text-read : (t : Map) → Tree Valid t → read_inventory (inventory_text t) ≡ some (collections t)
unfolding read_inventory inventory_text collection_member file_member collections
text-read t g =
    let l : List Collection = collections t in
    let each = look-all (λ k x. NodeGood Valid t k.0 k.1 x) t g.sorted (λ k x h. g.node k.0 k.1 x h) in
    let backs = all_map Valid (Back (read_object read_number) files_text) (λ d. (d, contents d t)) (λ d v. collection-back (d, contents d t) v (contents-good t d t each)) (dirs t) (in_all Valid (dirs t) (listed-dir t g)) in
    let e : read_object (read_object read_number) (object (map (member files_text) l)) ≡ some (l, [])
    = ap (read_object (read_object read_number)) (sym (append-nil (object (map (member files_text) l)))) ∙ read-object (read_object read_number) files_text l [] backs in
    ap (λ (o : Option (List Collection × Bytes)). case_option {B = Option (List Collection)} o none (λ p. if_empty p.1 (some p.0) none)) e

-- The text of an image that is read.
pub inventory-read : (b : Bytes) (s : Store) → decode b ≡ some s → read_inventory (inventory_text s.tree) ≡ some (collections s.tree)
inventory-read b s d = text-read s.tree (lent-good b s d).tree
