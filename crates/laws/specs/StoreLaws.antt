-- Well-formed stores by their looks; which changes keep a store well-formed.
use Rattle.std.specs.Prelude.{◌≡◌, ℕ, ◌+◌, ◌≤◌, true, ◌⊎◌, length, leb}
use Rattle.std.proofs.Math.Path.{refl, sym, ap}
use Rattle.std.proofs.Common.{◌∙◌, length-drop}
use native.Mathlib.Omega.{arith}
use mathlib.Core.List.{[], ◌∷◌}
use Rattle.std.proofs.Math.Option.{Option, none, some}
use Rattle.std.proofs.Math.Logic.{inl, inr}
use Rattle.basics.specs.Limits.{log_limit}
use Rattle.basics.specs.Order.{Cmp, lt, eq, gt, Name, Key, cmp_name, cmp_key}
use Rattle.basic_laws.specs.OrderLaws.{name_laws, key_laws, lt≢eq, gt≢eq}
use Rattle.basics.specs.Order.{case_cmp}
use Rattle.basics.specs.Map.{Map, Node, look, put, del, Has}
use Rattle.basic_laws.specs.MapLaws.{Sorted, key_dec, none≢some, some_inj, look-head, look-tail, look-put-same, look-put-other, look-del-same, look-del-other, look-del-some, sorted-put, sorted-del, above-none, all-look, look-all}
use Rattle.basics.specs.Base.{Bytes, case_option, same_bytes}
use Rattle.basics.specs.Name.{valid_name}
use Rattle.basics.specs.Field.{little_endian}
use Rattle.model.specs.Log.{header, mark_committing, mark_held}
use Rattle.model.specs.Store.{Store, staging_key, dirs, file_count, valid_number, valid_staged, well_formed}
use Rattle.model.specs.Step.{remove_dir, rename_dir, marked, marked_held}
use Rattle.basic_laws.specs.Tests.{and_made, leb_le, le-leb, All, all-of, of-all, all_imp}
use Rattle.basic_laws.specs.ValidNames.{Valid}
use Rattle.laws.specs.ImageLaws.{parts, of_parts, staged-parts}
use Rattle.laws.specs.TreeLaws.{NodeGood, nodes-good, good-nodes, ascending-sorted, sorted-ascending, size, is_file, is_dir, one, file-size, dir-size, length-size, size-put_le, size-del_le, size-del-has}

-- A tree whose names have the property N; the names of staging files are valid.
pub record Tree (N : Name → Type 0) (t : Map) : Type 0 where
  pub sorted : Sorted t
  pub node : (d f : Name) (x : ℕ) → look (d, f) t ≡ some x → NodeGood N t d f x
  pub dirs_fit : size is_dir t ≤ 16
  pub files_fit : size is_file t ≤ 128

pub record StagedGood (k : Key) (x : ℕ) : Type 0 where
  pub bare : k.0 ≡ []
  pub name : Valid k.1
  pub number : valid_number x ≡ true

pub record Staging (m : Map) : Type 0 where
  pub sorted : Sorted m
  pub node : (k : Key) (x : ℕ) → look k m ≡ some x → StagedGood k x
  pub fits : size one m ≤ 32

abbrev pub LogFits : Option Bytes → Type 0
LogFits none = Unit {0}
LogFits (some l) = length l ≤ log_limit

-- Good Valid s is well-formedness; Good Restored s allows two names more.
pub record Good (N : Name → Type 0) (s : Store) : Type 0 where
  pub tree : Tree N s.tree
  pub staging : Staging s.staging
  pub log : LogFits s.log

-- Both readings of well-formedness.
staged-good : (n : Node) → valid_staged n ≡ true → StagedGood n.0 n.1
staged-good n e = let p = staged-parts n e in record { bare = p.0; name = p.1; number = p.2 }

good-staged : (n : Node) → StagedGood n.0 n.1 → valid_staged n ≡ true
unfolding valid_staged
good-staged n g = and_made _ (valid_number n.1) (and_made (same_bytes n.0.0 []) (valid_name n.0.1) (rw g.bare) g.name) g.number

log-fits : (l : Option Bytes) → case_option l true (λ l. leb (length l) log_limit) ≡ true → LogFits l
log-fits none e = tt
log-fits (some l) e = leb_le (length l) log_limit e

pub fits-log : (l : Option Bytes) → LogFits l → case_option l true (λ l. leb (length l) log_limit) ≡ true
fits-log none e = refl
fits-log (some l) e = le-leb (length l) log_limit e

pub good : (s : Store) → well_formed s ≡ true → Good Valid s
good s e =
    let p = parts s e in
    record {
      tree = record {
        sorted = ascending-sorted s.tree p.tree_ascends;
        node = nodes-good s.tree p.nodes;
        dirs_fit = rw dir-size at (leb_le (length (dirs s.tree)) 16 p.dirs_fit);
        files_fit = rw file-size at (leb_le (file_count s.tree) 128 p.files_fit);
      };
      staging = record {
        sorted = ascending-sorted s.staging p.staging_ascends;
        node = all-look StagedGood s.staging (all_imp staged-good s.staging (all-of valid_staged s.staging p.staged));
        fits = rw length-size at (leb_le (length s.staging) 32 p.staging_fits);
      };
      log = log-fits s.log p.log_fits;
    }

pub well-formed : (s : Store) → Good Valid s → well_formed s ≡ true
well-formed s g = of_parts s record {
  tree_ascends = sorted-ascending s.tree g.tree.sorted;
  nodes = good-nodes s.tree g.tree.sorted g.tree.node;
  dirs_fit = le-leb (length (dirs s.tree)) 16 (rw dir-size g.tree.dirs_fit);
  files_fit = le-leb (file_count s.tree) 128 (rw file-size g.tree.files_fit);
  staging_ascends = sorted-ascending s.staging g.staging.sorted;
  staged = of-all valid_staged s.staging (all_imp good-staged s.staging (look-all StagedGood s.staging g.staging.sorted g.staging.node));
  staging_fits = le-leb (length s.staging) 32 (rw length-size g.staging.fits);
  log_fits = fits-log s.log g.log;
}

-- The names of a store by another property.
pub good-names : {M N : Name → Type 0} (s : Store) → ((d f : Name) → Has (d, f) s.tree → (M d → N d) × (M f → N f)) → Good M s → Good N s
good-names {M} {N} s h g = record {
  tree = record { sorted = g.tree.sorted; node = λ d f x l. at d f x (h d f (x, l)) (g.tree.node d f x l); dirs_fit = g.tree.dirs_fit; files_fit = g.tree.files_fit };
  staging = g.staging;
  log = g.log;
}
  where
    at : (d f : Name) (x : ℕ) → (M d → N d) × (M f → N f) → NodeGood M s.tree d f x → NodeGood N s.tree d f x
    at d f x i o = record { dir = i.0 o.dir; zeroed = o.zeroed; name = λ z. i.1 (o.name z); number = o.number; inside = o.inside }

-- Changes of a tree.
pub tree-put : {N : Name → Type 0} (t : Map) (d f : Name) (x : ℕ) → Tree N t → N d → (f ≡ [] → x ≡ 0) → ((f ≡ [] → ⊥) → N f × (valid_number x ≡ true) × Has (d, []) t) →
    size is_dir (put (d, f) x t) ≤ 16 → size is_file (put (d, f) x t) ≤ 128 → Tree N (put (d, f) x t)
tree-put {N} t d f x g v z h a b = record {
  sorted = sorted-put (d, f) x t g.sorted;
  node = λ c k y l. at c k y l (key_dec (c, k) (d, f));
  dirs_fit = a;
  files_fit = b;
}
  where
    keep : (c : Name) → Has (c, []) t → Dec (◌≡◌ {A = Key} (c, []) (d, f)) → Has (c, []) (put (d, f) x t)
    keep c w (yes p) = (x, rw p (look-put-same (d, f) x t))
    keep c w (no p) = (w.0, look-put-other (d, f) (c, []) x t p ∙ w.1)

    at : (c k : Name) (y : ℕ) → look (c, k) (put (d, f) x t) ≡ some y → Dec (◌≡◌ {A = Key} (c, k) (d, f)) → NodeGood N (put (d, f) x t) c k y
    at c k y l (yes p) =
        let e : c ≡ d = ap (λ (j : Key). j.0) p in
        let e' : k ≡ f = ap (λ (j : Key). j.1) p in
        let e'' : y ≡ x = some_inj (sym l ∙ rw p (look-put-same (d, f) x t)) in
        rw (e, e', e'') record { dir = v; zeroed = z; name = λ q. (h q).0; number = λ q. (h q).1; inside = λ q. keep d (h q).2 (key_dec (d, []) (d, f)) }
    at c k y l (no p) =
        let o = g.node c k y (sym (look-put-other (d, f) (c, k) x t p) ∙ l) in
        record { dir = o.dir; zeroed = o.zeroed; name = o.name; number = o.number; inside = λ q. keep c (o.inside q) (key_dec (c, []) (d, f)) }

pub tree-del : {N : Name → Type 0} (t : Map) (d f : Name) → Tree N t → (f ≡ [] → ⊥) → Tree N (del (d, f) t)
tree-del {N} t d f g h = record {
  sorted = sorted-del (d, f) t g.sorted;
  node = λ c k y l. at c k y (g.node c k y (look-del-some (d, f) (c, k) t y l));
  dirs_fit = let p = size-del_le is_dir (d, f) t in let q = g.dirs_fit in omega arith;
  files_fit = let p = size-del_le is_file (d, f) t in let q = g.files_fit in omega arith;
}
  where
    keep : (c : Name) → Has (c, []) t → Has (c, []) (del (d, f) t)
    keep c w = (w.0, look-del-other (d, f) (c, []) t (λ p. h (sym (ap (λ (j : Key). j.1) p))) ∙ w.1)

    at : (c k : Name) (y : ℕ) → NodeGood N t c k y → NodeGood N (del (d, f) t) c k y
    at c k y o = record { dir = o.dir; zeroed = o.zeroed; name = o.name; number = o.number; inside = λ q. keep c (o.inside q) }

-- A directory removed with its files.
pub look-drop-other : (d : Name) (j : Key) (m : Map) → (d ≡ j.0 → ⊥) → look j (remove_dir d m) ≡ look j m
unfolding remove_dir
look-drop-other d j [] h = refl
look-drop-other d j (n ∷ r) h = go (look-drop-other d j r h) (cmp_name d n.0.0) refl
  where
    go : look j (remove_dir d r) ≡ look j r → (c : Cmp) → cmp_name d n.0.0 ≡ c → look j (case_cmp c (n ∷ remove_dir d r) (remove_dir d r) (n ∷ remove_dir d r)) ≡ look j (n ∷ r)
    go ih lt e = unfold look in (rw ih)
    go ih eq e = ih ∙ sym (look-tail j n r (λ p. h (name_laws.equal d n.0.0 e ∙ sym (ap (λ (k : Key). k.0) p))))
    go ih gt e = unfold look in (rw ih)

pub look-drop-same : (d : Name) (j : Key) (m : Map) → d ≡ j.0 → look j (remove_dir d m) ≡ none
unfolding remove_dir
look-drop-same d j [] h = unfold look in refl
look-drop-same d j (n ∷ r) h = go (look-drop-same d j r h) (cmp_name d n.0.0) refl
  where
    off : (c : Cmp) → cmp_name d n.0.0 ≡ c → (c ≡ eq → ⊥) → j ≡ n.0 → ⊥
    off c e x p = x (sym e ∙ rw (h, ap (λ (k : Key). k.0) p) (name_laws.reflexive n.0.0))

    go : look j (remove_dir d r) ≡ none → (c : Cmp) → cmp_name d n.0.0 ≡ c → look j (case_cmp c (n ∷ remove_dir d r) (remove_dir d r) (n ∷ remove_dir d r)) ≡ none
    go ih lt e = look-tail j n (remove_dir d r) (off lt e (λ q. lt≢eq q)) ∙ ih
    go ih eq e = ih
    go ih gt e = look-tail j n (remove_dir d r) (off gt e (λ q. gt≢eq q)) ∙ ih

pub name_dec : (a b : Name) → Dec (a ≡ b)
name_dec a b = go (cmp_name a b) refl
  where
    go : (c : Cmp) → cmp_name a b ≡ c → Dec (a ≡ b)
    go lt e = no (λ p. lt≢eq (sym e ∙ rw p (name_laws.reflexive b)))
    go eq e = yes (name_laws.equal a b e)
    go gt e = no (λ p. gt≢eq (sym e ∙ rw p (name_laws.reflexive b)))

pub look-drop-some : (d : Name) (j : Key) (m : Map) (x : ℕ) → look j (remove_dir d m) ≡ some x → look j m ≡ some x
look-drop-some d j m x h = go (name_dec d j.0)
  where
    go : Dec (d ≡ j.0) → look j m ≡ some x
    go (yes p) = none≢some (sym (look-drop-same d j m p) ∙ h)
    go (no p) = sym (look-drop-other d j m p) ∙ h

pub sorted-drop : (d : Name) (m : Map) → Sorted m → Sorted (remove_dir d m)
unfolding remove_dir
sorted-drop d [] s = s
sorted-drop d (n ∷ r) s = go (sorted-drop d r s.1) (cmp_name d n.0.0)
  where
    go : Sorted (remove_dir d r) → (c : Cmp) → Sorted (case_cmp c (n ∷ remove_dir d r) (remove_dir d r) (n ∷ remove_dir d r))
    go ih lt = (λ j x h. s.0 j x (look-drop-some d j r x h), ih)
    go ih eq = ih
    go ih gt = (λ j x h. s.0 j x (look-drop-some d j r x h), ih)

pub size-drop_le : (w : Key → ℕ) (d : Name) (m : Map) → size w (remove_dir d m) ≤ size w m
unfolding remove_dir
size-drop_le w d [] = omega arith
size-drop_le w d (n ∷ r) = go (size-drop_le w d r) (cmp_name d n.0.0)
  where
    go : size w (remove_dir d r) ≤ size w r → (c : Cmp) → size w (case_cmp c (n ∷ remove_dir d r) (remove_dir d r) (n ∷ remove_dir d r)) ≤ w n.0 + size w r
    go ih lt = omega arith
    go ih eq = omega arith
    go ih gt = omega arith

pub tree-drop : {N : Name → Type 0} (t : Map) (d : Name) → Tree N t → Tree N (remove_dir d t)
tree-drop {N} t d g = record {
  sorted = sorted-drop d t g.sorted;
  node = λ c k y l. at c k y l (g.node c k y (look-drop-some d (c, k) t y l)) (name_dec d c);
  dirs_fit = let p = size-drop_le is_dir d t in let q = g.dirs_fit in omega arith;
  files_fit = let p = size-drop_le is_file d t in let q = g.files_fit in omega arith;
}
  where
    at : (c k : Name) (y : ℕ) → look (c, k) (remove_dir d t) ≡ some y → NodeGood N t c k y → Dec (d ≡ c) → NodeGood N (remove_dir d t) c k y
    at c k y l o (yes p) = none≢some (sym (look-drop-same d (c, k) t p) ∙ l)
    at c k y l o (no p) = record {
      dir = o.dir;
      zeroed = o.zeroed;
      name = o.name;
      number = o.number;
      inside = λ q. let w = o.inside q in (w.0, look-drop-other d (c, []) t p ∙ w.1);
    }

-- Changes of the staging files and of the log.
pub staging-del : (m : Map) (k : Key) → Staging m → Staging (del k m)
staging-del m k g = record {
  sorted = sorted-del k m g.sorted;
  node = λ j x l. g.node j x (look-del-some k j m x l);
  fits = let p = size-del_le one k m in let q = g.fits in omega arith;
}

-- Staging files stand under the empty directory name.
abbrev pub Bare : Map → Type 0
Bare [] = Unit {0}
Bare (n ∷ r) = (n.0.0 ≡ []) × Bare r

pub bare-del : (k : Key) (m : Map) → Bare m → Bare (del k m)
unfolding del
bare-del k [] h = h
bare-del k (n ∷ r) h = go (bare-del k r h.1) (cmp_key k n.0)
  where
    go : Bare (del k r) → (c : Cmp) → Bare (case_cmp c (n ∷ del k r) (del k r) (n ∷ del k r))
    go ih lt = (h.0, ih)
    go ih eq = ih
    go ih gt = (h.0, ih)

pub bare-put : (f : Name) (x : ℕ) (m : Map) → Bare m → Bare (put (staging_key f) x m)
unfolding put
bare-put f x [] b = (refl, tt)
bare-put f x (n ∷ r) b = go (cmp_key (staging_key f) n.0) (bare-put f x r b.1)
  where
    go : (c : Cmp) → Bare (put (staging_key f) x r) → Bare (case_cmp c ((staging_key f, x) ∷ n ∷ r) ((staging_key f, x) ∷ r) (n ∷ put (staging_key f) x r))
    go lt h = (refl, b)
    go eq h = (refl, b.1)
    go gt h = (b.0, h)

pub bare-staged : (m : Map) → All (λ n. valid_staged n ≡ true) m → Bare m
bare-staged [] h = tt
bare-staged (n ∷ r) h = ((staged-parts n h.0).0, bare-staged r h.1)

pub bare : (s : Store) → well_formed s ≡ true → Bare s.staging
bare s e = bare-staged s.staging (all-of valid_staged s.staging (parts s e).staged)

pub log-held : (l : Option Bytes) → LogFits l → LogFits (marked_held l)
unfolding mark_held header little_endian
log-held none h = tt
log-held (some l) h = let p = length-drop 8 l in omega arith

pub log-marked : (l : Option Bytes) → LogFits l → LogFits (marked l)
unfolding mark_committing header little_endian
log-marked none h = tt
log-marked (some l) h = let p = length-drop 8 l in omega arith

-- A directory renamed: no node more, whatever the two names. The weights of a file and of a directory go by the file name alone.
module _ (w : Key → ℕ) (alike : (c d f : Name) → w (c, f) ≡ w (d, f)) (a b : Name) where
  pub size-rename_le : (r t : Map) → Sorted r → ((f : Name) → Has (a, f) r → Has (a, f) t) → size w (rename_dir a b r t) ≤ size w t
  unfolding rename_dir
  size-rename_le [] t s h = omega arith
  size-rename_le (n ∷ r) t s h = go (cmp_name a n.0.0) refl (λ u k. size-rename_le r u s.1 k)
    where
      other : (f : Name) → Has (a, f) r → (a, f) ≡ n.0 → ⊥
      other f z e = lt≢eq (sym (s.0 (a, f) z.0 z.1) ∙ rw e (key_laws.reflexive n.0))

      up : (f : Name) → Has (a, f) r → Has (a, f) t
      up f z = h f (z.0, look-tail (a, f) n r (other f z) ∙ z.1)

      go : (c : Cmp) → cmp_name a n.0.0 ≡ c → ((u : Map) → ((f : Name) → Has (a, f) r → Has (a, f) u) → size w (rename_dir a b r u) ≤ size w u)
          → size w (rename_dir a b r (case_cmp c t (put (b, n.0.1) n.1 (del n.0 t)) t)) ≤ size w t
      go lt e ih = ih t up
      go gt e ih = ih t up
      go eq e ih =
          let d : a ≡ n.0.0 = name_laws.equal a n.0.0 e in
          let k : ◌≡◌ {A = Key} (a, n.0.1) n.0 = λ i. (d i, n.0.1) in
          let x : Has n.0 t = rw k at (h n.0.1 (n.1, rw k (look-head n r))) in
          let p = size-put_le w (b, n.0.1) n.1 (del n.0 t) in
          let q = size-del-has w n.0 t x in
          let o : w (b, n.0.1) ≡ w n.0 = alike b n.0.0 n.0.1 in
          let z = ih (put (b, n.0.1) n.1 (del n.0 t)) (λ f z. let g = up f z in (
            g.0,
            look-put-other (b, n.0.1) (a, f) n.1 (del n.0 t) (λ y. other f z (λ i. (d i, (y i).1))) ∙ look-del-other n.0 (a, f) t (other f z) ∙ g.1,
          )) in
          omega arith

-- A directory renamed: its files stand under the new name, over those that stood there.
module _ (a b : Name) (apart : a ≡ b → ⊥) where
  unfoldable pub moved : Node → Map → Map
  moved n t = case_cmp (cmp_name a n.0.0) t (put (b, n.0.1) n.1 (del n.0 t)) t

  -- By whether the node is the directory's.
  moved_as : (n : Node) (t : Map) → ((a ≡ n.0.0 → ⊥) × (moved n t ≡ t)) ⊎ ((a ≡ n.0.0) × (moved n t ≡ put (b, n.0.1) n.1 (del n.0 t)))
  unfolding moved
  moved_as n t = go (cmp_name a n.0.0) refl
    where
      go : (c : Cmp) → cmp_name a n.0.0 ≡ c → ((a ≡ n.0.0 → ⊥) × (case_cmp c t (put (b, n.0.1) n.1 (del n.0 t)) t ≡ t)) ⊎ ((a ≡ n.0.0) × (case_cmp c t (put (b, n.0.1) n.1 (del n.0 t)) t ≡ put (b, n.0.1) n.1 (del n.0 t)))
      go lt e = inl (λ p. lt≢eq (sym e ∙ rw p (name_laws.reflexive n.0.0)), refl)
      go eq e = inr (name_laws.equal a n.0.0 e, refl)
      go gt e = inl (λ p. gt≢eq (sym e ∙ rw p (name_laws.reflexive n.0.0)), refl)

  first : {j k : Key} → j ≡ k → j.0 ≡ k.0
  first e = ap (λ (k : Key). k.0) e

  pub look-move-other : (c f : Name) (r t : Map) → (c ≡ a → ⊥) → (c ≡ b → ⊥) → look (c, f) (rename_dir a b r t) ≡ look (c, f) t
  unfolding rename_dir moved
  look-move-other c f [] t p q = refl
  look-move-other c f (n ∷ r) t p q = look-move-other c f r (moved n t) p q ∙ go (moved_as n t)
    where
      go : ((a ≡ n.0.0 → ⊥) × (moved n t ≡ t)) ⊎ ((a ≡ n.0.0) × (moved n t ≡ put (b, n.0.1) n.1 (del n.0 t))) → look (c, f) (moved n t) ≡ look (c, f) t
      go (inl h) = ap (look (c, f)) h.1
      go (inr h) = ap (look (c, f)) h.1 ∙ look-put-other (b, n.0.1) (c, f) n.1 (del n.0 t) (λ e. q (first e)) ∙ look-del-other n.0 (c, f) t (λ e. p (first e ∙ sym h.0))

  pub look-move-from : (f : Name) (r t : Map) → (look (a, f) t ≡ none) ⊎ Has (a, f) r → look (a, f) (rename_dir a b r t) ≡ none
  unfolding rename_dir moved
  look-move-from f [] t (inl e) = e
  look-move-from f [] t (inr h) = unfold look in (none≢some h.1)
  look-move-from f (n ∷ r) t h = look-move-from f r (moved n t) (go (moved_as n t) (key_dec (a, f) n.0) h)
    where
      go : ((a ≡ n.0.0 → ⊥) × (moved n t ≡ t)) ⊎ ((a ≡ n.0.0) × (moved n t ≡ put (b, n.0.1) n.1 (del n.0 t))) → Dec ((a, f) ≡ n.0) → (look (a, f) t ≡ none) ⊎ Has (a, f) (n ∷ r) → (look (a, f) (moved n t) ≡ none) ⊎ Has (a, f) r
      go (inl k) (yes e) h = absurd (k.0 (first e))
      go (inl k) (no e) (inl h) = inl (ap (look (a, f)) k.1 ∙ h)
      go (inl k) (no e) (inr h) = inr (h.0, sym (look-tail (a, f) n r e) ∙ h.1)
      go (inr k) (yes e) h = inl (ap (look (a, f)) k.1 ∙ look-put-other (b, n.0.1) (a, f) n.1 (del n.0 t) (λ z. apart (first z)) ∙ rw e (look-del-same n.0 t))
      go (inr k) (no e) (inl h) = inl (ap (look (a, f)) k.1 ∙ look-put-other (b, n.0.1) (a, f) n.1 (del n.0 t) (λ z. apart (first z)) ∙ look-del-other n.0 (a, f) t e ∙ h)
      go (inr k) (no e) (inr h) = inr (h.0, sym (look-tail (a, f) n r e) ∙ h.1)

  pub look-move-to : (f : Name) (r t : Map) → Sorted r → look (b, f) (rename_dir a b r t) ≡ case_option (look (a, f) r) (look (b, f) t) some
  unfolding rename_dir moved
  look-move-to f [] t s = unfold look in refl
  look-move-to f (n ∷ r) t s = look-move-to f r (moved n t) s.1 ∙ go (moved_as n t) (key_dec (a, f) n.0)
    where
      go : ((a ≡ n.0.0 → ⊥) × (moved n t ≡ t)) ⊎ ((a ≡ n.0.0) × (moved n t ≡ put (b, n.0.1) n.1 (del n.0 t))) → Dec ((a, f) ≡ n.0) →
          case_option (look (a, f) r) (look (b, f) (moved n t)) some ≡ case_option (look (a, f) (n ∷ r)) (look (b, f) t) some
      go (inl k) (yes e) = absurd (k.0 (first e))
      go (inl k) (no e) = rw (look-tail (a, f) n r e, k.1)
      go (inr k) (yes e) =
          let x : look (a, f) r ≡ none = rw e (above-none n.0 r s.0) in
          let y : look (a, f) (n ∷ r) ≡ some n.1 = rw e (look-head n r) in
          let z : f ≡ n.0.1 = ap (λ (k : Key). k.1) e in
          rw (x, y, k.1, z) (look-put-same (b, n.0.1) n.1 (del n.0 t))
      go (inr k) (no e) =
          let z : look (b, f) (moved n t) ≡ look (b, f) t
          = ap (look (b, f)) k.1
          ∙ look-put-other (b, n.0.1) (b, f) n.1 (del n.0 t) (λ p. e (λ i. (k.0 i, (p i).1)))
          ∙ look-del-other n.0 (b, f) t (λ p. apart (k.0 ∙ sym (first p))) in
          rw (look-tail (a, f) n r e, z)

  pub sorted-move : (r t : Map) → Sorted t → Sorted (rename_dir a b r t)
  unfolding rename_dir moved
  sorted-move [] t s = s
  sorted-move (n ∷ r) t s = sorted-move r (moved n t) (go (moved_as n t))
    where
      go : ((a ≡ n.0.0 → ⊥) × (moved n t ≡ t)) ⊎ ((a ≡ n.0.0) × (moved n t ≡ put (b, n.0.1) n.1 (del n.0 t))) → Sorted (moved n t)
      go (inl k) = rw k.1 s
      go (inr k) = rw k.1 (sorted-put (b, n.0.1) n.1 (del n.0 t) (sorted-del n.0 t s))

  pub tree-move : {N : Name → Type 0} (t : Map) → Tree N t → N b → Tree N (rename_dir a b t t)
  tree-move {N} t g v = record {
    sorted = sorted-move t t g.sorted;
    node = λ c f x l. at c f x l (name_dec c a) (name_dec c b);
    dirs_fit = let p = size-rename_le is_dir (λ c d f. refl) a b t t g.sorted (λ f h. h) in let q = g.dirs_fit in omega arith;
    files_fit = let p = size-rename_le is_file (λ c d f. refl) a b t t g.sorted (λ f h. h) in let q = g.files_fit in omega arith;
  }
    where
      u : Map
      u = rename_dir a b t t

      -- The new directory stands if either stood.
      stands : Has (a, []) t ⊎ Has (b, []) t → Has (b, []) u
      stands h = go (look (a, []) t) refl h
        where
          go : (q : Option ℕ) → look (a, []) t ≡ q → Has (a, []) t ⊎ Has (b, []) t → Has (b, []) u
          go (some x) e h = (x, look-move-to [] t t g.sorted ∙ rw e)
          go none e (inl h) = none≢some (sym e ∙ h.1)
          go none e (inr h) = (h.0, look-move-to [] t t g.sorted ∙ rw e h.1)

      to : (f : Name) (x : ℕ) (q : Option ℕ) → look (a, f) t ≡ q → case_option q (look (b, f) t) some ≡ some x → NodeGood N u b f x
      to f x none e l = let o = g.node b f x l in record { dir = v; zeroed = o.zeroed; name = o.name; number = o.number; inside = λ z. stands (inr (o.inside z)) }
      to f x (some y) e l = let o = g.node a f x (e ∙ l) in record { dir = v; zeroed = o.zeroed; name = o.name; number = o.number; inside = λ z. stands (inl (o.inside z)) }

      gone : (f : Name) (q : Option ℕ) → look (a, f) t ≡ q → look (a, f) u ≡ none
      gone f none e = look-move-from f t t (inl e)
      gone f (some x) e = look-move-from f t t (inr (x, e))

      at : (c f : Name) (x : ℕ) → look (c, f) u ≡ some x → Dec (c ≡ a) → Dec (c ≡ b) → NodeGood N u c f x
      at c f x l (yes p) q = none≢some (sym (gone f (look (a, f) t) refl) ∙ ap (λ (d : Name). look (d, f) u) (sym p) ∙ l)
      at c f x l (no p) (yes q) = rw q (to f x (look (a, f) t) refl (sym (look-move-to f t t g.sorted) ∙ ap (λ (d : Name). look (d, f) u) (sym q) ∙ l))
      at c f x l (no p) (no q) =
          let o = g.node c f x (sym (look-move-other c f t t p q) ∙ l) in
          record { dir = o.dir; zeroed = o.zeroed; name = o.name; number = o.number; inside = λ z. let h = o.inside z in (h.0, look-move-other c [] t t p q ∙ h.1) }
