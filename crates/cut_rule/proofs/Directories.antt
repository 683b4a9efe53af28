-- What can be undone, of operations of every kind: each directory holds its old files, or is new, or its old files stand under its backup's name.
use Rattle.std.specs.Prelude.{◌≡◌, refl, ℕ, List, [], ◌∷◌, ◌⊎◌}
use Rattle.std.proofs.Common.{sym, ◌∙◌, ap, subst, inl, inr}
use Rattle.std.proofs.Math.Option.{Option, none, some}
use Rattle.basics.specs.Order.{Name, Key}
use Rattle.basics.specs.Map.{Map, look, put, del, Has}
use Rattle.basics.specs.Base.{Any, case_option}
use Rattle.basics.specs.Name.{backup_name, original_name}
use Rattle.model.specs.Operation.{Op, write, delete, delete_all, create_collection, delete_collection, copy_collection, target}
use Rattle.model.specs.Step.{remove_dir, rename_dir}
use Rattle.basic_laws.specs.MapLaws.{Sorted, key_dec, none≢some, some_inj, ext, look-put-same, look-put-other, look-del-same, look-del-other, look-del-some}
use Rattle.basic_laws.specs.NameLaws.{original-backup}
use Rattle.laws.specs.StoreLaws.{name_dec, look-drop-other, look-drop-same, sorted-drop, look-move-other, look-move-from, look-move-to}
use Rattle.laws.specs.Listings.{any-map}
use Rattle.cut_rule.proofs.StoreRule.{Within, OldTree, old-file, old-dir}
use Rattle.cut_rule.proofs.Files.{Contents, FileState, kept, new, backed, Files, name-apart, files-like, files-same, dir-eq, file-eq}

abbrev pub contents : Name → Map → Contents
contents d t f = look (d, f) t

abbrev pub Empty : Name → Map → Type 0
Empty d t = (f : Name) → look (d, f) t ≡ none

-- Only directory c is another.
abbrev pub OnlyIn : Name → Map → Map → Type 0
OnlyIn c t v = (d f : Name) → (d ≡ c → ⊥) → look (d, f) v ≡ look (d, f) t

-- No backup of a backup stands in directory d.
abbrev pub OnceIn : Name → Map → Type 0
OnceIn d t = (n g h : Name) → original_name n ≡ some g → original_name g ≡ some h → look (d, n) t ≡ none

-- No backup of d stands.
abbrev pub Unbacked : Name → Map → Type 0
Unbacked d t = (e f : Name) → original_name e ≡ some d → look (e, f) t ≡ none

-- The file that an operation may have made; the directory: a new collection is empty, the destination of a copy may hold anything.
abbrev pub MakesFile : Key → Op → Type 0
MakesFile k (write w) = k ≡ target w
MakesFile k (delete c f) = ⊥
MakesFile k (delete_all c) = ⊥
MakesFile k (create_collection c) = ⊥
MakesFile k (delete_collection c) = ⊥
MakesFile k (copy_collection a b x) = ⊥

abbrev pub MakesDir : Map → Name → Op → Type 0
MakesDir t d (write w) = ⊥
MakesDir t d (delete c f) = ⊥
MakesDir t d (delete_all c) = ⊥
MakesDir t d (create_collection c) = (d ≡ c) × ((f : Name) → (f ≡ [] → ⊥) → look (d, f) t ≡ none)
MakesDir t d (delete_collection c) = ⊥
MakesDir t d (copy_collection a b x) = d ≡ b

abbrev pub NewFile : List Op → Name → Name → Type 0
NewFile l d f = Any (MakesFile (d, f)) l

abbrev pub NewDir : List Op → Map → Name → Type 0
NewDir l t d = Any (MakesDir t d) l

-- The files of directory d, before (o) and now (t), with the operations l still to be undone.
abbrev pub FilesIn : Map → List Op → Name → Map → Type 0
FilesIn o l d t = Files (contents d o) (NewFile l d) (contents d t)

-- A plain directory d is in place; or it is new; or its old files stand under its backup's name, and it may hold anything.
pub data DirState (o : Map) (l : List Op) (t : Map) (d : Name) : Type 0 where
  within : FilesIn o l d t → Unbacked d t → DirState o l t d
  fresh : NewDir l t d → Empty d o → Unbacked d t → DirState o l t d
  moved : (e : Name) → original_name e ≡ some d → Has (d, []) o → ((f : Name) → look (e, f) t ≡ look (d, f) o) → DirState o l t d

-- The whole tree. No backup of a backup stands.
pub record Inv (o : Map) (l : List Op) (t : Map) : Type 0 where
  pub sorted : Sorted t
  pub inside : Within t
  pub states : (d : Name) → original_name d ≡ none → DirState o l t d
  pub dirs_once : (d g h : Name) → original_name d ≡ some g → original_name g ≡ some h → Empty d t
  pub files_once : (d : Name) → OnceIn d t

-- Before anything was done.
pub inv-start : {o : Map} {l : List Op} → OldTree o → Inv o l o
inv-start h = record {
  sorted = h.sorted;
  inside = h.within;
  states = λ d p. within (files-same (λ f. refl) (old-file h d)) (λ e f q. old-dir h e f d q);
  dirs_once = λ d g k p q f. old-dir h d f g p;
  files_once = λ d n g k p q. old-file h d n g p;
}

-- Trees in which every file stands in a directory.
pub within-empty : (t : Map) (d : Name) → Within t → look (d, []) t ≡ none → Empty d t
within-empty t d w e f = go (look (d, f) t) refl
  where
    go : (q : Option ℕ) → look (d, f) t ≡ q → look (d, f) t ≡ none
    go none p = p
    go (some x) p = none≢some (sym e ∙ (w d f (x, p)).1)

pub within-put : (t : Map) (d f : Name) (x : ℕ) → Within t → (f ≡ []) ⊎ Has (d, []) t → Within (put (d, f) x t)
within-put t d f x w z c k h = at (key_dec (c, k) (d, f))
  where
    keep : (b : Name) → Has (b, []) t → Dec (◌≡◌ {A = Key} (b, []) (d, f)) → Has (b, []) (put (d, f) x t)
    keep b i (yes p) = (x, rw p (look-put-same (d, f) x t))
    keep b i (no p) = (i.0, look-put-other (d, f) (b, []) x t p ∙ i.1)

    own : (f ≡ []) ⊎ Has (d, []) t → Has (d, []) (put (d, f) x t)
    own (inl p) = let q : ◌≡◌ {A = Key} (d, []) (d, f) = λ i. (d, sym p i) in (x, rw q (look-put-same (d, f) x t))
    own (inr p) = keep d p (key_dec (d, []) (d, f))

    at : Dec (◌≡◌ {A = Key} (c, k) (d, f)) → Has (c, []) (put (d, f) x t)
    at (yes p) = let q : c ≡ d = dir-eq p in rw q (own z)
    at (no p) = keep c (w c k (h.0, sym (look-put-other (d, f) (c, k) x t p) ∙ h.1)) (key_dec (c, []) (d, f))

pub within-del : (t : Map) (d f : Name) → Within t → (f ≡ [] → ⊥) → Within (del (d, f) t)
within-del t d f w z c k h =
    let i = w c k (h.0, look-del-some (d, f) (c, k) t h.0 h.1) in
    (i.0, look-del-other (d, f) (c, []) t (λ p. z (sym (file-eq p))) ∙ i.1)

pub within-drop : (t : Map) (d : Name) → Within t → Within (remove_dir d t)
within-drop t d w c k h = go (name_dec d c)
  where
    go : Dec (d ≡ c) → Has (c, []) (remove_dir d t)
    go (yes p) = none≢some (sym (look-drop-same d (c, k) t p) ∙ h.1)
    go (no p) = let i = w c k (h.0, sym (look-drop-other d (c, k) t p) ∙ h.1) in (i.0, look-drop-other d (c, []) t p ∙ i.1)

-- What is missing stays so.
pub del-none : (k j : Key) (t : Map) → look j t ≡ none → look j (del k t) ≡ none
del-none k j t e = go (key_dec j k)
  where
    go : Dec (j ≡ k) → look j (del k t) ≡ none
    go (yes y) = rw y (look-del-same k t)
    go (no y) = look-del-other k j t y ∙ e

-- A directory renamed to a place where nothing stands.
module _ (a b : Name) (apart : a ≡ b → ⊥) (t : Map) (sorted : Sorted t) (free : Empty b t) where
  pub move-to : (f : Name) → look (b, f) (rename_dir a b t t) ≡ look (a, f) t
  move-to f = look-move-to a b apart f t t sorted ∙ go (look (a, f) t)
    where
      go : (q : Option ℕ) → case_option q (look (b, f) t) some ≡ q
      go none = free f
      go (some x) = refl

  pub move-from : Empty a (rename_dir a b t t)
  move-from f = go (look (a, f) t) refl
    where
      go : (q : Option ℕ) → look (a, f) t ≡ q → look (a, f) (rename_dir a b t t) ≡ none
      go none e = look-move-from a b apart f t t (inl e)
      go (some x) e = look-move-from a b apart f t t (inr (x, e))

  pub within-move : Within t → Within (rename_dir a b t t)
  within-move w c k h = go (name_dec c a) (name_dec c b)
    where
      v : Map
      v = rename_dir a b t t

      go : Dec (c ≡ a) → Dec (c ≡ b) → Has (c, []) v
      go (yes p) q = none≢some (sym (move-from k) ∙ ap (λ (d : Name). look (d, k) v) (sym p) ∙ h.1)
      go (no p) (yes q) = rw q (let i = w a k (h.0, sym (move-to k) ∙ ap (λ (d : Name). look (d, k) v) (sym q) ∙ h.1) in (i.0, move-to [] ∙ i.1))
      go (no p) (no q) = let i = w c k (h.0, sym (look-move-other a b apart c k t t p q) ∙ h.1) in (i.0, look-move-other a b apart c [] t t p q ∙ i.1)

-- A directory in which nothing came may still be new.
pub makes-like : (t v : Map) (d : Name) → ((f : Name) → look (d, f) t ≡ none → look (d, f) v ≡ none) → (b : Op) → MakesDir t d b → MakesDir v d b
makes-like t v d m (write w) h = h
makes-like t v d m (delete c f) h = h
makes-like t v d m (delete_all c) h = h
makes-like t v d m (create_collection c) h = (h.0, λ f z. m f (h.1 f z))
makes-like t v d m (delete_collection c) h = h
makes-like t v d m (copy_collection a b x) h = h

-- What stays of a directory's state when it and its backup do, with other operations to be undone.
state-like : {o : Map} {l m : List Op} {t v : Map} {d : Name} → ((f : Name) → look (d, f) v ≡ look (d, f) t) →
    ((e f : Name) → original_name e ≡ some d → look (e, f) v ≡ look (e, f) t) → ((f : Name) → NewFile l d f → NewFile m d f) → (NewDir l t d → NewDir m t d) →
    DirState o l t d → DirState o m v d
state-like a b r n (within h z) = within (files-like a r h) (λ e f p. b e f p ∙ z e f p)
state-like {o} {l} {m} {t} {v} {d} a b r n (fresh h y z) = fresh (any-map (λ c i. makes-like t v d (λ f q. a f ∙ q) c i) m (n h)) y (λ e f p. b e f p ∙ z e f p)
state-like a b r n (moved e p h y) = moved e p h (λ f. b e f p ∙ y f)

-- A change of one plain directory c alone.
pub record ChangedIn (o : Map) (l m : List Op) (t v : Map) (c : Name) : Type 0 where
  pub sorted : Sorted v
  pub inside : Within v
  pub agrees : OnlyIn c t v
  pub files : (d f : Name) → (d ≡ c → ⊥) → NewFile l d f → NewFile m d f
  pub makes : (d : Name) → (d ≡ c → ⊥) → NewDir l t d → NewDir m t d
  pub here : DirState o l t c → DirState o m v c
  pub once : OnceIn c v

pub inv_in : {o : Map} {l m : List Op} {t v : Map} {c : Name} → original_name c ≡ none → Inv o l t → ChangedIn o l m t v c → Inv o m v
inv_in {o} {l} {m} {t} {v} {c} plain h i = record {
  sorted = i.sorted;
  inside = i.inside;
  states = λ d p. at d p (name_dec d c);
  dirs_once = λ d g k p q f. i.agrees d f (λ e. name-apart plain p (sym e)) ∙ h.dirs_once d g k p q f;
  files_once = λ d n g k p q. lone d n g k p q (name_dec d c);
}
  where
    lone : (d n g k : Name) → original_name n ≡ some g → original_name g ≡ some k → Dec (d ≡ c) → look (d, n) v ≡ none
    lone d n g k p q (yes e) = ap (λ (b : Name). look (b, n) v) e ∙ i.once n g k p q
    lone d n g k p q (no e) = i.agrees d n e ∙ h.files_once d n g k p q

    at : (d : Name) → original_name d ≡ none → Dec (d ≡ c) → DirState o m v d
    at d p (yes e) = subst (DirState o m v) (sym e) (i.here (h.states c plain))
    at d p (no e) =
        state-like (λ f. i.agrees d f e) (λ b f q. i.agrees b f (λ y. name-apart plain q (sym y))) (λ f r. i.files d f e r) (i.makes d e) (h.states d p)

-- A change of a plain directory c and of its backup, as wholes.
pub record ChangedWhole (o : Map) (l : List Op) (t v : Map) (c : Name) : Type 0 where
  pub sorted : Sorted v
  pub inside : Within v
  pub agrees : (d f : Name) → (d ≡ c → ⊥) → (original_name d ≡ some c → ⊥) → look (d, f) v ≡ look (d, f) t
  pub here : DirState o l v c
  pub once : (d : Name) → (d ≡ c) ⊎ (original_name d ≡ some c) → OnceIn d v

pub inv-whole : {o : Map} {l : List Op} {t v : Map} {c : Name} → original_name c ≡ none → Inv o l t → ChangedWhole o l t v c → Inv o l v
inv-whole {o} {l} {t} {v} {c} plain h i = record {
  sorted = i.sorted;
  inside = i.inside;
  states = λ d p. at d p (name_dec d c);
  dirs_once = λ d g k p q f. i.agrees d f (λ e. name-apart plain p (sym e)) (λ e. name-apart plain q (some_inj (sym e ∙ p))) ∙ h.dirs_once d g k p q f;
  files_once = λ d n g k p q. lone d n g k p q (name_dec d c) (original_name d) refl;
}
  where
    lone : (d n g k : Name) → original_name n ≡ some g → original_name g ≡ some k → Dec (d ≡ c) → (a : Option Name) → original_name d ≡ a → look (d, n) v ≡ none
    lone d n g k p q (yes e) a r = i.once d (inl e) n g k p q
    lone d n g k p q (no e) none r = i.agrees d n e (λ z. none≢some (sym r ∙ z)) ∙ h.files_once d n g k p q
    lone d n g k p q (no e) (some b) r = at-backup (name_dec b c)
      where
        at-backup : Dec (b ≡ c) → look (d, n) v ≡ none
        at-backup (yes z) = i.once d (inr (r ∙ ap some z)) n g k p q
        at-backup (no z) = i.agrees d n e (λ y. z (some_inj (sym r ∙ y))) ∙ h.files_once d n g k p q

    at : (d : Name) → original_name d ≡ none → Dec (d ≡ c) → DirState o l v d
    at d p (yes e) = subst (DirState o l v) (sym e) i.here
    at d p (no e) =
        state-like (λ f. i.agrees d f e (λ y. none≢some (sym p ∙ y)))
        (λ b f q. i.agrees b f (λ y. name-apart plain q (sym y)) (λ y. e (some_inj (sym q ∙ y)))) (λ f r. r) (λ r. r) (h.states d p)

-- More may be new.
pub inv-more : {o : Map} {l : List Op} {t : Map} (m : List Op) → ((d f : Name) → NewFile l d f → NewFile m d f) →
    ((d : Name) → NewDir l t d → NewDir m t d) → Inv o l t → Inv o m t
inv-more m x y h = record {
  sorted = h.sorted;
  inside = h.inside;
  states = λ d p. state-like (λ f. refl) (λ e f q. refl) (x d) (y d) (h.states d p);
  dirs_once = h.dirs_once;
  files_once = h.files_once;
}

-- Less may be new: what the operation may have made does not stand.
pub inv-less : {o : Map} {a : Op} {l : List Op} {t : Map} → OldTree o → ((k : Key) → MakesFile k a → ⊥) →
    ((d : Name) → MakesDir t d a → Empty d o → Unbacked d t → Empty d t) → Inv o (a ∷ l) t → Inv o l t
inv-less {o} {a} {l} {t} old x y h = record {
  sorted = h.sorted;
  inside = h.inside;
  states = λ d p. at d (h.states d p);
  dirs_once = h.dirs_once;
  files_once = h.files_once;
}
  where
    less : (d f : Name) → NewFile (a ∷ l) d f → NewFile l d f
    less d f (inl r) = absurd (x (d, f) r)
    less d f (inr r) = r

    at : (d : Name) → DirState o (a ∷ l) t d → DirState o l t d
    at d (within i z) = within (files-like (λ f. refl) (less d) i) z
    at d (fresh (inl r) e z) = within (files-same (λ f. y d r e z f ∙ sym (e f)) (old-file old d)) z
    at d (fresh (inr r) e z) = fresh r e z
    at d (moved e p i z) = moved e p i z

-- A new directory is taken away.
pub inv-gone : {o : Map} {a : Op} {l : List Op} {t : Map} (c : Name) → original_name c ≡ none → OldTree o → ((k : Key) → MakesFile k a → ⊥) →
    ((d : Name) → MakesDir t d a → d ≡ c) → Empty c o → Inv o (a ∷ l) t → Inv o l (remove_dir c t)
inv-gone {o} {a} {l} {t} c p old x y z h = inv_in p h record {
  sorted = sorted-drop c t h.sorted;
  inside = within-drop t c h.inside;
  agrees = λ d f e. look-drop-other c (d, f) t (λ i. e (sym i));
  files = λ d f e r. less d f r;
  makes = λ d e r. makes d e r;
  here = here;
  once = λ n g k q r. look-drop-same c (c, n) t refl;
}
  where
    less : (d f : Name) → NewFile (a ∷ l) d f → NewFile l d f
    less d f (inl r) = absurd (x (d, f) r)
    less d f (inr r) = r

    makes : (d : Name) → (d ≡ c → ⊥) → NewDir (a ∷ l) t d → NewDir l t d
    makes d e (inl r) = absurd (e (y d r))
    makes d e (inr r) = r

    none_here : Unbacked c t → DirState o l (remove_dir c t) c
    none_here u =
        within (files-same (λ f. look-drop-same c (c, f) t refl ∙ sym (z f)) (old-file old c)) (λ e f q. look-drop-other c (e, f) t (name-apart p q) ∙ u e f q)

    here : DirState o (a ∷ l) t c → DirState o l (remove_dir c t) c
    here (within i u) = none_here u
    here (fresh r i u) = none_here u
    here (moved e q i u) = none≢some (sym (z []) ∙ i.1)

-- With nothing new and no backup left, the tree is the old one.
pub inv-final : {o t : Map} → OldTree o → Inv o [] t → ((d f g : Name) → original_name d ≡ some g → look (d, f) t ≡ none) →
    ((d n g : Name) → original_name d ≡ none → original_name n ≡ some g → look (d, n) t ≡ none) → t ≡ o
inv-final {o} {t} old h x y = ext t o h.sorted old.sorted λ k. go k.0 k.1 (original_name k.0) refl (original_name k.1) refl
  where
    file : (d f : Name) → original_name d ≡ none → FileState (contents d o) (NewFile [] d) (contents d t) f → look (d, f) t ≡ look (d, f) o
    file d f a (kept q) = q
    file d f a (new r q) = absurd r
    file d f a (backed m z q) = none≢some (sym (y d (backup_name f) f a (original-backup f m)) ∙ q ∙ z.1)

    at : (d f : Name) → original_name d ≡ none → original_name f ≡ none → DirState o [] t d → look (d, f) t ≡ look (d, f) o
    at d f a b (within i z) = file d f a (i.plain f b)
    at d f a b (fresh r i z) = absurd r
    at d f a b (moved e q i z) = none≢some (sym (x e [] d q) ∙ z [] ∙ i.1)

    go : (d f : Name) (a : Option Name) → original_name d ≡ a → (b : Option Name) → original_name f ≡ b → look (d, f) t ≡ look (d, f) o
    go d f none a none b = at d f a b (h.states d a)
    go d f none a (some g) b = y d f g a b ∙ sym (old-file old d f g b)
    go d f (some g) a b c = x d f g a ∙ sym (old-dir old d f g a)
