-- What stands on a store's disk, by the looks of its tree; what changes of the tree make of it.
use Rattle.std.proofs.Math.Path.{◌≡◌, refl}
use Rattle.std.proofs.Common.{sym, ◌∙◌, ap, inr}
use Rattle.std.specs.Prelude.{ℕ}
use mathlib.Core.List.{[], ◌∷◌}
use Rattle.std.proofs.Math.Option.{Option, none, some}
use Rattle.basics.specs.Order.{Cmp, lt, eq, gt, then_cmp, Name, Key, cmp_name, cmp_key, case_cmp}
use Rattle.basics.specs.Map.{Map, look, put, del, Has}
use Rattle.basics.specs.Base.{Bytes, case_option, if_empty}
use Rattle.model.specs.Store.{dirs}
use Rattle.model.specs.Step.{remove_dir, rename_dir}
use Rattle.posix.specs.Posix as posix
use Rattle.posix.specs.Posix.{file, directory, Directory, empty, entry, find, enter, leave}
use Rattle.posix.specs.Disk.{folder, folders}
use Rattle.basic_laws.specs.OrderLaws.{name_laws, lt≢eq}
use Rattle.basic_laws.specs.MapLaws.{Sorted, none≢some, look-put-same, look-put-other, look-del-same, look-del-other, sorted-put, sorted-del}
use Rattle.basic_laws.specs.Tests.{nil≢cons}
use Rattle.laws.specs.StoreLaws.{name_dec, sorted-drop, look-drop-same, look-drop-other, look-move-other, look-move-from, look-move-to, sorted-move}
use Rattle.posix_laws.specs.PosixLaws.{Over, Rising, find-enter-same, find-enter-other, find-leave-same, find-leave-other, rising-enter, rising-leave, same_entries}
use Rattle.posix_laws.specs.Ready.{IsName}

-- Keys of one directory, and directories' own keys, by one name.
pub second_lt : (d f g : Name) → cmp_key (d, f) (d, g) ≡ lt → cmp_name f g ≡ lt
unfolding cmp_key
second_lt d f g l = rw (name_laws.reflexive d) at l

pub first_lt : (c d : Name) → cmp_key (c, []) (d, []) ≡ lt → cmp_name c d ≡ lt
unfolding cmp_key
first_lt c d l = thin (cmp_name c d) l
  where
    thin : (c : Cmp) → then_cmp c eq ≡ lt → c ≡ lt
    thin lt e = refl
    thin eq e = lt≢eq (sym e)
    thin gt e = e

module _ (bytes : ℕ → Bytes) where
  abbrev a_file : Option ℕ → Option posix.Node
  a_file o = case_option o none (λ x. some (file (bytes x)))

  abbrev a_directory : Directory → Option ℕ → Option posix.Node
  a_directory t o = case_option o none (λ x. some (directory t))

  -- The files of a directory.
  pub find-folder-nil : (d : Name) (t : Map) → find [] (folder bytes d t) ≡ none
  unfolding folder find
  find-folder-nil d [] = refl
  find-folder-nil d (n ∷ r) = go (cmp_name d n.0.0) n.0.1 (find-folder-nil d r)
    where
      go : (c : Cmp) (f : Name) → find [] (folder bytes d r) ≡ none →
          find [] (case_cmp c (folder bytes d r) (if_empty f (folder bytes d r) (entry f (file (bytes n.1)) (folder bytes d r))) (folder bytes d r)) ≡ none
      go lt f ih = ih
      go eq [] ih = ih
      go eq (y ∷ ys) ih = ih
      go gt f ih = ih

  pub find-folder : (d f : Name) (t : Map) → IsName f → find f (folder bytes d t) ≡ a_file (look (d, f) t)
  unfolding folder find look cmp_key
  find-folder d f [] h = refl
  find-folder d f (n ∷ r) h = go (cmp_name d n.0.0) n.0.1 f h (find-folder d f r h)
    where
      at : (c : Cmp) (o : Option posix.Node) (q : Option ℕ) → o ≡ a_file q → case_cmp c o (some (file (bytes n.1))) o ≡ a_file (case_cmp c q (some n.1) q)
      at lt o q e = e
      at eq o q e = refl
      at gt o q e = e

      go : (c : Cmp) (g f : Name) → IsName f → find f (folder bytes d r) ≡ a_file (look (d, f) r) →
          find f (case_cmp c (folder bytes d r) (if_empty g (folder bytes d r) (entry g (file (bytes n.1)) (folder bytes d r))) (folder bytes d r))
          ≡ a_file (case_cmp (then_cmp c (cmp_name f g)) (look (d, f) r) (some n.1) (look (d, f) r))
      go lt g f h ih = ih
      go eq [] [] h ih = absurd (h refl)
      go eq [] (y ∷ ys) h ih = ih
      go eq (z ∷ zs) f h ih = at (cmp_name f (z ∷ zs)) (find f (folder bytes d r)) (look (d, f) r) ih
      go gt g f h ih = ih

  pub find_absent : (d f : Name) (t : Map) → look (d, f) t ≡ none → find f (folder bytes d t) ≡ none
  find_absent d [] t e = find-folder-nil d t
  find_absent d (y ∷ ys) t e = find-folder d (y ∷ ys) t (λ p. nil≢cons (sym p)) ∙ rw e

  -- The directories.
  pub find-folders : (u : Map) (d : Name) (t : Map) → find d (folders bytes u (dirs t)) ≡ a_directory (folder bytes d u) (look (d, []) t)
  unfolding folders dirs find look cmp_key
  find-folders u d [] = refl
  find-folders u d (n ∷ r) = go (cmp_name d n.0.0) refl n.0.1 (find-folders u d r)
    where
      go : (c : Cmp) → cmp_name d n.0.0 ≡ c → (g : Name) → find d (folders bytes u (dirs r)) ≡ a_directory (folder bytes d u) (look (d, []) r) →
          find d (folders bytes u (if_empty g (n.0.0 ∷ dirs r) (dirs r)))
          ≡ a_directory (folder bytes d u) (case_cmp (then_cmp c (cmp_name [] g)) (look (d, []) r) (some n.1) (look (d, []) r))
      go lt e [] ih = rw e ih
      go eq e [] ih = rw e (ap (λ (m : Name). some (directory (folder bytes m u))) (sym (name_laws.equal d n.0.0 e)))
      go gt e [] ih = rw e ih
      go lt e (y ∷ ys) ih = ih
      go eq e (y ∷ ys) ih = ih
      go gt e (y ∷ ys) ih = ih

  pub rising-folder : (d : Name) (t : Map) → Sorted t → Rising (folder bytes d t)
  unfolding folder
  rising-folder d [] s = tt
  rising-folder d (n ∷ r) s = go (cmp_name d n.0.0) refl n.0.1 refl (rising-folder d r s.1)
    where
      over : d ≡ n.0.0 → (g : Name) → n.0.1 ≡ g → Over g (folder bytes d r)
      over p g q [] x h = none≢some (sym (find-folder-nil d r) ∙ h)
      over p g q (y ∷ ys) x h = at (look (d, y ∷ ys) r) refl (sym (find-folder d (y ∷ ys) r (λ z. nil≢cons (sym z))) ∙ h)
        where
          at : (o : Option ℕ) → look (d, y ∷ ys) r ≡ o → a_file o ≡ some x → cmp_name g (y ∷ ys) ≡ lt
          at none e k = none≢some k
          at (some v) e k =
              let z : ◌≡◌ {A = Key} n.0 (d, g) = λ i. (sym p i, q i) in
              second_lt d g (y ∷ ys) (rw z at (s.0 (d, y ∷ ys) v e))

      go : (c : Cmp) → cmp_name d n.0.0 ≡ c → (g : Name) → n.0.1 ≡ g → Rising (folder bytes d r) →
          Rising (case_cmp c (folder bytes d r) (if_empty g (folder bytes d r) (entry g (file (bytes n.1)) (folder bytes d r))) (folder bytes d r))
      go lt e g q ih = ih
      go eq e [] q ih = ih
      go eq e (y ∷ ys) q ih = (over (name_laws.equal d n.0.0 e) (y ∷ ys) q, ih)
      go gt e g q ih = ih

  pub rising-folders : (u t : Map) → Sorted t → Rising (folders bytes u (dirs t))
  unfolding folders dirs
  rising-folders u [] s = tt
  rising-folders u (n ∷ r) s = go n.0.1 refl (rising-folders u r s.1)
    where
      over : (g : Name) → n.0.1 ≡ g → g ≡ [] → Over n.0.0 (folders bytes u (dirs r))
      over g q z d x h = at (look (d, []) r) refl (sym (find-folders u d r) ∙ h)
        where
          at : (o : Option ℕ) → look (d, []) r ≡ o → a_directory (folder bytes d u) o ≡ some x → cmp_name n.0.0 d ≡ lt
          at none e k = none≢some k
          at (some v) e k =
              let y : ◌≡◌ {A = Key} n.0 (n.0.0, []) = λ i. (n.0.0, (q ∙ z) i) in
              first_lt n.0.0 d (rw y at (s.0 (d, []) v e))

      go : (g : Name) → n.0.1 ≡ g → Rising (folders bytes u (dirs r)) → Rising (folders bytes u (if_empty g (n.0.0 ∷ dirs r) (dirs r)))
      go [] q ih = (over [] q refl, ih)
      go (y ∷ ys) q ih = ih

  -- A directory on disk is known by the looks of its tree.
  folder-is : (d : Name) (t : Map) (b : Directory) → Sorted t → Rising b → find [] b ≡ none → ((f : Name) → IsName f → a_file (look (d, f) t) ≡ find f b) → folder bytes d t ≡ b
  folder-is d t b s r z h = same_entries (folder bytes d t) b (rising-folder d t s) r go
    where
      go : (f : Name) → find f (folder bytes d t) ≡ find f b
      go [] = find-folder-nil d t ∙ sym z
      go (y ∷ ys) = find-folder d (y ∷ ys) t (λ e. nil≢cons (sym e)) ∙ h (y ∷ ys) (λ e. nil≢cons (sym e))

  pub folder-same : (c d : Name) (t u : Map) → Sorted t → Sorted u → ((f : Name) → IsName f → look (c, f) u ≡ look (d, f) t) → folder bytes c u ≡ folder bytes d t
  folder-same c d t u s r h = folder-is c u (folder bytes d t) r (rising-folder d t s) (find-folder-nil d t) (λ f z. ap a_file (h f z) ∙ sym (find-folder d f t z))

  pub folder-empty : (d : Name) (t : Map) → Sorted t → ((f : Name) → IsName f → look (d, f) t ≡ none) → folder bytes d t ≡ empty
  folder-empty d t s h = folder-is d t empty s tt (unfold find in refl) (λ f z. unfold find in (ap a_file (h f z)))

  collections-is : (t : Map) (b : Directory) → Sorted t → Rising b → ((d : Name) → a_directory (folder bytes d t) (look (d, []) t) ≡ find d b) → folders bytes t (dirs t) ≡ b
  collections-is t b s r h = same_entries (folders bytes t (dirs t)) b (rising-folders t t s) r (λ d. find-folders t d t ∙ h d)

  -- What a change of directory d's files alone makes of the collections.
  pub collections_in : (d : Name) (t u : Map) (g : Directory) → Sorted t → Sorted u → Has (d, []) t →
      ((c : Name) → look (c, []) u ≡ look (c, []) t) → ((c f : Name) → (c ≡ d → ⊥) → look (c, f) u ≡ look (c, f) t) →
      folder bytes d u ≡ g → folders bytes u (dirs u) ≡ enter d (directory g) (folders bytes t (dirs t))
  collections_in d t u g s r i h k e = collections-is u _ r (rising-enter d (directory g) _ (rising-folders t t s)) (λ c. go c (name_dec c d))
    where
      go : (c : Name) → Dec (c ≡ d) → a_directory (folder bytes c u) (look (c, []) u) ≡ find c (enter d (directory g) (folders bytes t (dirs t)))
      go c (yes p) = rw (p, h d, i.1, e) (sym (find-enter-same d (directory g) (folders bytes t (dirs t))))
      go c (no p) =
          rw (h c, folder-same c c t u s r (λ f z. k c f p))
          (sym (find-folders t c t) ∙ sym (find-enter-other d c (directory g) (folders bytes t (dirs t)) p))

  second : (d f g : Name) → (f ≡ g → ⊥) → ◌≡◌ {A = Key} (d, f) (d, g) → ⊥
  second d f g h e = h (ap (λ (k : Key). k.1) e)

  first : (c d f g : Name) → (c ≡ d → ⊥) → ◌≡◌ {A = Key} (c, f) (d, g) → ⊥
  first c d f g h e = h (ap (λ (k : Key). k.0) e)

  pub folder-put : (d f : Name) (x : ℕ) (t : Map) → Sorted t → IsName f → folder bytes d (put (d, f) x t) ≡ enter f (file (bytes x)) (folder bytes d t)
  folder-put d f x t s z = folder-is d (put (d, f) x t) _ (sorted-put (d, f) x t s) (rising-enter f (file (bytes x)) _ (rising-folder d t s))
      (find-enter-other f [] (file (bytes x)) _ (λ e. z (sym e)) ∙ find-folder-nil d t) (λ g y. go g y (name_dec g f))
    where
      go : (g : Name) → IsName g → Dec (g ≡ f) → a_file (look (d, g) (put (d, f) x t)) ≡ find g (enter f (file (bytes x)) (folder bytes d t))
      go g y (yes p) = rw (p, look-put-same (d, f) x t) (sym (find-enter-same f (file (bytes x)) (folder bytes d t)))
      go g y (no p) = rw (look-put-other (d, f) (d, g) x t (second d g f p)) (sym (find-folder d g t y) ∙ sym (find-enter-other f g (file (bytes x)) (folder bytes d t) p))

  pub folder-del : (d f : Name) (t : Map) → Sorted t → folder bytes d (del (d, f) t) ≡ leave f (folder bytes d t)
  folder-del d f t s = folder-is d (del (d, f) t) _ (sorted-del (d, f) t s) (rising-leave f _ (rising-folder d t s)) (nil (name_dec [] f)) (λ g y. go g y (name_dec g f))
    where
      nil : Dec ([] ≡ f) → find [] (leave f (folder bytes d t)) ≡ none
      nil (yes p) = rw p (find-leave-same f (folder bytes d t))
      nil (no p) = find-leave-other f [] (folder bytes d t) p ∙ find-folder-nil d t

      go : (g : Name) → IsName g → Dec (g ≡ f) → a_file (look (d, g) (del (d, f) t)) ≡ find g (leave f (folder bytes d t))
      go g y (yes p) = rw (p, look-del-same (d, f) t) (sym (find-leave-same f (folder bytes d t)))
      go g y (no p) = rw (look-del-other (d, f) (d, g) t (second d g f p)) (sym (find-folder d g t y) ∙ sym (find-leave-other f g (folder bytes d t) p))

  pub collections-put : (d f : Name) (x : ℕ) (t : Map) → Sorted t → Has (d, []) t → IsName f →
      folders bytes (put (d, f) x t) (dirs (put (d, f) x t)) ≡ enter d (directory (enter f (file (bytes x)) (folder bytes d t))) (folders bytes t (dirs t))
  collections-put d f x t s i z = collections_in d t (put (d, f) x t) _ s (sorted-put (d, f) x t s) i
      (λ c. look-put-other (d, f) (c, []) x t (λ e. z (sym (ap (λ (k : Key). k.1) e)))) (λ c g p. look-put-other (d, f) (c, g) x t (first c d g f p)) (folder-put d f x t s z)

  pub collections-del : (d f : Name) (t : Map) → Sorted t → Has (d, []) t → IsName f →
      folders bytes (del (d, f) t) (dirs (del (d, f) t)) ≡ enter d (directory (leave f (folder bytes d t))) (folders bytes t (dirs t))
  collections-del d f t s i z = collections_in d t (del (d, f) t) _ s (sorted-del (d, f) t s) i
      (λ c. look-del-other (d, f) (c, []) t (λ e. z (sym (ap (λ (k : Key). k.1) e)))) (λ c g p. look-del-other (d, f) (c, g) t (first c d g f p)) (folder-del d f t s)

  -- A directory more, one less, and one under another name.
  pub collections-make : (d : Name) (t : Map) → Sorted t → ((f : Name) → IsName f → look (d, f) t ≡ none) →
      folders bytes (put (d, []) 0 t) (dirs (put (d, []) 0 t)) ≡ enter d (directory empty) (folders bytes t (dirs t))
  collections-make d t s h = collections-is u _ r (rising-enter d (directory empty) _ (rising-folders t t s)) (λ c. go c (name_dec c d))
    where
      u : Map
      u = put (d, []) 0 t

      r : Sorted u
      r = sorted-put (d, []) 0 t s

      go : (c : Name) → Dec (c ≡ d) → a_directory (folder bytes c u) (look (c, []) u) ≡ find c (enter d (directory empty) (folders bytes t (dirs t)))
      go c (yes p) =
          rw (p, look-put-same (d, []) 0 t, folder-empty d u r (λ f z. look-put-other (d, []) (d, f) 0 t (second d f [] z) ∙ h f z))
          (sym (find-enter-same d (directory empty) (folders bytes t (dirs t))))
      go c (no p) =
          rw (look-put-other (d, []) (c, []) 0 t (first c d [] [] p), folder-same c c t u s r (λ f z. look-put-other (d, []) (c, f) 0 t (first c d f [] p)))
          (sym (find-folders t c t) ∙ sym (find-enter-other d c (directory empty) (folders bytes t (dirs t)) p))

  pub collections-drop : (d : Name) (t : Map) → Sorted t → folders bytes (remove_dir d t) (dirs (remove_dir d t)) ≡ leave d (folders bytes t (dirs t))
  collections-drop d t s = collections-is u _ r (rising-leave d _ (rising-folders t t s)) (λ c. go c (name_dec c d))
    where
      u : Map
      u = remove_dir d t

      r : Sorted u
      r = sorted-drop d t s

      go : (c : Name) → Dec (c ≡ d) → a_directory (folder bytes c u) (look (c, []) u) ≡ find c (leave d (folders bytes t (dirs t)))
      go c (yes p) = rw (p, look-drop-same d (d, []) t refl) (sym (find-leave-same d (folders bytes t (dirs t))))
      go c (no p) =
          rw (look-drop-other d (c, []) t (λ e. p (sym e)), folder-same c c t u s r (λ f z. look-drop-other d (c, f) t (λ e. p (sym e))))
          (sym (find-folders t c t) ∙ sym (find-leave-other d c (folders bytes t (dirs t)) p))

  pub collections-move : (a b : Name) (t : Map) → (a ≡ b → ⊥) → Sorted t → Has (a, []) t → ((f : Name) → IsName f → look (b, f) t ≡ none) →
      folders bytes (rename_dir a b t t) (dirs (rename_dir a b t t)) ≡ leave a (enter b (directory (folder bytes a t)) (folders bytes t (dirs t)))
  collections-move a b t apart s i h = collections-is u _ r (rising-leave a _ (rising-enter b (directory (folder bytes a t)) _ (rising-folders t t s))) (λ c. go c (name_dec c a) (name_dec c b))
    where
      u : Map
      u = rename_dir a b t t

      r : Sorted u
      r = sorted-move a b apart t t s

      to : (f : Name) → IsName f → look (b, f) u ≡ look (a, f) t
      to f z = look-move-to a b apart f t t s ∙ at (look (a, f) t) (h f z)
        where
          at : (o : Option ℕ) → look (b, f) t ≡ none → case_option o (look (b, f) t) some ≡ o
          at none e = e
          at (some x) e = refl

      after : Directory
      after = enter b (directory (folder bytes a t)) (folders bytes t (dirs t))

      go : (c : Name) → Dec (c ≡ a) → Dec (c ≡ b) → a_directory (folder bytes c u) (look (c, []) u) ≡ find c (leave a after)
      go c (yes p) q = rw (p, look-move-from a b apart [] t t (inr i)) (sym (find-leave-same a after))
      go c (no p) (yes q) =
          rw (q, look-move-to a b apart [] t t s, i.1, folder-same b a t u s r to)
          (sym (find-enter-same b (directory (folder bytes a t)) (folders bytes t (dirs t))) ∙ sym (find-leave-other a b after (λ e. apart (sym e))))
      go c (no p) (no q) =
          rw (look-move-other a b apart c [] t t p q, folder-same c c t u s r (λ f z. look-move-other a b apart c f t t p q))
          (sym (find-folders t c t) ∙ sym (find-enter-other b c (directory (folder bytes a t)) (folders bytes t (dirs t)) q) ∙ sym (find-leave-other a c after p))
