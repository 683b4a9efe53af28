-- Removing every backup, of files and of directories: what has a plain name in a plain directory stays.
use Rattle.std.specs.Prelude.{◌≡◌, ℕ, List, [], ◌∷◌, ◌⊎◌}
use Rattle.std.proofs.Math.Path.{refl}
use Rattle.std.proofs.Common.{sym, ◌∙◌, inl, inr}
use Rattle.std.proofs.Math.Option.{Option, none, some}
use Rattle.basics.specs.Order.{Name, Key}
use Rattle.basics.specs.Map.{Map, look, Has}
use Rattle.basics.specs.Base.{Bytes, In, case_option, if_present}
use Rattle.basics.specs.Name.{original_name}
use Rattle.model.specs.Store.{Store, dirs, files}
use Rattle.model.specs.Step.{remove_file, remove_directory, remove_dir, apply, apply_all}
use Rattle.model.specs.Plan.{in_turn, remove_backup_file, remove_backups_in, remove_backups}
use Rattle.basic_laws.specs.MapLaws.{Sorted, none≢some, ext, look-del-same, look-del-other, sorted-del}
use Rattle.basic_laws.specs.NameLaws.{original-nil}
use Rattle.laws.specs.StoreLaws.{name_dec, look-drop-other, look-drop-same, sorted-drop}
use Rattle.laws.specs.Listings.{dirs-has, files-has}
use Rattle.cut_rule.proofs.StoreRule.{Within, OldTree}
use Rattle.cut_rule.proofs.Walk.{Through, through-end, Swept, sweep}
use Rattle.cut_rule.proofs.Files.{name-apart, file-eq}
use Rattle.cut_rule.proofs.Directories.{within-empty, within-del, within-drop, del-none}

abbrev pub BothPlain : Name → Name → Type 0
BothPlain d f = (original_name d ≡ none) × (original_name f ≡ none)

-- A tree without backups: what recovery can end in.
pub record Tidy (p : Map) : Type 0 where
  pub sorted : Sorted p
  pub inside : Within p
  pub plain : (d f : Name) → Has (d, f) p → BothPlain d f

pub old-tidy : {o : Map} → OldTree o → Tidy o
old-tidy h = record { sorted = h.sorted; inside = h.within; plain = λ d f z. let q = h.plain d f z in (q.0.no_bak, q.1.no_bak) }

-- Under a log that stays, the plain names are those of p.
pub record Agrees (p : Map) (log : Option Bytes) (u : Store) : Type 0 where
  pub same : u.log ≡ log
  pub sorted : Sorted u.tree
  pub inside : Within u.tree
  pub agrees : (d f : Name) → original_name d ≡ none → original_name f ≡ none → look (d, f) u.tree ≡ look (d, f) p

-- Nothing comes.
Less : Store → Store → Type 0
Less u v = (k : Key) → look k u.tree ≡ none → look k v.tree ≡ none

module _ (p : Map) (log : Option Bytes) where
  FileGone : Name → Name → Store → Type 0
  FileGone d f u = (g : Name) → original_name f ≡ some g → look (d, f) u.tree ≡ none

  DirGone : Name → Store → Type 0
  DirGone d u = (f : Name) → (BothPlain d f → ⊥) → look (d, f) u.tree ≡ none

  clean-file : (d : Name) (s : Store) (f : Name) (l : List Name) (u : Store) → Less s u → Agrees p log u →
      Swept (Agrees p log) (FileGone d) f (remove_backup_file d f u) u × Less s (apply_all (remove_backup_file d f u) u)
  unfolding remove_backup_file FileGone Less apply
  clean-file d s f l u k h = go (original_name f) refl
    where
      go : (q : Option Name) → original_name f ≡ q →
          let xs = if_present q (remove_file d f ∷ []) in Swept (Agrees p log) (FileGone d) f xs u × Less s (apply_all xs u)
      go none e = ((h, λ g p. none≢some (sym e ∙ p), λ b p. p), k)
      go (some g) e =
          (((h, after), λ c p. look-del-same (d, f) u.tree, λ b p c q. del-none (d, f) (d, b) u.tree (p c q)), λ j z. del-none (d, f) j u.tree (k j z))
        where
          after : Agrees p log (apply (remove_file d f) u)
          after = record {
            same = h.same;
            sorted = sorted-del (d, f) u.tree h.sorted;
            inside = within-del u.tree d f h.inside (λ z. name-apart original-nil e (sym z));
            agrees = λ c n a b. look-del-other (d, f) (c, n) u.tree (λ z. name-apart b e (file-eq z)) ∙ h.agrees c n a b;
          }

  clean-dir : (s : Store) (d : Name) (l : List Name) (u : Store) → Less s u → Agrees p log u →
      Swept (Agrees p log) DirGone d (remove_backups_in d u) u × Less s (apply_all (remove_backups_in d u) u)
  unfolding remove_backups_in FileGone DirGone Less
  clean-dir s d l u k h = go (original_name d) refl
    where
      go : (q : Option Name) → original_name d ≡ q →
          let xs = case_option q (in_turn (remove_backup_file d) (files d u.tree) u) (λ g. remove_directory d ∷ []) in
          Swept (Agrees p log) DirGone d xs u × Less s (apply_all xs u)
      go (some g) e = unfold apply in (((h, after), λ f z. look-drop-same d (d, f) u.tree refl, λ b p f z. drop (b, f) (p f z)), λ j z. drop j (k j z))
        where
          drop : (j : Key) → look j u.tree ≡ none → look j (remove_dir d u.tree) ≡ none
          drop j z = at (name_dec d j.0)
            where
              at : Dec (d ≡ j.0) → look j (remove_dir d u.tree) ≡ none
              at (yes y) = look-drop-same d j u.tree y
              at (no y) = look-drop-other d j u.tree y ∙ z

          after : Agrees p log (apply (remove_directory d) u)
          after = unfold apply in record {
            same = h.same;
            sorted = sorted-drop d u.tree h.sorted;
            inside = within-drop u.tree d h.inside;
            agrees = λ c n a b. look-drop-other d (c, n) u.tree (λ z. name-apart a e (sym z)) ∙ h.agrees c n a b;
          }
      go none e = ((all.0, here, λ b p f z. all.1 (b, f) (p f z)), λ j z. all.1 j (k j z))
        where
          v : Store
          v = apply_all (in_turn (remove_backup_file d) (files d u.tree) u) u

          all : Through (Agrees p log) (in_turn (remove_backup_file d) (files d u.tree) u) u × Less u v
              × ((f : Name) → In f (files d u.tree) ⊎ FileGone d f u → FileGone d f v)
          all = sweep (remove_backup_file d) (λ l v. Less u v) (Agrees p log) (FileGone d) (clean-file d u) (files d u.tree) u (λ j z. z) h

          here : DirGone d v
          here f z = at (original_name f) refl
            where
              at : (q : Option Name) → original_name f ≡ q → look (d, f) v.tree ≡ none
              at none p = absurd (z (e, p))
              at (some g) p = all.2 f (listed (look (d, f) u.tree) refl) g p
                where
                  listed : (q : Option ℕ) → look (d, f) u.tree ≡ q → In f (files d u.tree) ⊎ FileGone d f u
                  listed none q = inr (λ c w. q)
                  listed (some x) q = inl (files-has d f u.tree (λ y. name-apart original-nil p (sym y)) (x, q))

  cleaned : (s : Store) → Agrees p log s →
      Through (Agrees p log) (remove_backups s) s × ((d f : Name) → (BothPlain d f → ⊥) → look (d, f) (apply_all (remove_backups s) s).tree ≡ none)
  unfolding DirGone Less
  cleaned s h = (all.0, λ d. all.2 d (listed d (look (d, []) s.tree) refl))
    where
      v : Store
      v = apply_all (remove_backups s) s

      all : Through (Agrees p log) (remove_backups s) s × Less s v × ((d : Name) → In d (dirs s.tree) ⊎ DirGone d s → DirGone d v)
      all = sweep remove_backups_in (λ l v. Less s v) (Agrees p log) DirGone (clean-dir s) (dirs s.tree) s (λ j z. z) h

      listed : (d : Name) (q : Option ℕ) → look (d, []) s.tree ≡ q → In d (dirs s.tree) ⊎ DirGone d s
      listed d none q = inr (λ f z. within-empty s.tree d h.inside q f)
      listed d (some x) q = inl (dirs-has d s.tree (x, q))

-- Two trees that agree where both names are plain, and have nothing else, are equal.
pub same-plain : (t p : Map) → Sorted t → Sorted p → ((d f : Name) → original_name d ≡ none → original_name f ≡ none → look (d, f) t ≡ look (d, f) p) →
    ((d f : Name) → (BothPlain d f → ⊥) → look (d, f) t ≡ none) → ((d f : Name) → (BothPlain d f → ⊥) → look (d, f) p ≡ none) → t ≡ p
same-plain t p a b h k l = ext t p a b λ j. go j.0 j.1 (original_name j.0) refl (original_name j.1) refl
  where
    other : (d f : Name) → (BothPlain d f → ⊥) → look (d, f) t ≡ look (d, f) p
    other d f z = k d f z ∙ sym (l d f z)

    go : (d f : Name) (a : Option Name) → original_name d ≡ a → (b : Option Name) → original_name f ≡ b → look (d, f) t ≡ look (d, f) p
    go d f none a none b = h d f a b
    go d f none a (some g) b = other d f (λ z. none≢some (sym z.1 ∙ b))
    go d f (some g) a b c = other d f (λ z. none≢some (sym z.0 ∙ a))

pub tidy-none : {p : Map} → Tidy p → (d f : Name) → (BothPlain d f → ⊥) → look (d, f) p ≡ none
tidy-none {p} t d f z = go (look (d, f) p) refl
  where
    go : (q : Option ℕ) → look (d, f) p ≡ q → look (d, f) p ≡ none
    go none e = e
    go (some x) e = absurd (z (t.plain d f (x, e)))

-- Where the plain names are those of a tidy tree p, it comes to p.
pub clean_all : (p : Map) (log : Option Bytes) (s : Store) → Tidy p → Agrees p log s →
    Through (Agrees p log) (remove_backups s) s × ((apply_all (remove_backups s) s).tree ≡ p)
clean_all p log s t h =
    let all = cleaned p log s h in
    let last = through-end (Agrees p log) (remove_backups s) s all.0 in
    (all.0, same-plain (apply_all (remove_backups s) s).tree p last.sorted t.sorted last.agrees all.1 (tidy-none t))

-- What is left is tidy, and has the plain names of the tree.
pub tidied : (s : Store) → Sorted s.tree → Within s.tree → let p = (apply_all (remove_backups s) s).tree in Tidy p × Agrees p s.log s
tidied s h w = (
  record { sorted = last.sorted; inside = last.inside; plain = λ d f z. go d f z (original_name d) refl (original_name f) refl },
  record { same = refl; sorted = h; inside = w; agrees = λ d f p q. sym (last.agrees d f p q) },
)
  where
    v : Store
    v = apply_all (remove_backups s) s

    all : Through (Agrees s.tree s.log) (remove_backups s) s × ((d f : Name) → (BothPlain d f → ⊥) → look (d, f) v.tree ≡ none)
    all = cleaned s.tree s.log s record { same = refl; sorted = h; inside = w; agrees = λ d f p q. refl }

    last : Agrees s.tree s.log v
    last = through-end (Agrees s.tree s.log) (remove_backups s) s all.0

    go : (d f : Name) → Has (d, f) v.tree → (a : Option Name) → original_name d ≡ a → (b : Option Name) → original_name f ≡ b → BothPlain d f
    go d f z none a none b = (a, b)
    go d f z none a (some g) b = none≢some (sym (all.1 d f (λ y. none≢some (sym y.1 ∙ b))) ∙ z.1)
    go d f z (some g) a b c = none≢some (sym (all.1 d f (λ y. none≢some (sym y.0 ∙ a))) ∙ z.1)
