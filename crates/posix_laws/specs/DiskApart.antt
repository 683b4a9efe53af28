-- Different stores have different disks: the disk decides directories, files, staging files and log. (The open mark is not on disk.)
use Rattle.std.specs.Prelude.{◌≡◌, ℕ, [], ◌∷◌}
use Rattle.std.proofs.Math.Path.{refl, sym, ap}
use Rattle.std.proofs.Common.{◌∙◌}
use Rattle.std.proofs.Math.Option.{Option, none, some}
use Rattle.basics.specs.Order.{Name}
use Rattle.basics.specs.Map.{Map, look}
use Rattle.basics.specs.Base.{Bytes, case_option}
use Rattle.model.specs.Store.{Store, dirs}
use Rattle.posix.specs.Posix.{Node, file, directory, Directory, empty, find, Result, ok, error, resolve}
use Rattle.basics.specs.Worked.{text}
use Rattle.posix.specs.Disk.{collections_name, journal_name, staging_name, log_name, log_path, folder, folders, root, disk}
use Rattle.basic_laws.specs.MapLaws.{ext, none≢some, some_inj}
use Rattle.basic_laws.specs.Tests.{nil≢cons}
use Rattle.basic_laws.specs.ValidNames.{valid-named}
use Rattle.laws.specs.StoreLaws.{Good, Staging, Tree}
use Rattle.posix_laws.specs.FolderLaws.{find-folder, find-folders}
use Rattle.posix_laws.specs.CallLaws.{resolve-collections, resolve-staging}
use Rattle.posix_laws.specs.Ready.{IsName}

-- What a path names, as a directory and as a file.
as_directory : Result Node → Directory
as_directory (ok (directory t)) = t
as_directory (ok (file b)) = empty
as_directory (error e) = empty

as_file : Result Node → Option Bytes
as_file (ok (directory t)) = none
as_file (ok (file b)) = some b
as_file (error e) = none

root-collections : (c g : Directory) (l : Option Bytes) → as_directory (resolve (collections_name ∷ []) (root c g l)) ≡ c
unfolding as_directory
root-collections c g l = rw (resolve-collections c g l)

root-staging : (c g : Directory) (l : Option Bytes) → as_directory (resolve (journal_name ∷ staging_name ∷ []) (root c g l)) ≡ g
unfolding as_directory
root-staging c g l = rw (resolve-staging c g l)

root-log : (c g : Directory) (l : Option Bytes) → as_file (resolve log_path (root c g l)) ≡ l
unfolding as_file resolve root find text collections_name journal_name staging_name log_name
root-log c g none = refl
root-log c g (some b) = refl

inner : Node → Directory
inner (file b) = empty
inner (directory t) = t

content : Node → Bytes
content (file b) = b
content (directory t) = []

module _ (bytes : ℕ → Bytes) (apart : (x y : ℕ) → bytes x ≡ bytes y → x ≡ y) where
  -- Files with the same bytes have the same number.
  same-file : (o p : Option ℕ) → case_option o none (λ x. some (file (bytes x))) ≡ case_option p none (λ x. some (file (bytes x))) → o ≡ p
  unfolding content
  same-file none none e = refl
  same-file none (some y) e = none≢some e
  same-file (some x) none e = none≢some (sym e)
  same-file (some x) (some y) e = ap some (apart x y (ap content (some_inj e)))

  same-folder : (c d f : Name) (t u : Map) → IsName f → folder bytes c t ≡ folder bytes d u → look (c, f) t ≡ look (d, f) u
  same-folder c d f t u z e = same-file (look (c, f) t) (look (d, f) u) (sym (find-folder bytes c f t z) ∙ ap (find f) e ∙ find-folder bytes d f u z)

  same-tree : {N : Name → Type 0} (t u : Map) → Tree N t → Tree N u → folders bytes t (dirs t) ≡ folders bytes u (dirs u) → t ≡ u
  same-tree {N} t u g h e = ext t u g.sorted h.sorted (λ k. at k.0 k.1)
    where
      found : (d : Name) → case_option (look (d, []) t) none (λ x. some (directory (folder bytes d t))) ≡ case_option (look (d, []) u) none (λ x. some (directory (folder bytes d u)))
      found d = sym (find-folders bytes t d t) ∙ ap (find d) e ∙ find-folders bytes u d u

      missing : (v : Map) → Tree N v → (d f : Name) → IsName f → look (d, []) v ≡ none → look (d, f) v ≡ none
      missing v w d f z p = go (look (d, f) v) refl
        where
          go : (o : Option ℕ) → look (d, f) v ≡ o → look (d, f) v ≡ none
          go none q = q
          go (some x) q = none≢some (sym p ∙ ((w.node d f x q).inside z).1)

      own : (d : Name) (o p : Option ℕ) → look (d, []) t ≡ o → look (d, []) u ≡ p →
          case_option o none (λ x. some (directory (folder bytes d t))) ≡ case_option p none (λ x. some (directory (folder bytes d u))) →
          look (d, []) t ≡ look (d, []) u
      own d none none a b q = a ∙ sym b
      own d none (some y) a b q = none≢some q
      own d (some x) none a b q = none≢some (sym q)
      own d (some x) (some y) a b q = a ∙ ap some ((g.node d [] x a).zeroed refl ∙ sym ((h.node d [] y b).zeroed refl)) ∙ sym b

      file-at : (d f : Name) → IsName f → (o p : Option ℕ) → look (d, []) t ≡ o → look (d, []) u ≡ p →
          case_option o none (λ x. some (directory (folder bytes d t))) ≡ case_option p none (λ x. some (directory (folder bytes d u))) →
          look (d, f) t ≡ look (d, f) u
      file-at d f z none none a b q = missing t g d f z a ∙ sym (missing u h d f z b)
      file-at d f z none (some y) a b q = none≢some q
      file-at d f z (some x) none a b q = none≢some (sym q)
      file-at d f z (some x) (some y) a b q = same-folder d d f t u z (unfold inner in (ap inner (some_inj q)))

      at : (d f : Name) → look (d, f) t ≡ look (d, f) u
      at d [] = own d (look (d, []) t) (look (d, []) u) refl refl (found d)
      at d (y ∷ ys) = file-at d (y ∷ ys) (λ z. nil≢cons (sym z)) (look (d, []) t) (look (d, []) u) refl refl (found d)

  same-staging : (m n : Map) → Staging m → Staging n → folder bytes [] m ≡ folder bytes [] n → m ≡ n
  same-staging m n g h e = ext m n g.sorted h.sorted (λ k. go k.0 k.1 (look k m) refl (look k n) refl)
    where
      -- A key of either has the empty directory name, and a file name.
      here : (v w : Map) → Staging v → folder bytes [] v ≡ folder bytes [] w → (d f : Name) (x : ℕ) → look (d, f) v ≡ some x → look (d, f) v ≡ look (d, f) w
      here v w a q d f x b =
          let y = a.node (d, f) x b in
          let k : look ([], f) v ≡ look ([], f) w = same-folder [] [] f v w (valid-named f y.name) q in
          ap (λ (c : Name). look (c, f) v) y.bare ∙ k ∙ ap (λ (c : Name). look (c, f) w) (sym y.bare)

      go : (d f : Name) (o : Option ℕ) → look (d, f) m ≡ o → (p : Option ℕ) → look (d, f) n ≡ p → look (d, f) m ≡ look (d, f) n
      go d f none a none b = a ∙ sym b
      go d f none a (some y) b = sym (here n m h (sym e) d f y b)
      go d f (some x) a p b = here m n g e d f x a

  pub disk_decides : {N : Name → Type 0} (s u : Store) → Good N s → Good N u → disk bytes s ≡ disk bytes u → (s.tree ≡ u.tree) × (s.staging ≡ u.staging) × (s.log ≡ u.log)
  unfolding disk
  disk_decides s u g h e = (
    same-tree s.tree u.tree g.tree h.tree (sym (root-collections _ _ _) ∙ ap (λ (t : Directory). as_directory (resolve (collections_name ∷ []) t)) e ∙ root-collections _ _ _),
    same-staging s.staging u.staging g.staging h.staging
        (sym (root-staging _ _ _) ∙ ap (λ (t : Directory). as_directory (resolve (journal_name ∷ staging_name ∷ []) t)) e ∙ root-staging _ _ _),
    sym (root-log _ _ _) ∙ ap (λ (t : Directory). as_file (resolve log_path t)) e ∙ root-log _ _ _,
  )
