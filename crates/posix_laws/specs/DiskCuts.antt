-- Cuts within a step that is several calls. Among the calls of 0x29 the disk is that of a store, whose first files in the directory were removed by
-- 0x28. The host makes the copy of 0x27 aside: before its last call, the rename, the disk is that of the store with one staging file more.
use Rattle.std.specs.Prelude.{◌≡◌, refl, ℕ, zero, suc, take}
use Rattle.std.proofs.Common.{sym, ◌∙◌, inl, inr}
use Rattle.std.proofs.Math.Path.{ap}
use mathlib.Core.List.{List, [], ◌∷◌, ◌++◌, map}
use Rattle.std.proofs.Math.Option.{none, some}
use Rattle.basics.specs.Order.{lt, Name, Key, cmp_name}
use Rattle.basics.specs.Map.{look, put, Has}
use Rattle.basics.specs.Base.{Bytes, In}
use Rattle.model.specs.Store.{Store, staging_key, dirs, files}
use Rattle.model.specs.Step.{copy_file, remove_file, remove_directory, apply, apply_all}
use Rattle.posix.specs.Posix.{Directory, file, enter, Result, ok, error, and_then, resolve, opens, written, writes, vacates, Call, rename, unlink, rmdir, open-read, open-create-truncate, pwrite, call, calls}
use Rattle.posix.specs.Disk.{directory_path, file_path, staged_path, folder, folders, root, disk, bytes_in, step_calls, names_in}
use Rattle.laws.specs.StoreLaws.{Good, tree-del}
use Rattle.laws.specs.Listings.{files_in, files-named}
use Rattle.posix_laws.specs.Ready.{IsName, DirectoryStands, FileStands, Ready}
use Rattle.posix_laws.specs.PosixLaws.{Rising, other_lt, find-enter-same, enter-enter, leave-enter, leave-absent}
use Rattle.posix_laws.specs.FolderLaws.{find_absent, rising-folder, folder-put}
use Rattle.posix_laws.specs.CallLaws.{staged-apart, renamed, change-staged, resolve-directory, resolve-file, resolve-staged, written-whole}
use Rattle.posix_laws.specs.DiskLaws.{names-listed, find-standing, find-file, inside_of, place, step-done}
use Rattle.posix_laws.specs.ReadySteps.{Ascend, files-ascend, removed-other}

one-done : (c : Call) (t u : Directory) → calls (c ∷ []) t ≡ ok u → call c t ≡ ok u
one-done c t u e = go (call c t) e
  where
    go : (r : Result Directory) → and_then r (calls []) ≡ ok u → r ≡ ok u
    go (ok v) e = e
    go (error n) e = e

still : (d f k : Name) (s : Store) → cmp_name f k ≡ lt → Has (d, k) s.tree → Has (d, k) (apply (remove_file d f) s).tree
still d f k s e i = (i.0, removed-other d f s (d, k) (λ p. other_lt e (sym (ap (λ (j : Key). j.1) p))) ∙ i.1)

module _ (bytes : ℕ → Bytes) {N : Name → Type 0} (d : Name) where
  removed : (f : Name) (s : Store) → Good N s → FileStands d f s → calls (unlink (file_path d f) ∷ []) (disk bytes s) ≡ ok (disk bytes (apply (remove_file d f) s))
  unfolding step_calls
  removed f s g h = step-done bytes s g (remove_file d f) h

  kept : (f : Name) (s : Store) → Good N s → FileStands d f s → Good N (apply (remove_file d f) s)
  unfolding apply
  kept f s g h = record { tree = tree-del s.tree d f g.tree h.0; staging = g.staging; log = g.log }

  unlinked : (l : List Name) (n : ℕ) (s : Store) → Good N s → Ascend l → ((f : Name) → In f l → FileStands d f s) →
      calls (take n (map (λ f. unlink (file_path d f)) l)) (disk bytes s) ≡ ok (disk bytes (apply_all (take n (map (remove_file d) l)) s))
  unlinked [] zero s g a h = refl
  unlinked [] (suc n) s g a h = refl
  unlinked (f ∷ l) zero s g a h = refl
  unlinked (f ∷ l) (suc n) s g a h =
      rw (one-done (unlink (file_path d f)) (disk bytes s) (disk bytes (apply (remove_file d f) s)) (removed f s g (h f (inl refl))))
      (unlinked l n (apply (remove_file d f) s) (kept f s g (h f (inl refl))) a.1 (λ k i. ((h k (inr i)).0, still d f k s (a.0 k i) (h k (inr i)).1)))

  -- The calls of 0x29, and a cut among them.
  pub drop-calls : (s : Store) → Good N s → DirectoryStands d s →
      step_calls (remove_directory d) (disk bytes s) ≡ map (λ f. unlink (file_path d f)) (files d s.tree) ++ rmdir (directory_path d) ∷ []
  unfolding step_calls disk
  drop-calls s g i =
      ap (λ (l : List Name). map (λ f. unlink (file_path d f)) l ++ rmdir (directory_path d) ∷ [])
      (ap names_in (resolve-directory (folders bytes s.tree (dirs s.tree)) (folder bytes [] s.staging) s.log d _ (find-standing bytes s g d i)) ∙ names-listed bytes d s.tree)

  pub drop-cut : (s : Store) → Good N s → (n : ℕ) →
      calls (take n (map (λ f. unlink (file_path d f)) (files d s.tree))) (disk bytes s) ≡ ok (disk bytes (apply_all (take n (map (remove_file d) (files d s.tree))) s))
  drop-cut s g n = unlinked (files d s.tree) n s g (files-ascend d s.tree g.tree.sorted) (λ f i. (files-named d s.tree f i, files_in d f s.tree i))

-- The host's way to copy: aside, as a staging file x, then renamed into its place.
abbrev pub copy_aside : Name → Name → Name → Name → Directory → List Call
copy_aside x a b f t =
    open-read (file_path a f) ∷ open-create-truncate (staged_path x) ∷ pwrite (staged_path x) 0 (bytes_in (resolve (file_path a f) t)) ∷ rename (staged_path x) (file_path b f) ∷ []

abbrev pub with_staged : Name → ℕ → Store → Store
with_staged x n s = record { tree = s.tree; staging = put (staging_key x) n s.staging; log = s.log; open_mark = s.open_mark }

module _ (bytes : ℕ → Bytes) {N : Name → Type 0} (s : Store) (w : Good N s) (x a b f : Name) (z : IsName x) (e : look (staging_key x) s.staging ≡ none) (h : Ready (copy_file a b f) s) where
  abbrev C : Directory
  C = folders bytes s.tree (dirs s.tree)

  abbrev G : Directory
  G = folder bytes [] s.staging

  abbrev y : ℕ
  y = h.0.1.0

  abbrev aside : Directory
  aside = enter x (file (bytes y)) G

  rises : Rising (folder bytes [] s.staging)
  rises = rising-folder bytes [] s.staging w.staging.sorted

  there : resolve (file_path a f) (root C G s.log) ≡ ok (file (bytes y))
  there =
      resolve-file C G s.log a f (folder bytes a s.tree) (file (bytes y))
      (find-standing bytes s w a (inside_of bytes s w a f h.0.1 h.0.0)) (find-file bytes s w a f h.0.1 h.0.0)

  read : call (open-read (file_path a f)) (root C G s.log) ≡ ok (root C G s.log)
  unfolding call
  read = rw there

  made : call (open-create-truncate (staged_path x)) (root C G s.log) ≡ ok (root C (enter x (file []) G) s.log)
  unfolding call
  made = change-staged opens C G s.log x (some (file [])) (ap opens (find_absent bytes [] x s.staging e))

  filled : call (pwrite (staged_path x) 0 (bytes y)) (root C (enter x (file []) G) s.log) ≡ ok (root C aside s.log)
  unfolding call
  filled =
      change-staged (writes 0 (bytes y)) C (enter x (file []) G) s.log x (some (file (written 0 (bytes y) []))) (ap (writes 0 (bytes y)) (find-enter-same x (file []) G))
      ∙ ap (λ (v : Directory). ok (root C v s.log)) (enter-enter x (file []) _ G rises ∙ ap (λ (v : Bytes). enter x (file v) G) (written-whole (bytes y)))

  -- Before the rename.
  pub copy_cut : calls (take 3 (copy_aside x a b f (disk bytes s))) (disk bytes s) ≡ ok (disk bytes (with_staged x h.0.1.0 s))
  unfolding disk
  copy_cut = rw (there, read, made, filled) (ap (λ (v : Directory). ok (root C v s.log)) (sym (folder-put bytes [] x y s.staging w.staging.sorted z)))

  -- All of them do what the step does.
  pub copied-aside : calls (copy_aside x a b f (disk bytes s)) (disk bytes s) ≡ ok (disk bytes (apply (copy_file a b f) s))
  unfolding disk apply
  copied-aside = rw (h.0.1.1, there, read, made, filled, moved)
    where
      u : Directory
      u = folders bytes (put (b, f) y s.tree) (dirs (put (b, f) y s.tree))

      moved : call (rename (staged_path x) (file_path b f)) (root C aside s.log) ≡ ok (root u G s.log)
      moved =
          renamed (staged_path x) (file_path b f) (file (bytes y)) (root C aside s.log) (root u aside s.log) _
          (resolve-staged C aside s.log x (file (bytes y)) (find-enter-same x (file (bytes y)) G))
          (staged-apart x b f)
          (place bytes s w aside b f y h.1 h.0.0)
          (change-staged vacates u aside s.log x none refl
          ∙ ap (λ (v : Directory). ok (root u v s.log)) (leave-enter x (file (bytes y)) G rises ∙ leave-absent x G rises (find_absent bytes [] x s.staging e)))
