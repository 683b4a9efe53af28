-- Each step's calls, where it is ready, lead from the disk of a store to the disk of the store after the step.
use Rattle.std.specs.Prelude.{◌≡◌}
use Rattle.std.proofs.Math.Path.{refl, sym, ap}
use Rattle.std.proofs.Common.{◌∙◌}
use Prim.Native.Nat.{ℕ}
use mathlib.Core.List.{List, [], ◌∷◌, ◌++◌, map}
use Rattle.std.proofs.Math.Option.{Option, none, some}
use Rattle.basics.specs.Order.{Cmp, lt, eq, gt, Name, Key, cmp_name, case_cmp}
use Rattle.basics.specs.Map.{Map, look, put, del, Has}
use Rattle.basics.specs.Base.{Bytes, case_option, if_empty}
use Rattle.model.specs.Log.{header, mark_committing, mark_held, with_status}
use Rattle.basics.specs.Field.{little_endian}
use Rattle.model.specs.Store.{Store, staging_key, dirs, files}
use Rattle.model.specs.Step.{Step, rewrite_header, sync_staging, sync_log, remove_log, sync_journal, sync_collections, make_directory, rename_file, move_staged, rename_directory, copy_file, remove_file, remove_directory, remove_staging, sync_directory, remove_dir, apply, hold_header}
use Rattle.posix.specs.Posix.{file, directory, Directory, empty, entry, find, enter, ok, resolve, change, makes, unlinks, removes, opens, written, writes, replaces, vacates, Call, rename, unlink, rmdir, fsync, pwrite, call, calls}
use Rattle.posix.specs.Disk.{collections_name, journal_name, directory_path, file_path, staged_path, log_path, folder, folders, root, disk, entry_names, step_calls}
use Rattle.basic_laws.specs.MapLaws.{Sorted, put_back, commute, look-put-other, sorted-put}
use Rattle.basic_laws.specs.ValidNames.{valid-named}
use Rattle.laws.specs.StoreLaws.{Good, name_dec}
use Rattle.laws.specs.Listings.{files-has}
use Rattle.posix_laws.specs.PosixLaws.{Rising, enter-same, find-enter-same, enter-enter, leave-enter}
use Rattle.posix_laws.specs.CallLaws.{staged-apart, begins-file, begins-directory, one, renamed, renamed-same, change-directory, change-file, change-staged, resolve-directory, resolve-file, resolve-staged, resolve-staging, resolve-journal, resolve-collections, resolve-log, write-log, unlink_log, fsyncs, fsync_all, AllFiles, unlink_all, written-whole}
use Rattle.posix_laws.specs.FolderLaws.{find-folder, find-folders, rising-folder, rising-folders, folder-del, folder-empty, collections-put, collections-del, collections-make, collections-drop, collections-move}
use Rattle.posix_laws.specs.Ready.{IsName, Ready}

module _ (bytes : ℕ → Bytes) where
  files-alone : (d : Name) (t : Map) → AllFiles (folder bytes d t)
  unfolding folder
  files-alone d [] = tt
  files-alone d (n ∷ r) = go (cmp_name d n.0.0) n.0.1 (files-alone d r)
    where
      go : (c : Cmp) (f : Name) → AllFiles (folder bytes d r) →
          AllFiles (case_cmp c (folder bytes d r) (if_empty f (folder bytes d r) (entry f (file (bytes n.1)) (folder bytes d r))) (folder bytes d r))
      go lt f ih = ih
      go eq [] ih = ih
      go eq (y ∷ ys) ih = (refl, ih)
      go gt f ih = ih

  -- A listing on disk is the store's.
  pub names-listed : (d : Name) (t : Map) → entry_names (folder bytes d t) ≡ files d t
  unfolding entry_names folder files
  names-listed d [] = refl
  names-listed d (n ∷ r) = go (cmp_name d n.0.0) n.0.1 (names-listed d r)
    where
      go : (c : Cmp) (f : Name) → entry_names (folder bytes d r) ≡ files d r →
          entry_names (case_cmp c (folder bytes d r) (if_empty f (folder bytes d r) (entry f (file (bytes n.1)) (folder bytes d r))) (folder bytes d r))
          ≡ case_cmp c (files d r) (if_empty f (files d r) (f ∷ files d r)) (files d r)
      go lt f ih = ih
      go eq [] ih = ih
      go eq (y ∷ ys) ih = ap ((y ∷ ys) ∷◌) ih
      go gt f ih = ih

  -- A file stands for a file, or for nothing.
  file-over : (b : Bytes) (o : Option ℕ) → replaces (file b) (case_option o none (λ x. some (file (bytes x)))) ≡ ok (some (file b))
  file-over b none = refl
  file-over b (some x) = refl

  opened : (o : Option ℕ) → opens (case_option o none (λ x. some (file (bytes x)))) ≡ ok (some (file []))
  opened none = refl
  opened (some x) = refl

  directory-over : (u e : Directory) (o : Option ℕ) → e ≡ empty → replaces (directory u) (case_option o none (λ x. some (directory e))) ≡ ok (some (directory u))
  directory-over u e none z = refl
  directory-over u e (some x) z = rw z

  -- A file goes from any tree.
  vacate : (d f : Name) (t : Map) → Sorted t → Has (d, []) t → IsName f → (g : Directory) (l : Option Bytes) →
      change vacates (file_path d f) (root (folders bytes t (dirs t)) g l) ≡ ok (root (folders bytes (del (d, f) t) (dirs (del (d, f) t))) g l)
  vacate d f t s i z g l =
      change-file vacates (folders bytes t (dirs t)) g l d f (folder bytes d t) none (find-folders bytes t d t ∙ rw i.1) refl
      ∙ ap (λ (v : Directory). ok (root v g l)) (sym (collections-del bytes d f t s i z))

  -- A step's calls do what the step does.
  abbrev pub Done : Step → Store → Type 0
  Done x s = calls (step_calls x (disk bytes s)) (disk bytes s) ≡ ok (disk bytes (apply x s))

  module _ {N : Name → Type 0} (s : Store) (w : Good N s) where
    abbrev C : Directory
    C = folders bytes s.tree (dirs s.tree)

    abbrev G : Directory
    G = folder bytes [] s.staging

    sorted : Sorted s.tree
    sorted = w.tree.sorted

    rising : Rising (folders bytes s.tree (dirs s.tree))
    rising = rising-folders bytes s.tree s.tree sorted

    pub find-standing : (d : Name) → Has (d, []) s.tree → find d (folders bytes s.tree (dirs s.tree)) ≡ some (directory (folder bytes d s.tree))
    find-standing d i = find-folders bytes s.tree d s.tree ∙ rw i.1

    pub find-missing : (d : Name) → look (d, []) s.tree ≡ none → find d (folders bytes s.tree (dirs s.tree)) ≡ none
    find-missing d e = find-folders bytes s.tree d s.tree ∙ rw e

    pub find-file : (d f : Name) (i : Has (d, f) s.tree) → IsName f → find f (folder bytes d s.tree) ≡ some (file (bytes i.0))
    find-file d f i z = find-folder bytes d f s.tree z ∙ rw i.1

    pub inside_of : (d f : Name) → Has (d, f) s.tree → IsName f → Has (d, []) s.tree
    inside_of d f i z = (w.tree.node d f i.0 i.1).inside z

    no-files : (d : Name) → files d s.tree ≡ [] → (f : Name) → IsName f → look (d, f) s.tree ≡ none
    no-files d e f z = go (look (d, f) s.tree) refl
      where
        go : (o : Option ℕ) → look (d, f) s.tree ≡ o → look (d, f) s.tree ≡ none
        go none p = p
        go (some x) p = absurd (rw e at (files-has d f s.tree z (x, p)))

    find-staged : (f : Name) (i : Has (staging_key f) s.staging) → find f (folder bytes [] s.staging) ≡ some (file (bytes i.0))
    find-staged f i = find-folder bytes [] f s.staging (valid-named f (w.staging.node (staging_key f) i.0 i.1).name) ∙ rw i.1

    done-make : (d : Name) → Ready (make_directory d) s → Done (make_directory d) s
    unfolding step_calls disk apply call
    done-make d h =
        let e : look (d, []) s.tree ≡ none = go (look (d, []) s.tree) refl in
        rw (change-directory makes C G s.log d (some (directory empty)) (ap makes (find-missing d e)))
        (ap (λ (v : Directory). ok (root v G s.log)) (sym (collections-make bytes d s.tree sorted (λ f z. none_in f z (look (d, f) s.tree) refl))))
      where
        go : (o : Option ℕ) → look (d, []) s.tree ≡ o → look (d, []) s.tree ≡ none
        go none p = p
        go (some x) p = absurd (h (x, p))

        none_in : (f : Name) → IsName f → (o : Option ℕ) → look (d, f) s.tree ≡ o → look (d, f) s.tree ≡ none
        none_in f z none p = p
        none_in f z (some x) p = absurd (h (inside_of d f (x, p) z))

    -- A file is put into a directory that stands, whatever the staging files are.
    pub place : (g : Directory) (d k : Name) (x : ℕ) → Has (d, []) s.tree → IsName k →
        change (replaces (file (bytes x))) (file_path d k) (root C g s.log) ≡ ok (root (folders bytes (put (d, k) x s.tree) (dirs (put (d, k) x s.tree))) g s.log)
    place g d k x i z =
        change-file (replaces (file (bytes x))) C g s.log d k (folder bytes d s.tree) (some (file (bytes x))) (find-standing d i)
        (ap (replaces (file (bytes x))) (find-folder bytes d k s.tree z) ∙ file-over (bytes x) (look (d, k) s.tree))
        ∙ ap (λ (v : Directory). ok (root v g s.log)) (sym (collections-put bytes d k x s.tree sorted i z))

    done-rename : (d a b : Name) → Ready (rename_file d a b) s → Done (rename_file d a b) s
    unfolding step_calls disk apply
    done-rename d a b h =
        rw h.0.1.1
        (one (rename (file_path d a) (file_path d b)) (root C G s.log) _ (go (name_dec a b)))
      where
        x : ℕ
        x = h.0.1.0

        i : Has (d, []) s.tree
        i = inside_of d a h.0.1 h.0.0

        there : resolve (file_path d a) (root C G s.log) ≡ ok (file (bytes x))
        there = resolve-file C G s.log d a (folder bytes d s.tree) (file (bytes x)) (find-standing d i) (find-file d a h.0.1 h.0.0)

        after : Map
        after = put (d, b) x (del (d, a) s.tree)

        -- Onto itself.
        back : a ≡ b → after ≡ s.tree
        back p = ap (λ (c : Name). put (d, b) x (del (d, c) s.tree)) p ∙ put_back (d, b) x s.tree sorted (sym (ap (λ (c : Name). look (d, c) s.tree) p) ∙ h.0.1.1)

        swap : (a ≡ b → ⊥) → del (d, a) (put (d, b) x s.tree) ≡ after
        swap p = commute (d, b) (d, a) x s.tree sorted (λ e. p (ap (λ (k : Key). k.1) e))

        go : Dec (a ≡ b) → call (rename (file_path d a) (file_path d b)) (root C G s.log) ≡ ok (root (folders bytes after (dirs after)) G s.log)
        go (yes p) = onto p
          where
            onto : a ≡ b → call (rename (file_path d a) (file_path d b)) (root C G s.log) ≡ ok (root (folders bytes after (dirs after)) G s.log)
            onto p =
                renamed-same (file_path d a) (file_path d b) (file (bytes x)) (root C G s.log) there (ap (file_path d) p)
                ∙ ap (λ (m : Map). ok (root (folders bytes m (dirs m)) G s.log)) (sym (back p))
        go (no p) =
            let u : Map = put (d, b) x s.tree in
            renamed (file_path d a) (file_path d b) (file (bytes x)) (root C G s.log) (root (folders bytes u (dirs u)) G s.log) _ there (begins-file collections_name d a b p)
            (place G d b x i h.1)
            (vacate d a u (sorted-put (d, b) x s.tree sorted) (i.0, look-put-other (d, b) (d, []) x s.tree (λ e. h.1 (sym (ap (λ (k : Key). k.1) e))) ∙ i.1) h.0.0 G s.log
            ∙ ap (λ (m : Map). ok (root (folders bytes m (dirs m)) G s.log)) (swap p))

    done-move : (f d k : Name) → Ready (move_staged f d k) s → Done (move_staged f d k) s
    unfolding step_calls disk apply
    done-move f d k h =
        rw h.0.1
        (one (rename (staged_path f) (file_path d k)) (root C G s.log) _
        (renamed (staged_path f) (file_path d k) (file (bytes x)) (root C G s.log) (root (folders bytes u (dirs u)) G s.log) _
        (resolve-staged C G s.log f (file (bytes x)) (find-staged f h.0)) (staged-apart f d k) (place G d k x h.1 h.2)
        (change-staged vacates (folders bytes u (dirs u)) G s.log f none refl
        ∙ ap (λ (v : Directory). ok (root (folders bytes u (dirs u)) v s.log)) (sym (folder-del bytes [] f s.staging w.staging.sorted)))))
      where
        x : ℕ
        x = h.0.0

        u : Map
        u = put (d, k) x s.tree

    done-rename-directory : (a b : Name) → Ready (rename_directory a b) s → Done (rename_directory a b) s
    unfolding step_calls disk apply
    done-rename-directory a b h =
        one (rename (directory_path a) (directory_path b)) (root C G s.log) _
        (renamed (directory_path a) (directory_path b) (directory F) (root C G s.log) (root (enter b (directory F) C) G s.log) _
        (resolve-directory C G s.log a (directory F) (find-standing a h.0))
        (begins-directory collections_name a b h.2)
        (change-directory (replaces (directory F)) C G s.log b (some (directory F))
        (ap (replaces (directory F)) (find-folders bytes s.tree b s.tree)
        ∙ directory-over F (folder bytes b s.tree) (look (b, []) s.tree) (folder-empty bytes b s.tree sorted (no-files b h.1))))
        (change-directory vacates (enter b (directory F) C) G s.log a none refl
        ∙ ap (λ (v : Directory). ok (root v G s.log)) (sym (collections-move bytes a b s.tree h.2 sorted h.0 (no-files b h.1)))))
      where
        F : Directory
        F = folder bytes a s.tree

    done_copy : (a b f : Name) → Ready (copy_file a b f) s → Done (copy_file a b f) s
    unfolding step_calls disk apply call
    done_copy a b f h =
        rw (h.0.1.1, there, made, filled)
        (ap (λ (v : Directory). ok (root v G s.log)) (sym (collections-put bytes b f x s.tree sorted h.1 h.0.0)))
      where
        x : ℕ
        x = h.0.1.0

        there : resolve (file_path a f) (root C G s.log) ≡ ok (file (bytes x))
        there = resolve-file C G s.log a f (folder bytes a s.tree) (file (bytes x)) (find-standing a (inside_of a f h.0.1 h.0.0)) (find-file a f h.0.1 h.0.0)

        new : Directory
        new = enter f (file []) (folder bytes b s.tree)

        made : change opens (file_path b f) (root C G s.log) ≡ ok (root (enter b (directory new) C) G s.log)
        made =
            change-file opens C G s.log b f (folder bytes b s.tree) (some (file [])) (find-standing b h.1)
            (ap opens (find-folder bytes b f s.tree h.0.0) ∙ opened (look (b, f) s.tree))

        filled : change (writes 0 (bytes x)) (file_path b f) (root (enter b (directory new) C) G s.log)
            ≡ ok (root (enter b (directory (enter f (file (bytes x)) (folder bytes b s.tree))) C) G s.log)
        filled =
            change-file (writes 0 (bytes x)) (enter b (directory new) C) G s.log b f new (some (file (written 0 (bytes x) [])))
            (find-enter-same b (directory new) C) (ap (writes 0 (bytes x)) (find-enter-same f (file []) (folder bytes b s.tree)))
            ∙ ap (λ (v : Directory). ok (root v G s.log))
            (enter-enter b (directory new) _ C rising
            ∙ ap (λ (v : Directory). enter b (directory v) C)
            (enter-enter f (file []) _ (folder bytes b s.tree) (rising-folder bytes b s.tree sorted) ∙ ap (λ (v : Bytes). enter f (file v) (folder bytes b s.tree)) (written-whole (bytes x))))

    done_remove : (d f : Name) → Ready (remove_file d f) s → Done (remove_file d f) s
    unfolding step_calls disk apply call
    done_remove d f h =
        let i : Has (d, []) s.tree = inside_of d f h.1 h.0 in
        rw (change-file unlinks C G s.log d f (folder bytes d s.tree) none (find-standing d i) (ap unlinks (find-file d f h.1 h.0)))
        (ap (λ (v : Directory). ok (root v G s.log)) (sym (collections-del bytes d f s.tree sorted i h.0)))

    done-drop : (d : Name) → Ready (remove_directory d) s → Done (remove_directory d) s
    unfolding step_calls disk apply
    done-drop d h =
        rw (resolve-directory C G s.log d (directory F) (find-standing d h))
        (ap (λ (v : Directory). calls cs (root v G s.log)) (sym (enter-same d (directory F) C rising (find-standing d h)))
        ∙ unlink_all d C F G s.log (rmdir (directory_path d) ∷ []) rising (rising-folder bytes d s.tree sorted) (files-alone d s.tree)
        ∙ one (rmdir (directory_path d)) (root (enter d (directory empty) C) G s.log) _ gone)
      where
        F : Directory
        F = folder bytes d s.tree

        cs : List Call
        cs = map (λ f. unlink (file_path d f)) (entry_names F) ++ rmdir (directory_path d) ∷ []

        gone : call (rmdir (directory_path d)) (root (enter d (directory empty) C) G s.log) ≡ ok (root (folders bytes (remove_dir d s.tree) (dirs (remove_dir d s.tree))) G s.log)
        gone = unfold call in (change-directory removes (enter d (directory empty) C) G s.log d none (ap removes (find-enter-same d (directory empty) C))
            ∙ ap (λ (v : Directory). ok (root v G s.log)) (leave-enter d (directory empty) C rising ∙ sym (collections-drop bytes d s.tree sorted)))

    done_unstage : (f : Name) → Ready (remove_staging f) s → Done (remove_staging f) s
    unfolding step_calls disk apply call
    done_unstage f h =
        rw (change-staged unlinks C G s.log f none (ap unlinks (find-staged f h)))
        (ap (λ (v : Directory). ok (root C v s.log)) (sym (folder-del bytes [] f s.staging w.staging.sorted)))

    -- The header rewritten, whatever the status.
    eight : (status : ℕ) (l : Bytes) → written 0 (header status) l ≡ with_status status l
    unfolding header little_endian
    eight status l = refl

    rewrites : (status : ℕ) (l : Bytes) → call (pwrite log_path 0 (header status)) (root C G (some l)) ≡ ok (root C G (some (with_status status l)))
    rewrites status l = write-log C G l (header status) ∙ ap (λ (b : Bytes). ok (root C G (some b))) (eight status l)

    done-mark : Ready rewrite_header s → Done rewrite_header s
    unfolding step_calls disk apply mark_committing
    done-mark h = rw h.1 (one (pwrite log_path 0 (header 1)) (root C G (some h.0)) _ (rewrites 1 h.0))

    done-hold : Ready hold_header s → Done hold_header s
    unfolding step_calls disk apply mark_held
    done-hold h = rw h.1 (one (pwrite log_path 0 (header 2)) (root C G (some h.0)) _ (rewrites 2 h.0))

    done_unlog : Ready remove_log s → Done remove_log s
    unfolding step_calls disk apply
    done_unlog h = rw h.1 (one (unlink log_path) (root C G (some h.0)) _ (unlink_log C G h.0))

    done-sync-log : Ready sync_log s → Done sync_log s
    unfolding step_calls disk apply
    done-sync-log h = rw h.1 (one (fsync log_path) (root C G (some h.0)) _ (fsyncs log_path (file h.0) _ (resolve-log C G h.0)))

    done-sync-staging : Done sync_staging s
    unfolding step_calls disk apply
    done-sync-staging = rw (resolve-staging C G s.log) (fsync_all C G G s.log (λ k x e. e) (rising-folder bytes [] s.staging w.staging.sorted))

    -- The law.
    pub step-done : (x : Step) → Ready x s → Done x s
    step-done rewrite_header h = done-mark h
    step-done hold_header h = done-hold h
    step-done sync_staging h = done-sync-staging
    step-done sync_log h = done-sync-log h
    step-done remove_log h = done_unlog h
    step-done sync_journal h = unfold step_calls disk apply in (one (fsync (journal_name ∷ [])) (root C G s.log) _ (fsyncs _ _ (root C G s.log) (resolve-journal C G s.log)))
    step-done sync_collections h = unfold step_calls disk apply in (one (fsync (collections_name ∷ [])) (root C G s.log) _ (fsyncs _ _ (root C G s.log) (resolve-collections C G s.log)))
    step-done (make_directory d) h = done-make d h
    step-done (rename_file d a b) h = done-rename d a b h
    step-done (move_staged f d k) h = done-move f d k h
    step-done (rename_directory a b) h = done-rename-directory a b h
    step-done (copy_file a b f) h = done_copy a b f h
    step-done (remove_file d f) h = done_remove d f h
    step-done (remove_directory d) h = done-drop d h
    step-done (remove_staging f) h = done_unstage f h
    step-done (sync_directory d) h =
        unfold step_calls disk apply in (one (fsync (directory_path d)) (root C G s.log) _
        (fsyncs _ _ (root C G s.log) (resolve-directory C G s.log d _ (find-standing d h))))
