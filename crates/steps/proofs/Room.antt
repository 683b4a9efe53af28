-- Trees within their limits: there is room for one node more, and every step that is allowed keeps them so.
use Rattle.std.specs.Prelude.{if◌then◌else◌}
use mathlib.Core.Path.{◌≡◌, refl}
use mathlib.Core.List.{[]}
use mathlib.Core.Option.{Option, none, some}
use Prim.Native.Nat.{ℕ, ◌≤◌, ◌<◌}
use native.Mathlib.Omega.{arith}
use lib.ListN.{length}
use lib.Dec.{ltb}
use borrow.Author.Tests.{ltb-true}
use Rattle.basics.specs.Limits.{dir_limit, file_limit}
use Rattle.basics.specs.Order.{Name}
use Rattle.basics.specs.Map.{Map, look, put, del}
use Rattle.basics.specs.Base.{case_option}
use Rattle.model.specs.Store as model
use Rattle.model.specs.Store.{dirs, file_count, staging_key}
use Rattle.model.specs.Step as step
use Rattle.model.specs.Step.{Step, apply, step_fault, new_file, fails, full}
use Rattle.basic_laws.specs.MapLaws.{Sorted}
use Rattle.laws.specs.TreeLaws.{size, is_file, is_dir, file-size, dir-size, size-put_le, size-put-has, size-del_le, size-del-has}
use Rattle.laws.specs.StoreLaws.{Good, size-drop_le, size-rename_le}
use Rattle.laws.specs.StepLaws.{not_full, file_weight}
use Rattle.store.specs.Places.{table_room}
use Rattle.store.proofs.Tally.{dirs-files}
use Rattle.steps.specs.Steps.{Within, Allowed}

-- A well-formed store is within its limits.
pub of-good : {N : Name → Type 0} {s : model.Store} → Good N s → Within s.tree
of-good {s} g = record {
  dirs = let p = dir-size s.tree in let q = g.tree.dirs_fit in omega arith;
  files = let p = file-size s.tree in let q = g.tree.files_fit in omega arith;
}

pub room : {t : Map} → Within t → length t < table_room
room {t} w = let b = dirs-files t in let d = w.dirs in let f = w.files in omega arith

-- By the weights of directories and of files.
by_size : {t : Map} → Within t → (u : Map) → size is_dir u ≤ size is_dir t → size is_file u ≤ size is_file t → Within u
by_size {t} w u d f =
    let a = dir-size t in
    let b = dir-size u in
    let c = file-size t in
    let e = file-size u in
    let x = w.dirs in
    let y = w.files in
    record { dirs = omega arith; files = omega arith }

-- One directory more, where there is one to come.
more-dirs : {t : Map} (d : Name) → Within t → length (dirs t) < dir_limit → Within (put (d, []) 0 t)
more-dirs {t} d w h =
    let a = size-put_le is_dir (d, []) 0 t in
    let b = size-put_le is_file (d, []) 0 t in
    let c = dir-size t in
    let e = dir-size (put (d, []) 0 t) in
    let f = file-size t in
    let g = file-size (put (d, []) 0 t) in
    let y = w.files in
    record { dirs = omega arith; files = omega arith }

-- A file put where one stands, or where there is one to come.
file-put : {t : Map} (d k : Name) (x : ℕ) → (k ≡ [] → ⊥) → new_file (d, k) t ≡ none → Sorted t → Within t → Within (put (d, k) x t)
file-put {t} d k x n h s w = go (look (d, k) t) refl h
  where
    go : (o : Option ℕ) → look (d, k) t ≡ o → case_option o (if ltb (file_count t) file_limit then none else some full) (λ x. none) ≡ none → Within (put (d, k) x t)
    go none e h =
        let v = file_weight d k n in
        let vf = v.0 in
        let vd = v.1 in
        let a = size-put_le is_dir (d, k) x t in
        let b = size-put_le is_file (d, k) x t in
        let l = ltb-true (file_count t) file_limit (not_full (ltb (file_count t) file_limit) full h) in
        let c = dir-size t in
        let e = dir-size (put (d, k) x t) in
        let f = file-size t in
        let g = file-size (put (d, k) x t) in
        let y = w.dirs in
        record { dirs = omega arith; files = omega arith }
    go (some y) e h =
        let a = size-put-has is_dir (d, k) x t s (y, e) in
        let b = size-put-has is_file (d, k) x t s (y, e) in
        by_size w (put (d, k) x t) (omega arith) (omega arith)

-- A file renamed.
renamed : {t : Map} (d a b : Name) → (a ≡ [] → ⊥) → (b ≡ [] → ⊥) → Within t → Within (case_option (look (d, a) t) t (λ x. put (d, b) x (del (d, a) t)))
renamed {t} d a b na nb w = go (look (d, a) t) refl
  where
    go : (o : Option ℕ) → look (d, a) t ≡ o → Within (case_option o t (λ x. put (d, b) x (del (d, a) t)))
    go none e = w
    go (some x) e =
        let va = (file_weight d a na).0 in
        let vb = file_weight d b nb in
        let vf = vb.0 in
        let vd = vb.1 in
        let p = size-put_le is_dir (d, b) x (del (d, a) t) in
        let q = size-put_le is_file (d, b) x (del (d, a) t) in
        let k = size-del_le is_dir (d, a) t in
        let l = size-del-has is_file (d, a) t (x, e) in
        by_size w (put (d, b) x (del (d, a) t)) (omega arith) (omega arith)

-- A number that is found and put as a file.
found-put : {t : Map} (o : Option ℕ) (d k : Name) → (k ≡ [] → ⊥) → case_option o (some fails) (λ x. new_file (d, k) t) ≡ none → Sorted t → Within t → Within (case_option o t (λ x. put (d, k) x t))
found-put none d k n h s w = w
found-put (some x) d k n h s w = file-put d k x n h s w

-- The files that a step makes have names.
abbrev pub Named : Step → Type 0
Named step.rewrite_header = Unit {0}
Named step.hold_header = Unit {0}
Named step.sync_staging = Unit {0}
Named step.sync_log = Unit {0}
Named step.remove_log = Unit {0}
Named step.sync_journal = Unit {0}
Named step.sync_collections = Unit {0}
Named (step.make_directory d) = Unit {0}
Named (step.rename_file d a b) = (a ≡ [] → ⊥) × (b ≡ [] → ⊥)
Named (step.move_staged f d k) = k ≡ [] → ⊥
Named (step.rename_directory a b) = Unit {0}
Named (step.copy_file a b f) = f ≡ [] → ⊥
Named (step.remove_file d f) = Unit {0}
Named (step.remove_directory d) = Unit {0}
Named (step.remove_staging f) = Unit {0}
Named (step.sync_directory d) = Unit {0}

pub kept : (x : Step) (s : model.Store) → Named x → Allowed x s → Sorted s.tree → Within s.tree → Within (apply x s).tree
unfolding apply step_fault
kept step.rewrite_header s n a o w = w
kept step.hold_header s n a o w = w
kept step.sync_staging s n a o w = w
kept step.sync_log s n a o w = w
kept step.remove_log s n a o w = w
kept step.sync_journal s n a o w = w
kept step.sync_collections s n a o w = w
kept (step.make_directory d) s n a o w = more-dirs d w (ltb-true (length (dirs s.tree)) dir_limit (not_full (ltb (length (dirs s.tree)) dir_limit) full a))
kept (step.rename_file d a b) s n h o w = renamed d a b n.0 n.1 w
kept (step.move_staged f d k) s n a o w = found-put (look (staging_key f) s.staging) d k n a o w
kept (step.rename_directory a b) s n h o w =
    by_size w _ (size-rename_le is_dir (λ c d f. refl) a b s.tree s.tree o (λ f z. z)) (size-rename_le is_file (λ c d f. refl) a b s.tree s.tree o (λ f z. z))
kept (step.copy_file a b f) s n h o w = found-put (look (a, f) s.tree) b f n h o w
kept (step.remove_file d f) s n a o w = by_size w _ (size-del_le is_dir (d, f) s.tree) (size-del_le is_file (d, f) s.tree)
kept (step.remove_directory d) s n a o w = by_size w _ (size-drop_le is_dir d s.tree) (size-drop_le is_file d s.tree)
kept (step.remove_staging f) s n a o w = w
kept (step.sync_directory d) s n a o w = w

-- A step that does not fail is allowed.
pub allowed : (x : Step) (s : model.Store) → step_fault x s ≡ none → Allowed x s
allowed step.rewrite_header s h = tt
allowed step.hold_header s h = tt
allowed step.sync_staging s h = tt
allowed step.sync_log s h = tt
allowed step.remove_log s h = tt
allowed step.sync_journal s h = tt
allowed step.sync_collections s h = tt
allowed (step.make_directory d) s h = h
allowed (step.rename_file d a b) s h = tt
allowed (step.move_staged f d k) s h = h
allowed (step.rename_directory a b) s h = tt
allowed (step.copy_file a b f) s h = h
allowed (step.remove_file d f) s h = tt
allowed (step.remove_directory d) s h = tt
allowed (step.remove_staging f) s h = tt
allowed (step.sync_directory d) s h = tt
