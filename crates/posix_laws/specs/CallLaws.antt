-- The calls on the paths of a store.
use Rattle.std.specs.Prelude.{◌≡◌, ◌+◌, List, [], ◌∷◌, ◌++◌, map, Bool, true, false, ◌&&◌, length, if◌then◌else◌}
use Rattle.std.proofs.Math.Path.{refl}
use Rattle.std.proofs.Common.{sym, ◌∙◌, ap, append-nil}
use Rattle.std.proofs.Math.Option.{Option, none, some}
use Rattle.std.proofs.lemmas.Bool.{false≢true}
use Rattle.std.proofs.Math.Seq.{drop-nil}
use Rattle.basics.specs.Order.{Name}
use Rattle.basics.specs.Base.{Bytes, case_option, same_bytes}
use Rattle.posix.specs.Posix.{Node, file, directory, Directory, empty, entry, find, enter, leave, Path, Errno, EINVAL, Result, ok, error, and_then, resolve, change, unlinks, written, replaces, vacates, is_directory, begins, Call, rename, unlink, fsync, pwrite, call, calls}
use Rattle.basics.specs.Worked.{text}
use Rattle.posix.specs.Disk.{collections_name, journal_name, staging_name, log_name, directory_path, file_path, staged_path, log_path, log_entry, root, entry_names}
use Rattle.basic_laws.specs.Tests.{same-eq, same_refl}
use Rattle.posix_laws.specs.PosixLaws.{Rising, other_lt, find_head, find-tail, find-enter-same, enter-enter, leave-head}

-- Paths.
same-apart : (a b : Name) → (a ≡ b → ⊥) → same_bytes a b ≡ false
same-apart a b h = go (same_bytes a b) refl
  where
    go : (t : Bool) → same_bytes a b ≡ t → same_bytes a b ≡ false
    go true e = absurd (h (same-eq a b e))
    go false e = e

begins-refl : (p : Path) → begins p p ≡ true
begins-refl [] = refl
begins-refl (n ∷ p) = rw (same_refl n) (begins-refl p)

pub begins-file : (c d a b : Name) → (a ≡ b → ⊥) → begins (c ∷ d ∷ a ∷ []) (c ∷ d ∷ b ∷ []) ≡ false
begins-file c d a b h = rw (same_refl c, same_refl d, same-apart a b h)

pub begins-directory : (c a b : Name) → (a ≡ b → ⊥) → begins (c ∷ a ∷ []) (c ∷ b ∷ []) ≡ false
begins-directory c a b h = rw (same_refl c, same-apart a b h)

pub staged-apart : (f d k : Name) → begins (staged_path f) (file_path d k) ≡ false
unfolding text collections_name journal_name
staged-apart f d k = refl

-- One call; a rename whose paths neither are the same nor lie below each other.
pub one : (c : Call) (t u : Directory) → call c t ≡ ok u → calls (c ∷ []) t ≡ ok u
one c t u e = rw e

-- What a change makes of what a name names, and of the directory.
abbrev pub changed : Name → Option Node → Directory → Directory
changed n x t = case_option x (leave n t) (λ y. enter n y t)

pub renamed : (p q : Path) (x : Node) (t u v : Directory) → resolve p t ≡ ok x → begins p q ≡ false → change (replaces x) q t ≡ ok u → change vacates p u ≡ ok v → call (rename p q) t ≡ ok v
unfolding call
renamed p q x t u v a b c d = rw (a, b) (at (is_directory x))
  where
    at : (t' : Bool) → if◌then◌else◌ (t' && false) (error EINVAL) (and_then (change (replaces x) q t) (change vacates p)) ≡ ok v
    at true = rw (c, d)
    at false = rw (c, d)

pub renamed-same : (p q : Path) (x : Node) (t : Directory) → resolve p t ≡ ok x → p ≡ q → call (rename p q) t ≡ ok t
unfolding call
renamed-same p q x t a e = rw (← e, a, begins-refl p)

module _ (f : Option Node → Result (Option Node)) (c g : Directory) (l : Option Bytes) where
  pub change-directory : (d : Name) (x : Option Node) → f (find d c) ≡ ok x → change f (directory_path d) (root c g l) ≡ ok (root (changed d x c) g l)
  unfolding change root find enter text collections_name journal_name staging_name log_name
  change-directory d x e = rw e

  pub refuse-directory : (d : Name) (n : Errno) → f (find d c) ≡ error n → change f (directory_path d) (root c g l) ≡ error n
  unfolding change root find enter text collections_name journal_name staging_name log_name
  refuse-directory d n e = rw e

  pub change-file : (d k : Name) (u : Directory) (x : Option Node) → find d c ≡ some (directory u) → f (find k u) ≡ ok x →
      change f (file_path d k) (root c g l) ≡ ok (root (enter d (directory (changed k x u)) c) g l)
  unfolding change root find enter text collections_name journal_name staging_name log_name
  change-file d k u x a e = rw (a, e)

  pub change-staged : (k : Name) (x : Option Node) → f (find k g) ≡ ok x → change f (staged_path k) (root c g l) ≡ ok (root c (changed k x g) l)
  unfolding change root find enter text collections_name journal_name staging_name log_name
  change-staged k x e = rw e

module _ (c g : Directory) (l : Option Bytes) where
  pub resolve-directory : (d : Name) (x : Node) → find d c ≡ some x → resolve (directory_path d) (root c g l) ≡ ok x
  unfolding resolve root find text collections_name journal_name staging_name log_name
  resolve-directory d x e = rw e

  pub resolve-file : (d k : Name) (u : Directory) (x : Node) → find d c ≡ some (directory u) → find k u ≡ some x → resolve (file_path d k) (root c g l) ≡ ok x
  unfolding resolve root find text collections_name journal_name staging_name log_name
  resolve-file d k u x a e = rw (a, e)

  pub resolve-staged : (k : Name) (x : Node) → find k g ≡ some x → resolve (staged_path k) (root c g l) ≡ ok x
  unfolding resolve root find text collections_name journal_name staging_name log_name
  resolve-staged k x e = rw e

  pub resolve-staging : resolve (journal_name ∷ staging_name ∷ []) (root c g l) ≡ ok (directory g)
  unfolding resolve root find text collections_name journal_name staging_name log_name
  resolve-staging = refl

  pub resolve-journal : resolve (journal_name ∷ []) (root c g l) ≡ ok (directory (entry staging_name (directory g) (log_entry l)))
  unfolding resolve root find text collections_name journal_name staging_name log_name
  resolve-journal = refl

  pub resolve-collections : resolve (collections_name ∷ []) (root c g l) ≡ ok (directory c)
  unfolding resolve root find text collections_name journal_name staging_name log_name
  resolve-collections = refl

-- The log.
pub resolve-log : (c g : Directory) (l : Bytes) → resolve log_path (root c g (some l)) ≡ ok (file l)
unfolding resolve root find text collections_name journal_name staging_name log_name
resolve-log c g l = refl

pub write-log : (c g : Directory) (l b : Bytes) → call (pwrite log_path 0 b) (root c g (some l)) ≡ ok (root c g (some (written 0 b l)))
unfolding call change root find enter text collections_name journal_name staging_name log_name
write-log c g l b = refl

pub unlink_log : (c g : Directory) (l : Bytes) → call (unlink log_path) (root c g (some l)) ≡ ok (root c g none)
unfolding call change root find enter leave text collections_name journal_name staging_name log_name
unlink_log c g l = refl

pub fsyncs : (p : Path) (x : Node) (t : Directory) → resolve p t ≡ ok x → call (fsync p) t ≡ ok t
unfolding call
fsyncs p x t e = rw e

-- Syncing every entry of a directory; unlinking every file of one.
pub fsync_all : (c g h : Directory) (l : Option Bytes) → ((k : Name) (x : Node) → find k h ≡ some x → find k g ≡ some x) → Rising h →
    calls (map (λ f. fsync (staged_path f)) (entry_names h)) (root c g l) ≡ ok (root c g l)
unfolding entry_names
fsync_all c g empty l i r = refl
fsync_all c g (entry n x h) l i r =
    rw (fsyncs (staged_path n) x (root c g l) (resolve-staged c g l n x (i n x (find_head n x h))))
    (fsync_all c g h l (λ k y e. i k y (at k y e)) r.1)
  where
    at : (k : Name) (y : Node) → find k h ≡ some y → find k (entry n x h) ≡ some y
    at k y e = find-tail k n x h (λ p. other_lt (r.0 k y e) (sym p)) ∙ e

-- A directory of files alone.
abbrev pub AllFiles : Directory → Type 0
AllFiles empty = Unit {0}
AllFiles (entry n x r) = (is_directory x ≡ false) × AllFiles r

pub unlink_all : (d : Name) (c h g : Directory) (l : Option Bytes) (cs : List Call) → Rising c → Rising h → AllFiles h →
    calls (map (λ f. unlink (file_path d f)) (entry_names h) ++ cs) (root (enter d (directory h) c) g l) ≡ calls cs (root (enter d (directory empty) c) g l)
unfolding entry_names call
unlink_all d c empty g l cs rc r a = refl
unlink_all d c (entry n x h) g l cs rc r a =
    rw (gone x a.0) (unlink_all d c h g l cs rc r.1 a.1)
  where
    gone : (x : Node) → is_directory x ≡ false → change unlinks (file_path d n) (root (enter d (directory (entry n x h)) c) g l) ≡ ok (root (enter d (directory h) c) g l)
    gone (file b) e =
        change-file unlinks (enter d (directory (entry n (file b) h)) c) g l d n (entry n (file b) h) none (find-enter-same d (directory (entry n (file b) h)) c) (ap unlinks (find_head n (file b) h))
        ∙ ap (λ (v : Directory). ok (root v g l)) (enter-enter d (directory (entry n (file b) h)) _ c rc ∙ ap (λ (v : Directory). enter d (directory v) c) (leave-head n (file b) h (r.0, r.1)))
    gone (directory t) e = absurd (false≢true (sym e))

-- What is written to an empty file.
pub written-whole : (b : Bytes) → written 0 b [] ≡ b
written-whole [] = refl
written-whole (x ∷ b) = ap (λ (r : Bytes). x ∷ b ++ r) (drop-nil (0 + length (x ∷ b))) ∙ append-nil (x ∷ b)
