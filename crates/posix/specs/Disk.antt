-- How a store stands on disk, and the file calls of each step. Crate posix_laws shows that they succeed and do what `apply` says: DiskLaws for each step
-- that is ready, OnDisk for the steps of plans.
use Rattle.std.specs.Prelude.{ℕ, List, [], ◌∷◌, ◌++◌, map}
use Rattle.std.proofs.Math.Option.{Option, none, some}
use Rattle.basics.specs.Order.{Name, cmp_name, case_cmp}
use Rattle.basics.specs.Map.{Map}
use Rattle.basics.specs.Base.{Bytes, if_empty}
use Rattle.basics.specs.Worked.{text}
use Rattle.model.specs.Log.{header}
use Rattle.model.specs.Store.{Store, dirs}
use Rattle.model.specs.Step.{Step, rewrite_header, hold_header, sync_staging, sync_log, remove_log, sync_journal, sync_collections, make_directory, rename_file, move_staged, rename_directory, copy_file, remove_file, remove_directory, remove_staging, sync_directory}
use Rattle.posix.specs.Posix.{Node, file, directory, Directory, empty, entry, Path, Result, ok, error, resolve, Call, rename, mkdir, unlink, rmdir, open-read, open-create-truncate, fsync, pwrite}

-- The Rust's layout, below the store's directory: collections/<directory>/<file>, journal/transaction.wal, journal/staging/<file>.
unfoldable pub collections_name : Name
collections_name = text "collections"

unfoldable pub journal_name : Name
journal_name = text "journal"

unfoldable pub staging_name : Name
staging_name = text "staging"

unfoldable pub log_name : Name
log_name = text "transaction.wal"

abbrev pub directory_path : Name → Path
directory_path d = collections_name ∷ d ∷ []

abbrev pub file_path : Name → Name → Path
file_path d f = collections_name ∷ d ∷ f ∷ []

abbrev pub staged_path : Name → Path
staged_path f = journal_name ∷ staging_name ∷ f ∷ []

abbrev pub log_path : Path
log_path = journal_name ∷ log_name ∷ []

-- The files of directory d. 01, How a store is handed over: of a content number "the bytes themselves are the host's"; here any bytes.
unfoldable pub folder : (ℕ → Bytes) → Name → Map → Directory
folder bytes d [] = empty
folder bytes d (n ∷ r) =
    let rest = folder bytes d r in
    case_cmp (cmp_name d n.0.0) rest (if_empty n.0.1 rest (entry n.0.1 (file (bytes n.1)) rest)) rest

-- Directories with their files.
unfoldable pub folders : (ℕ → Bytes) → Map → List Name → Directory
folders bytes t [] = empty
folders bytes t (d ∷ l) = entry d (directory (folder bytes d t)) (folders bytes t l)

abbrev pub log_entry : Option Bytes → Directory
log_entry none = empty
log_entry (some l) = entry log_name (file l) empty

-- A store on disk, of its collections, its staging files and its log. collections, journal and journal/staging always stand; the open mark is the
-- process's.
unfoldable pub root : Directory → Directory → Option Bytes → Directory
root c g l = entry collections_name (directory c) (entry journal_name (directory (entry staging_name (directory g) (log_entry l))) empty)

unfoldable pub disk : (ℕ → Bytes) → Store → Directory
disk bytes s = root (folders bytes s.tree (dirs s.tree)) (folder bytes [] s.staging) s.log

-- XSH readdir(): the names in a directory ("." and ".." passed over; POSIX leaves their order open, here they ascend). XSH read(): a file's bytes.
unfoldable pub entry_names : Directory → List Name
entry_names empty = []
entry_names (entry n x r) = n ∷ entry_names r

abbrev pub names_in : Result Node → List Name
names_in (ok (directory t)) = entry_names t
names_in (ok (file b)) = []
names_in (error e) = []

abbrev pub bytes_in : Result Node → Bytes
bytes_in (ok (directory t)) = []
bytes_in (ok (file b)) = b
bytes_in (error e) = []

-- The calls of a step on the disk t, which is read for the listings of 0x21 and 0x29 and the bytes of 0x27. These three are several calls, all
-- others one.
unfoldable pub step_calls : Step → Directory → List Call
step_calls rewrite_header t = pwrite log_path 0 (header 1) ∷ []
step_calls hold_header t = pwrite log_path 0 (header 2) ∷ []
step_calls sync_staging t = map (λ f. fsync (staged_path f)) (names_in (resolve (journal_name ∷ staging_name ∷ []) t))
step_calls sync_log t = fsync log_path ∷ []
step_calls remove_log t = unlink log_path ∷ []
step_calls sync_journal t = fsync (journal_name ∷ []) ∷ []
step_calls sync_collections t = fsync (collections_name ∷ []) ∷ []
step_calls (make_directory d) t = mkdir (directory_path d) ∷ []
step_calls (rename_file d a b) t = rename (file_path d a) (file_path d b) ∷ []
step_calls (move_staged f d k) t = rename (staged_path f) (file_path d k) ∷ []
step_calls (rename_directory a b) t = rename (directory_path a) (directory_path b) ∷ []
step_calls (copy_file a b f) t =
    open-read (file_path a f) ∷ open-create-truncate (file_path b f) ∷ pwrite (file_path b f) 0 (bytes_in (resolve (file_path a f) t)) ∷ []
step_calls (remove_file d f) t = unlink (file_path d f) ∷ []
step_calls (remove_directory d) t = map (λ f. unlink (file_path d f)) (names_in (resolve (directory_path d) t)) ++ rmdir (directory_path d) ∷ []
step_calls (remove_staging f) t = unlink (staged_path f) ∷ []
step_calls (sync_directory d) t = fsync (directory_path d) ∷ []
