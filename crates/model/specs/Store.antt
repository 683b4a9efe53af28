-- The store: directories with their files, staging files, the log's bytes, the open mark.
use Rattle.std.specs.Prelude.{ℕ, suc, List, [], ◌∷◌, map, Bool, true, false, ◌&&◌, ◌||◌, length, leb, eqb}
use Rattle.std.proofs.Math.Option.{Option}
use Rattle.basics.specs.Limits.{dir_limit, file_limit, staging_limit, log_limit, number_limit}
use Rattle.basics.specs.Order.{Name, Key, cmp_name, cmp_key, case_cmp}
use Rattle.basics.specs.Map.{Map, Node}
use Rattle.basics.specs.Base.{Bytes, case_option, if_empty, is_some, same_bytes, all_of, any_of, first_of}
use Rattle.basics.specs.Name.{valid_name, is_backup}

-- In the tree, directory d stands at (d, []) with number 0, and its file f at (d, f) with its content number.
-- Among the staging files, f stands at ([], f).
pub record Store : Type 0 where
  pub tree : Map
  pub staging : Map
  pub log : Option Bytes
  pub open_mark : Bool

-- Where a staging file stands.
abbrev pub staging_key : Name → Key
staging_key f = ([], f)

-- The directories, and the files of one, in the tree's order; so "in ascending byte order" (01, Listings and file steps) where that is ascending.
unfoldable pub dirs : Map → List Name
dirs [] = []
dirs (n ∷ r) = let rest = dirs r in if_empty n.0.1 (n.0.0 ∷ rest) rest

unfoldable pub files : Name → Map → List Name
files d [] = []
files d (n ∷ r) = let rest = files d r in case_cmp (cmp_name d n.0.0) rest (if_empty n.0.1 rest (n.0.1 ∷ rest)) rest

-- The names of the staging files, in their order.
abbrev pub staging_names : Map → List Name
staging_names m = map (λ n. n.0.1) m

-- The number of files in all directories.
abbrev pub file_count : Map → ℕ
file_count [] = 0
file_count (n ∷ r) = let rest = file_count r in if_empty n.0.1 rest (suc rest)

-- 01, How a store is handed over: "A content number is 1 to 4,294,967,295".
abbrev pub valid_number : ℕ → Bool
valid_number x = leb 1 x && leb x number_limit

-- A directory, or a file of the directory d that was listed last.
unfoldable pub valid_node : Name → Node → Bool
valid_node d n = valid_name n.0.0 && if_empty n.0.1 (eqb n.1 0) (same_bytes n.0.0 d && valid_name n.0.1 && valid_number n.1)

unfoldable pub valid_nodes : Name → Map → Bool
valid_nodes d [] = true
valid_nodes d (n ∷ r) = valid_node d n && valid_nodes n.0.0 r

unfoldable pub valid_staged : Node → Bool
valid_staged n = same_bytes n.0.0 [] && valid_name n.0.1 && valid_number n.1

-- 01, How a store is handed over: "ascending", "No name twice in a directory."
abbrev pub below_first : Key → Map → Bool
below_first k [] = true
below_first k (n ∷ r) = case_cmp (cmp_key k n.0) true false false

unfoldable pub ascending : Map → Bool
ascending [] = true
ascending (n ∷ r) = below_first n.0 r && ascending r

-- 01, How a store is handed over: "At most 16 directories, 128 files, 32 staging files", and the log's limit (02, item 4).
unfoldable pub well_formed : Store → Bool
well_formed s =
    ascending s.tree && valid_nodes [] s.tree && leb (length (dirs s.tree)) dir_limit && leb (file_count s.tree) file_limit
    && ascending s.staging && all_of valid_staged s.staging && leb (length s.staging) staging_limit
    && case_option s.log true (λ l. leb (length l) log_limit)

-- A directory or a file has a backup's name (`has_backup_files`).
unfoldable pub has_backup_files : Map → Bool
has_backup_files t = any_of (λ n. is_backup n.0.0 || is_backup n.0.1) t

-- What the search for a backup meets. 02, item 2: "With a yes it names its hit"; a file by its directory, its name and its number.
pub data BackupHit : Type 0 where
  backup_file : Node → BackupHit
  backup_directory : Name → BackupHit
  no_backup : BackupHit

-- Yes or no.
abbrev pub is_hit : BackupHit → Bool
is_hit (backup_file n) = true
is_hit (backup_directory d) = true
is_hit no_backup = false

-- A file has a backup's name (a directory's own node has no file name); a directory has one, or the directory of a file.
abbrev pub is_backup_file : Node → Bool
is_backup_file n = is_backup n.0.1

abbrev pub in_backup_directory : Node → Bool
in_backup_directory n = is_backup n.0.0

-- 02, item 2: "the first backup file in image order, or if no file is one the first directory with a backup's name". That the first node in such
-- a directory is the directory's own, and that yes or no is that of `has_backup_files`, stands in crate laws (BackupLaws).
unfoldable pub first_backup : Map → BackupHit
first_backup t = case_option (first_of is_backup_file t) (case_option (first_of in_backup_directory t) no_backup (λ n. backup_directory n.0.0)) backup_file

-- 01, Modules in port order: "`has_pending_work` (yes or no)": a log, a backup or a staging file stands.
unfoldable pub has_pending_work : Store → Bool
has_pending_work s = is_some s.log || has_backup_files s.tree || if_empty s.staging false true
