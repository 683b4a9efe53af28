-- The file calls of POSIX: IEEE Std 1003.1-2017, Base Definitions (XBD) and System Interfaces (XSH), in our own words. "XSH f()" is the page of
-- f in XSH 3, with its errors. Nothing here knows a store.
-- Left out: permissions, links (so each file has one name), several file systems, other processes and what they have in use, limits of names and
-- of space, failing disks, signals, times. A call that takes a file descriptor is given the path that was opened.
-- XSH 2.3, Error Numbers: where several errors apply, it is undefined which one is told.
use Rattle.std.specs.Prelude.{ℕ, ◌+◌, List, [], ◌∷◌, ◌++◌, Bool, true, false, ◌&&◌, length, take, drop, replicate, if◌then◌else◌}
use Rattle.std.proofs.Math.Option.{Option, none, some}
use Rattle.basics.specs.Order.{Name, cmp_name, case_cmp}
use Rattle.basics.specs.Base.{Bytes, case_option, same_bytes}

-- XBD 4.6, File Hierarchy; XBD 3, Directory, Regular File: a directory has entries, each a name and what it names, no name twice; a file is a
-- sequence of bytes. XBD 3, Empty Directory: the entries "." and ".." don't count, so they are not kept here. The others are kept by name,
-- ascending, so that directories with the same entries are equal.
mutual
  pub data Node : Type 0 where
    file : Bytes → Node
    directory : Directory → Node

  pub data Directory : Type 0 where
    empty : Directory
    entry : Name → Node → Directory → Directory

-- What a name names in a directory; the directory with that name for this node; and without that name.
unfoldable pub find : Name → Directory → Option Node
find n empty = none
find n (entry m x r) = let rest = find n r in case_cmp (cmp_name n m) rest (some x) rest

unfoldable pub enter : Name → Node → Directory → Directory
enter n x empty = entry n x empty
enter n x (entry m y r) = case_cmp (cmp_name n m) (entry n x (entry m y r)) (entry n x r) (entry m y (enter n x r))

unfoldable pub leave : Name → Directory → Directory
leave n empty = empty
leave n (entry m y r) = let rest = leave n r in case_cmp (cmp_name n m) (entry m y rest) rest (entry m y rest)

-- XBD 3, Pathname: the names between the slashes, from the directory t that a call is made in. (A name here means itself, also "." and "..". No
-- step has these, nor an empty name, nor a slash in one: crate posix_laws, PlainNames.)
abbrev pub Path : Type 0
Path = List Name

-- XSH 2.3, Error Numbers: those that the calls below are refused with.
pub data Errno : Type 0 where
  ENOENT EEXIST ENOTEMPTY EISDIR ENOTDIR EPERM EINVAL : Errno

pub data Result (A : Type 0) : Type 0 where
  ok : A → Result A
  error : Errno → Result A

-- The first, and where it succeeds the second with what it gave.
abbrev pub and_then : {A B : Type 0} → Result A → (A → Result B) → Result B
and_then (ok a) f = f a
and_then (error e) f = error e

-- XBD 4.13, Pathname Resolution: each name is looked up in the directory that the one before it names. The errors stand with each call: a name
-- before the last that names nothing is ENOENT, one that names a file ENOTDIR; the empty pathname is ENOENT.
abbrev pub inside : {A : Type 0} → Option Node → (Directory → Result A) → Result A
inside none f = error ENOENT
inside (some (file b)) f = error ENOTDIR
inside (some (directory t)) f = f t

-- What a path names.
unfoldable pub resolve : Path → Directory → Result Node
resolve [] t = error ENOENT
resolve (n ∷ []) t = case_option (find n t) (error ENOENT) ok
resolve (n ∷ m ∷ p) t = inside (find n t) (resolve (m ∷ p))

-- The tree with another node, or none, for what a path names. f says which, by what the path named before, which may be nothing; or refuses.
unfoldable pub change : (Option Node → Result (Option Node)) → Path → Directory → Result Directory
change f [] t = error ENOENT
change f (n ∷ []) t = and_then (f (find n t)) λ x. ok (case_option x (leave n t) (λ y. enter n y t))
change f (n ∷ m ∷ p) t = inside (find n t) λ u. and_then (change f (m ∷ p) u) λ v. ok (enter n (directory v) t)

-- XSH mkdir(): EEXIST where the path names anything; else it names a new, empty directory.
abbrev pub makes : Option Node → Result (Option Node)
makes none = ok (some (directory empty))
makes (some x) = error EEXIST

-- XSH unlink(): ENOENT where the path names nothing; else the name goes, and with its only name the file. A directory is EPERM. (POSIX lets an
-- implementation unlink directories for the privileged: not here.)
abbrev pub unlinks : Option Node → Result (Option Node)
unlinks none = error ENOENT
unlinks (some (file b)) = ok none
unlinks (some (directory t)) = error EPERM

-- XSH rmdir(): ENOENT where the path names nothing, ENOTDIR where a file; a directory goes if it is empty, else ENOTEMPTY (or EEXIST).
abbrev pub removes : Option Node → Result (Option Node)
removes none = error ENOENT
removes (some (file b)) = error ENOTDIR
removes (some (directory empty)) = ok none
removes (some (directory (entry n x r))) = error ENOTEMPTY

-- XSH open() for writing, O_CREAT: where the path names nothing, a regular file is made, and it is empty; O_TRUNC: a file that stands is cut to
-- length 0. A directory is EISDIR.
abbrev pub opens : Option Node → Result (Option Node)
opens none = ok (some (file []))
opens (some (file b)) = ok (some (file []))
opens (some (directory t)) = error EISDIR

-- XSH pwrite(), which is write() at a given offset (0 behind open()): the new bytes stand from the offset on, the others keep their place, and the
-- file grows where they reach beyond its end; no bytes change nothing. XSH lseek(): a gap behind the old end reads as zeros. (A write may take in
-- less than it is given; its caller goes on with the rest, and here is the whole.)
abbrev pub written : ℕ → Bytes → Bytes → Bytes
written at [] old = old
written at (x ∷ new) old = take at (old ++ replicate at 0) ++ x ∷ new ++ drop (at + length (x ∷ new)) old

-- To be opened for writing without O_CREAT, the path must name a file (XSH open(): ENOENT, EISDIR).
abbrev pub writes : ℕ → Bytes → Option Node → Result (Option Node)
writes at new none = error ENOENT
writes at new (some (file b)) = ok (some (file (written at new b)))
writes at new (some (directory t)) = error EISDIR

-- XSH rename(), what may stand at the new path: nothing. Where a file is renamed: a file, which is replaced; a directory is EISDIR. Where a
-- directory is: an empty directory, which is replaced; one with entries is ENOTEMPTY (or EEXIST), a file ENOTDIR.
abbrev pub replaces : Node → Option Node → Result (Option Node)
replaces x none = ok (some x)
replaces (file a) (some (file b)) = ok (some (file a))
replaces (file a) (some (directory t)) = error EISDIR
replaces (directory u) (some (file b)) = error ENOTDIR
replaces (directory u) (some (directory empty)) = ok (some (directory u))
replaces (directory u) (some (directory (entry n x r))) = error ENOTEMPTY

-- The name goes, whatever it named.
abbrev pub vacates : Option Node → Result (Option Node)
vacates x = ok none

abbrev pub is_directory : Node → Bool
is_directory (file b) = false
is_directory (directory t) = true

-- The second path begins with the first. Two that begin with each other are the same.
abbrev pub begins : Path → Path → Bool
begins [] q = true
begins (n ∷ p) [] = false
begins (n ∷ p) (m ∷ q) = same_bytes n m && begins p q

pub data Call : Type 0 where
  rename : Path → Path → Call
  mkdir unlink rmdir open-read open-create-truncate fsync : Path → Call
  pwrite : Path → ℕ → Bytes → Call

unfoldable pub call : Call → Directory → Result Directory
call (mkdir p) t = change makes p t
call (unlink p) t = change unlinks p t
call (rmdir p) t = change removes p t
call (open-create-truncate p) t = change opens p t
call (pwrite p at new) t = change (writes at new) p t
-- XSH open() for reading: the path must name something, a file or a directory (ENOENT); nothing changes.
call (open-read p) t = and_then (resolve p t) λ x. ok t
-- XSH fsync(): what is read afterwards is what was read before. The path was opened for reading. (POSIX lets a file that can't be synced be
-- EINVAL; here each can be, a directory too.)
call (fsync p) t = and_then (resolve p t) λ x. ok t
-- XSH rename(): the old path must name something (ENOENT). Is the new one the same, nothing is done. A directory doesn't go below itself:
-- EINVAL. Else the new path names what the old one named, and the old one nothing.
call (rename p q) t =
    and_then (resolve p t) λ x.
    if begins p q && begins q p then ok t
    else if is_directory x && begins p q then error EINVAL
    else and_then (change (replaces x) q t) (change vacates p)

-- Calls one behind the other, up to the first that is refused.
abbrev pub calls : List Call → Directory → Result Directory
calls [] t = ok t
calls (c ∷ cs) t = and_then (call c t) (calls cs)
