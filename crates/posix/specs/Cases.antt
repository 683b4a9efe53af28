-- Worked cases of the calls, computed: what a reader of the manual pages expects.
use Rattle.std.specs.Prelude.{◌≡◌, refl, List, [], ◌∷◌, map}
use Rattle.basics.specs.Order.{Name}
use Rattle.posix.specs.Posix.{Node, file, directory, Directory, empty, entry, find, enter, leave, ENOENT, EEXIST, ENOTEMPTY, EISDIR, ENOTDIR, EPERM, EINVAL, Result, ok, error, resolve, change, Call, rename, mkdir, unlink, rmdir, open-read, open-create-truncate, fsync, pwrite, call}

abbrev a : Name
a = 0x61 ∷ []

abbrev b : Name
b = 0x62 ∷ []

abbrev d : Name
d = 0x64 ∷ []

abbrev e : Name
e = 0x65 ∷ []

abbrev f : Name
f = 0x66 ∷ []

-- The directory with these entries.
abbrev holding : List (Name × Node) → Directory
holding [] = empty
holding (x ∷ l) = entry x.0 x.1 (holding l)

-- The files a and b, the directory d with the file f, and the empty directory e.
abbrev a₁ : Node
a₁ = file (1 ∷ 2 ∷ [])

abbrev b₁ : Node
b₁ = file (3 ∷ [])

abbrev d₁ : Node
d₁ = directory (holding ((f, file (4 ∷ [])) ∷ []))

abbrev e₁ : Node
e₁ = directory empty

abbrev t : Directory
t = holding ((a, a₁) ∷ (b, b₁) ∷ (d, d₁) ∷ (e, e₁) ∷ [])

-- A call on it, and what it gives.
record Row : Type 0 where
  made : Call
  gives : Result Directory

row : Call → Result Directory → Row
row c r = record { made = c; gives = r }

rows : List Row
unfolding row
rows =
    -- rename over a file that stands: it is replaced, in one step
    row (rename (a ∷ []) (b ∷ [])) (ok (holding ((b, a₁) ∷ (d, d₁) ∷ (e, e₁) ∷ [])))
    -- rename onto itself: nothing
    ∷ row (rename (a ∷ []) (a ∷ [])) (ok t)
    -- rename of what is missing, into what is missing, through a file
    ∷ row (rename (f ∷ []) (b ∷ [])) (error ENOENT)
    ∷ row (rename (a ∷ []) (f ∷ a ∷ [])) (error ENOENT)
    ∷ row (rename (a ∷ []) (b ∷ a ∷ [])) (error ENOTDIR)
    -- rename of a file onto a directory, of a directory onto a file, onto one that is not empty, below itself; of a file onto its directory,
    -- where ENOTEMPTY applies as well (XSH 2.3: either may be told)
    ∷ row (rename (a ∷ []) (e ∷ [])) (error EISDIR)
    ∷ row (rename (e ∷ []) (a ∷ [])) (error ENOTDIR)
    ∷ row (rename (e ∷ []) (d ∷ [])) (error ENOTEMPTY)
    ∷ row (rename (d ∷ []) (d ∷ e ∷ [])) (error EINVAL)
    ∷ row (rename (d ∷ f ∷ []) (d ∷ [])) (error EISDIR)
    -- rename of a directory onto an empty one, and to a new name: its files go with it
    ∷ row (rename (d ∷ []) (e ∷ [])) (ok (holding ((a, a₁) ∷ (b, b₁) ∷ (e, d₁) ∷ [])))
    ∷ row (rename (d ∷ []) (f ∷ [])) (ok (holding ((a, a₁) ∷ (b, b₁) ∷ (e, e₁) ∷ (f, d₁) ∷ [])))
    -- mkdir of what stands, in what is missing, and of what is missing
    ∷ row (mkdir (e ∷ [])) (error EEXIST)
    ∷ row (mkdir (a ∷ [])) (error EEXIST)
    ∷ row (mkdir (f ∷ e ∷ [])) (error ENOENT)
    ∷ row (mkdir (e ∷ e ∷ [])) (ok (holding ((a, a₁) ∷ (b, b₁) ∷ (d, d₁) ∷ (e, directory (holding ((e, e₁) ∷ []))) ∷ [])))
    -- unlink of what is missing, of a directory, of a file
    ∷ row (unlink (f ∷ [])) (error ENOENT)
    ∷ row (unlink (e ∷ [])) (error EPERM)
    ∷ row (unlink (d ∷ f ∷ [])) (ok (holding ((a, a₁) ∷ (b, b₁) ∷ (d, e₁) ∷ (e, e₁) ∷ [])))
    -- rmdir of what is missing, of a file, of what is not empty, of an empty directory
    ∷ row (rmdir (f ∷ [])) (error ENOENT)
    ∷ row (rmdir (a ∷ [])) (error ENOTDIR)
    ∷ row (rmdir (d ∷ [])) (error ENOTEMPTY)
    ∷ row (rmdir (e ∷ [])) (ok (holding ((a, a₁) ∷ (b, b₁) ∷ (d, d₁) ∷ [])))
    -- open with O_CREAT and O_TRUNC of a file, of what is missing, of a directory; for reading
    ∷ row (open-create-truncate (b ∷ [])) (ok (holding ((a, a₁) ∷ (b, file []) ∷ (d, d₁) ∷ (e, e₁) ∷ [])))
    ∷ row (open-create-truncate (e ∷ f ∷ [])) (ok (holding ((a, a₁) ∷ (b, b₁) ∷ (d, d₁) ∷ (e, directory (holding ((f, file []) ∷ []))) ∷ [])))
    ∷ row (open-create-truncate (e ∷ [])) (error EISDIR)
    ∷ row (open-read (f ∷ [])) (error ENOENT)
    -- pwrite at the start, across the end, behind the end
    ∷ row (pwrite (a ∷ []) 0 (9 ∷ [])) (ok (holding ((a, file (9 ∷ 2 ∷ [])) ∷ (b, b₁) ∷ (d, d₁) ∷ (e, e₁) ∷ [])))
    ∷ row (pwrite (a ∷ []) 1 (8 ∷ 9 ∷ [])) (ok (holding ((a, file (1 ∷ 8 ∷ 9 ∷ [])) ∷ (b, b₁) ∷ (d, d₁) ∷ (e, e₁) ∷ [])))
    ∷ row (pwrite (b ∷ []) 3 (9 ∷ [])) (ok (holding ((a, a₁) ∷ (b, file (3 ∷ 0 ∷ 0 ∷ 9 ∷ [])) ∷ (d, d₁) ∷ (e, e₁) ∷ [])))
    -- fsync of a file, of a directory, and of what is missing
    ∷ row (fsync (d ∷ f ∷ [])) (ok t)
    ∷ row (fsync (d ∷ [])) (ok t)
    ∷ row (fsync (f ∷ [])) (error ENOENT)
    ∷ []

-- Every call gives what is stated.
worked : map (λ r. call r.made t) rows ≡ map (λ r. r.gives) rows
unfolding rows row call change resolve find enter leave
worked = refl
