-- What a `NameRef` stands for: a part of the lent bytes with ".bak" behind it some times.
use Rattle.std.specs.Prelude.{◌≡◌, [], ◌∷◌, ℕ, zero, suc, ◌+◌, ◌*◌, ◌≤◌, ◌<◌, Bool, true, false, length, take, drop, Option, Some, None}
use Rattle.std.proofs.Math.Option.{none, some}
use Rattle.basics.specs.Limits.{name_limit}
use Rattle.basics.specs.Order.{Name}
use Rattle.basics.specs.Base.{Bytes}
use Rattle.basics.specs.Name.{valid_name, backup_name, original_name}
use Rattle.spans.specs.declared.NameRef.{NameRef}

-- So many times the backup name of a name.
abbrev pub backups : ℕ → Name → Name
backups zero n = n
backups (suc k) n = backup_name (backups k n)

unfoldable pub name_of : Bytes → NameRef → Name
name_of src r = backups r.baks (take r.len (drop r.start src))

abbrev pub length_of : NameRef → ℕ
length_of r = r.len + r.baks * 4

-- What every name that the code holds meets: it lies in the bytes, and has at most 64 bytes.
pub record Sound (src : Bytes) (r : NameRef) : Type 0 where
  pub inside : r.start + r.len ≤ length src
  pub room : length_of r ≤ name_limit

-- What a test answers that decides a fact.
pub record Decides (fact : Type 0) (answer : Bool) : Type 0 where
  pub yes : answer ≡ true → fact
  pub no : answer ≡ false → fact → ⊥

-- A name, held soundly.
pub record Names (src : Bytes) (r : NameRef) (n : Name) : Type 0 where
  pub sound : Sound src r
  pub same : name_of src r ≡ n

-- A given name that was tested: where it is valid it stands in the bytes.
abbrev pub Given : Bytes → Option NameRef → Name → Type 0
Given src None n = valid_name n ≡ false
Given src (Some r) n = (valid_name n ≡ true) × Names src r n

-- The number of some bytes, the most significant first, where n is the number of those before them.
unfoldable pub onto : ℕ → Bytes → ℕ
onto n [] = n
onto n (b ∷ r) = onto (256 * n + b) r

unfoldable pub from_big_endian : Bytes → ℕ
from_big_endian s = onto 0 s

-- 01, Sixteen numbers, 14: "backup name over 64 bytes".
abbrev pub Backup : Bytes → NameRef → Option NameRef → Type 0
Backup src r (Some q) = Names src q (backup_name (name_of src r))
Backup src r None = name_limit < length (backup_name (name_of src r))

-- 01, Corners, paths.rs: the name whose backup it is, if it is one.
abbrev pub Original : Bytes → NameRef → Option NameRef → Type 0
Original src r (Some q) = Sound src q × (original_name (name_of src r) ≡ some (name_of src q))
Original src r None = original_name (name_of src r) ≡ none
