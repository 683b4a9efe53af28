-- What a `Store` stands for: the model's store.
use Rattle.std.specs.Prelude.{◌≡◌, ◌+◌, ◌≤◌, length, take, drop, Option, None, Some}
use Rattle.std.proofs.Math.Option as maths
use Rattle.std.proofs.Math.Option.{none, some}
use Rattle.basics.specs.Base.{Bytes}
use Rattle.basics.specs.Status.{status_byte}
use Rattle.basics.specs.declared.Status.{Status}
use Rattle.model.specs.Log.{with_status}
use Rattle.model.specs.Store as model
use Rattle.store.specs.Tables.{map_of, SoundTable}
use Rattle.store.specs.declared.LogRef.{LogRef}
use Rattle.store.specs.declared.Store.{Store}

-- The log's bytes, with the header that 0x20 writes where it did: with Committing (`mark_committing`) or Held (`mark_held`).
abbrev pub rewritten : Option Status → Bytes → Bytes
rewritten None l = l
rewritten (Some s) l = with_status (status_byte s) l

unfoldable pub log_bytes : Bytes → Option LogRef → maths.Option Bytes
log_bytes src None = none
log_bytes src (Some l) = some (rewritten l.rewritten (take l.len (drop l.start src)))

-- A log whose header is as it stands.
abbrev pub AsRead : Option LogRef → Type 0
AsRead None = Unit {0}
AsRead (Some l) = l.rewritten ≡ None

abbrev pub store_of : Bytes → Store → model.Store
store_of src s = record {
  tree = map_of src s.tree;
  staging = map_of src s.staging;
  log = log_bytes src s.log;
  open_mark = s.open_mark;
}

abbrev pub Inside : Bytes → Option LogRef → Type 0
Inside src None = Unit {0}
Inside src (Some l) = l.start + l.len ≤ length src

pub record SoundLog (src : Bytes) (l : Option LogRef) : Type 0 where
  pub inside : Inside src l

-- What every store that the code holds meets.
pub record SoundStore (src : Bytes) (s : Store) : Type 0 where
  pub tree : SoundTable src s.tree
  pub staging : SoundTable src s.staging
  pub log : SoundLog src s.log
