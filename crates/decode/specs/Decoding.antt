-- What `decode` and the readers of an image's parts answer.
use Rattle.std.specs.Prelude.{◌≡◌, Bool, map, ℕ, eqb, Option, None, Some}
use Rattle.std.proofs.Math.Option.{none, some}
use Rattle.basics.specs.Base.{Bytes}
use Rattle.model.specs.Image.{log_field, mark_field, decode}
use Rattle.laws.specs.StoreLaws.{LogFits}
use Rattle.laws.specs.ImageLaws.{listed}
use Rattle.store.specs.declared.LogRef.{LogRef}
use Rattle.store.specs.declared.Table.{Table}
use Rattle.store.specs.Tables.{map_of, SoundTable}
use Rattle.store.specs.Kept.{Kept}
use Rattle.store.specs.Stores.{AsRead, log_bytes, store_of, SoundLog, SoundStore}
use Rattle.decode.specs.declared.Decoded.{Decoded}
use Rattle.decode.specs.Reading.{Reads, Lacks}
use Rattle.decode.specs.Listing.{own, Formed}

-- A listing that was read, and the place behind it.
pub record NodesRead (staged : Bool) (src : Bytes) (at : ℕ) (t : Table) (next : ℕ) : Type 0 where
  pub sound : SoundTable src t
  pub reads : Reads (map (listed staged)) (Formed staged) (own staged) src at (map_of src t) next

abbrev pub ReadsNodes : Bool → Bytes → ℕ → Table → Option ℕ → Type 0
ReadsNodes staged src at t None = Lacks (map (listed staged)) (Formed staged) (own staged) src at
ReadsNodes staged src at t (Some next) = NodesRead staged src at t next

-- Its header is as the image has it.
pub record LogRead (src : Bytes) (at : ℕ) (l : Option LogRef) (next : ℕ) : Type 0 where
  pub sound : SoundLog src l
  pub plain : AsRead l
  pub reads : Reads log_field LogFits (λ t. eqb t 0x13) src at (log_bytes src l) next

abbrev pub ReadsLog : Bytes → ℕ → Option (Option LogRef × ℕ) → Type 0
ReadsLog src at None = Lacks log_field LogFits (λ t. eqb t 0x13) src at
ReadsLog src at (Some r) = LogRead src at r.0 r.1

abbrev pub ReadsMark : Bytes → ℕ → Option (Bool × ℕ) → Type 0
ReadsMark src at None = Lacks mark_field (λ b. Unit {0}) (λ t. eqb t 0x14) src at
ReadsMark src at (Some r) = Reads mark_field (λ b. Unit {0}) (λ t. eqb t 0x14) src at r.0 r.1

-- The store of an image, and where its tree stands in it.
pub record Accepts (src : Bytes) (d : Decoded) : Type 0 where
  pub sound : SoundStore src d.store
  pub plain : AsRead d.store.log
  pub same : decode src ≡ some (store_of src d.store)
  pub kept : Kept src d.tree_end (map_of src d.store.tree)

-- 01, Sixteen numbers: "1. The image breaks its layout or a limit." An image that the definition refuses is refused.
abbrev pub Decodes : Bytes → Option Decoded → Type 0
Decodes src None = decode src ≡ none
Decodes src (Some d) = Accepts src d
