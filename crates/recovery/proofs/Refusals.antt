-- Recovery from a Committing log, by how the walk through it ended.
use Rattle.std.specs.Prelude.{if◌then◌else◌}
use mathlib.Core.Path.{◌≡◌, refl}
use mathlib.Core.List.{List}
use mathlib.Core.Option.{none, some}
use mathlib.Core.Bool.{true, false, ◌||◌}
use Prim.Native.Nat.{ℕ}
use Rattle.basics.specs.Map.{Map}
use Rattle.basics.specs.Base.{any_of}
use Rattle.model.specs.Operation.{Op}
use Rattle.model.specs.Log.{committing}
use Rattle.model.specs.Store.{Store, has_backup_files}
use Rattle.model.specs.Plan.{in_sequence, recover_parts, is_new_artifact}
use Rattle.wal.specs.declared.Ending.{Ending}
use Rattle.wal.specs.declared.Ending.TheVariants.{Whole, Truncated, Undecodable, TooMany}
use Rattle.wal.specs.Logs.{ending_of}
use Rattle.recovery.specs.Walks.{clean_up}
use Rattle.recovery.specs.Recoveries.{refusal_of}

-- The refusal of a truncated one, whatever its cause.
module _ (o : List Op) (t : Map) where
  abbrev pub torn : ℕ
  torn = refusal_of (if has_backup_files t || any_of (is_new_artifact t) o then some 13 else none)

  pub backup-found : has_backup_files t ≡ true → ◌≡◌ {A = ℕ} 13 torn
  backup-found h = rw h

  pub artifact_found : has_backup_files t ≡ false → any_of (is_new_artifact t) o ≡ true → ◌≡◌ {A = ℕ} 13 torn
  artifact_found h k = rw (h, k)

  pub nothing-found : has_backup_files t ≡ false → any_of (is_new_artifact t) o ≡ false → ◌≡◌ {A = ℕ} 0 torn
  nothing-found h k = rw (h, k)

-- What is not whole is not undone.
pub only-cleaned : (o : List Op) (e : Ending) (s : Store) → (e ≡ Whole → ⊥) → clean_up s ≡ in_sequence (recover_parts (committing o (ending_of e))) s
only-cleaned o (Truncated c) s h = refl
only-cleaned o Undecodable s h = refl
only-cleaned o TooMany s h = refl
only-cleaned o Whole s h = absurd (h refl)
