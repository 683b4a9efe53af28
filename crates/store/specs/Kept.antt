-- A tree that stands in the lent bytes as an image has it.
use Rattle.std.specs.Prelude.{◌≡◌, refl, false, map, ℕ, ◌≤◌, length, take}
use Rattle.std.proofs.Common.{arith}
use Rattle.basics.specs.Base.{Bytes}
use Rattle.basics.specs.Map.{Map}
use Rattle.basics.specs.Field.{encode_fields}
use Rattle.laws.specs.ImageLaws.{listed}

-- The first `kept` bytes are the fields of the directories with their files, "0x10 (name), followed by its files"; 0 says nothing of them.
pub record Kept (src : Bytes) (kept : ℕ) (m : Map) : Type 0 where
  pub within : kept ≤ length src
  pub same : (kept ≡ 0 → ⊥) → take kept src ≡ encode_fields (map (listed false) m)

-- Nothing is kept.
pub none_kept : {src : Bytes} {m : Map} → Kept src 0 m
none_kept = record { within = omega arith; same = λ h. absurd (h refl) }
