-- The name of a file is not empty, and a name that is not empty is one; so is every name of a directory's listing.
use mathlib.Core.Path.{◌≡◌, refl, ap, subst}
use mathlib.Core.List.{[], ◌∷◌}
use Prim.Native.Nat.{ℕ, ◌≤◌, ◌<◌}
use native.Mathlib.Omega.{arith}
use lib.ListN.{length, get_or}
use Rattle.basics.specs.Order.{Name}
use Rattle.basics.specs.Map.{Map}
use Rattle.basics.specs.Base.{Bytes}
use Rattle.model.specs.Store.{files}
use Rattle.laws.specs.Listings.{files-named}
use Rattle.basic_laws.specs.Tests.{All, all_drop, in_all}
use Rattle.spans.specs.Spans.{name_of, Sound}
use Rattle.spans.specs.declared.NameRef.{NameRef}
use Rattle.spans.proofs.Parts.{length-name}
use Rattle.fixed_vec.specs.FixedVec.{FixedVec}
use Rattle.store.specs.Tables.{Lists}
use Rattle.store.proofs.Listed.{no_name, listed-sound, listed-rest}
use Rattle.steps.specs.Steps.{FileName}

module _ {src : Bytes} {r : NameRef} where
  pub filled : FileName src r → name_of src r ≡ [] → ⊥
  filled f e = let l = length-name f.sound in let k = f.some in let z = ap length e in omega arith

  pub file-name : Sound src r → (name_of src r ≡ [] → ⊥) → FileName src r
  file-name s h = record { sound = s; some = omega (arith, length-name s, some (name_of src r) h) }
    where
      some : (f : Name) → (f ≡ [] → ⊥) → 1 ≤ length f
      some [] h = absurd (h refl)
      some (y ∷ ys) h = omega arith

-- A directory's files are listed: the name r at i is a file's.
module _ {src : Bytes} {l : FixedVec NameRef} (d : Name) (m : Map) (s : Lists src l (files d m)) where
  pub listed-named : {i : ℕ} {r : NameRef} → r ≡ get_or l.items i no_name → i < length l.items → FileName src r
  listed-named {i} e h =
      file-name (listed-sound s e h)
      (subst (All Named) (listed-rest s e h) (all_drop Named i (files d m) (in_all Named (files d m) (files-named d m)))).0
    where
      Named : Name → Type 0
      Named f = f ≡ [] → ⊥
