-- What `valid_value` tests, by a field's tag.
use Rattle.std.specs.Prelude.{if◌then◌else◌}
use mathlib.Core.Path.{◌≡◌, refl, ap}
use mathlib.Core.List.{[], ◌∷◌}
use mathlib.Core.Bool.{Bool, true, false, ◌||◌}
use Prim.Native.Nat.{ℕ, ◌≤◌}
use native.Mathlib.Omega.{arith}
use lib.Dec.{eqb}
use lib.ListN.{length}
use borrow.Author.Tests.{ne_eqb, eqb-true}
use Rattle.basics.specs.Base.{Bytes, same_bytes}
use Rattle.basics.specs.Name.{valid_name}
use Rattle.model.specs.Operation.{is_mark, valid_value}
use Rattle.basic_laws.specs.Tests.{same-eq}
use Rattle.basic_laws.specs.ValidNames.{valid-length}
use Rattle.field.specs.Writing.{field}
use Rattle.transaction.proofs.Same.{not-one}

module _ (tag : ℕ) (v : Bytes) where
  -- A mark that is not of one byte.
  pub long-mark : (tag ≡ 1 → ⊥) → is_mark tag ≡ true → (length v ≡ 1 → ⊥) → false ≡ valid_value (field tag v)
  unfolding valid_value
  long-mark h e l = rw (ne_eqb tag 1 h, e, ← (not-one v 0 l), ← (not-one v 1 l))

  -- A valid value is short enough for a span.
  pub short-value : valid_value (field tag v) ≡ true → length v ≤ 64
  unfolding valid_value
  short-value h = go (eqb tag 1) (is_mark tag) h
    where
      mark : (a : Bool) → same_bytes v (0 ∷ []) ≡ a → (a || same_bytes v (1 ∷ [])) ≡ true → length v ≤ 64
      mark true p h = let l : length v ≡ 1 = ap length (same-eq v (0 ∷ []) p) in omega arith
      mark false p h = let l : length v ≡ 1 = ap length (same-eq v (1 ∷ []) h) in omega arith

      go : (a b : Bool) → if◌then◌else◌ a (eqb (length v) 1) (if◌then◌else◌ b (same_bytes v (0 ∷ []) || same_bytes v (1 ∷ [])) (valid_name v)) ≡ true → length v ≤ 64
      go true b h = omega (arith, eqb-true (length v) 1 h)
      go false true h = mark (same_bytes v (0 ∷ [])) refl h
      go false false h = (valid-length v h).1
