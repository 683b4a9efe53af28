-- A walk through fields up to the first of a tag.
use mathlib.Core.Path.{◌≡◌, refl}
use mathlib.Core.List.{List, [], ◌∷◌}
use Prim.Native.Nat.{ℕ, ◌≤◌}
use native.Mathlib.Omega.{arith}
use lib.ListN.{length, get_or}
use denote.Ref.{Bor}
use Rattle.std.specs.Prelude.{Option, None, Some, Err, unwrap_or}
use Rattle.field.specs.Reading.{field_of, Reads, Stands}
use Rattle.field.specs.declared.Item.{Item}
use Rattle.field.specs.declared.Broken.{Broken}
use Rattle.questions.specs.Layout.{Finds, lent_bytes, value_in, byte_in}

-- What is found from a place on is found from the start.
pub record Ahead (s : List ℕ) (tag at : ℕ) : Type 0 where
  pub found : (r : Option (List ℕ)) → Finds s tag at r → Finds s tag 0 r

pub ahead : (s : List ℕ) (tag : ℕ) → Ahead s tag 0
ahead s tag = record { found = λ r f. f }

module _ {s : List ℕ} {tag at : ℕ} (w : Ahead s tag at) where
  -- No field more, or one that is broken.
  pub ends : length s ≤ at → Finds s tag 0 None
  ends h = w.found None ([], λ l. absurd (omega (arith, h, l)))

  pub breaks : (b : Broken) → Reads s at (Err b) → Finds s tag 0 None
  breaks b h = w.found None ([], λ l. (b, h))

  module _ {x : Item} (h : Stands s at x) where
    pub here : x.tag ≡ tag → {v : List ℕ} → v ≡ (field_of s x).value → Finds s tag 0 (Some v)
    here e {v} i = w.found (Some v) ([], (x, h, e, i))

    pub behind : (x.tag ≡ tag → ⊥) → Ahead s tag x.end
    behind n = record { found = λ r f. w.found r (x ∷ f.0, (h, n, f.1)) }

-- The value that was found, else no byte.
pub unwrapped : (o : Option (Bor (List ℕ))) (d : Bor (List ℕ)) → d.now ≡ [] → (unwrap_or o d).now ≡ value_in (lent_bytes o)
unwrapped None d h = h
unwrapped (Some v) d h = refl

-- A value of one byte, and one of more or fewer.
pub one_byte : (v : List ℕ) → length v ≡ 1 → get_or v 0 0 ≡ byte_in v
one_byte [] h = absurd (omega (arith, h))
one_byte (b ∷ []) h = refl
one_byte (b ∷ c ∷ l) h = absurd (omega (arith, h))

pub no_byte : (v : List ℕ) → (length v ≡ 1 → ⊥) → 0 ≡ byte_in v
no_byte [] h = refl
no_byte (b ∷ []) h = absurd (h refl)
no_byte (b ∷ c ∷ l) h = refl
