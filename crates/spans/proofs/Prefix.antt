-- Bytes that go on behind keep every name.
use mathlib.Core.Path.{◌≡◌, refl, ap, ap₂, ◌∙◌}
use mathlib.Core.List.{List, [], ◌∷◌, ◌++◌, map}
use Prim.Native.Nat.{ℕ, ◌+◌, ◌≤◌}
use native.Mathlib.Omega.{arith}
use lib.ListN.{length, take, drop, length-append, length-drop}
use lib.Seq.{take-append-le, drop-append-le}
use Rattle.basics.specs.Base.{Bytes}
use Rattle.basic_laws.specs.Tests.{All}
use Rattle.spans.specs.Spans.{backups, name_of, Sound}
use Rattle.spans.specs.declared.NameRef.{NameRef}

-- A part that lies in the first bytes.
pub prefix_part : (src rest : Bytes) (start n : ℕ) → start + n ≤ length src → take n (drop start (src ++ rest)) ≡ take n (drop start src)
prefix_part src rest start n h = ap (take n) (drop-append-le start src rest (omega arith)) ∙ take-append-le n (drop start src) rest (omega (arith, length-drop start src))

module _ (rest : Bytes) {src : Bytes} {r : NameRef} (s : Sound src r) where
  pub prefix_sound : Sound (src ++ rest) r
  prefix_sound = record { inside = omega (arith, s.inside, length-append src rest); room = s.room }

  pub prefix_name : name_of (src ++ rest) r ≡ name_of src r
  unfolding name_of
  prefix_name = ap (λ (n : Bytes). backups r.baks n) (prefix_part src rest r.start r.len s.inside)

-- What agrees on each of a list's elements makes the same of the list.
pub map_same : {A B : Type 0} {P : A → Type 0} (f g : A → B) → ((a : A) → P a → f a ≡ g a) → (l : List A) → All P l → map f l ≡ map g l
map_same f g e [] h = refl
map_same f g e (a ∷ l) h = ap₂ ◌∷◌ (e a h.0) (map_same f g e l h.1)
