-- What `is_sound` tests, and two facts that are decided one after the other.
use mathlib.Core.Path.{◌≡◌, sym, ◌∙◌}
use mathlib.Core.Bool.{Bool, true, false, false≢true}
use Prim.Native.Nat.{ℕ, ◌+◌, ◌≤◌, ◌<◌}
use native.Mathlib.Omega.{arith}
use lib.Dec.{leb}
use lib.ListN.{length}
use borrow.Author.Tests.{leb-true, leb-false}
use Rattle.basics.specs.Limits.{name_limit}
use Rattle.basics.specs.Base.{Bytes}
use Rattle.spans.specs.Spans.{length_of, Sound, Decides}
use Rattle.spans.specs.declared.NameRef.{NameRef}

module _ {src : Bytes} {r : NameRef} where
  pub outside : length src < r.start + r.len → Decides (Sound src r) false
  outside h = record { yes = λ e. absurd (false≢true e); no = λ _ s. omega (arith, s.inside) }

  pub inside : (n : ℕ) → r.start + r.len ≤ length src → n ≡ length_of r → Decides (Sound src r) (leb n name_limit)
  inside n h e = record {
    yes = λ t. record { inside = h; room = omega (arith, leb-true n name_limit t) };
    no = λ t s. omega (arith, leb-false n name_limit t, s.room);
  }

-- The answer a decides the first of two facts: where it is no, both; else the second's answer does.
module _ {P Q : Type 0} {a : Bool} (p : Decides P a) where
  pub first_decides : a ≡ false → Decides (P × Q) a
  first_decides e = record { yes = λ t. absurd (false≢true (sym e ∙ t)); no = λ _ h. p.no e h.0 }

  pub second_decides : {b : Bool} → a ≡ true → Decides Q b → Decides (P × Q) b
  second_decides e q = record { yes = λ t. (p.yes e, q.yes t); no = λ t h. q.no t h.1 }
