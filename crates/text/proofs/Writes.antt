-- A text that is written whole, or not at all where it has no room.
use Rattle.std.specs.Prelude.{Option, None, Some, IfSome, if◌then◌else◌}
use mathlib.Core.Path.{◌≡◌, refl, sym, ap, ◌∙◌}
use mathlib.Core.Bool.{Bool, true, false}
use mathlib.Core.List.{◌++◌}
use Prim.Native.Nat.{ℕ, ◌≤◌, ◌<◌}
use native.Mathlib.Omega.{arith}
use lib.ListN.{length, drop}
use lib.Dec.{leb}
use borrow.Author.Tests.{le-leb, lt-leb, leb-true, leb-false}
use Rattle.basics.specs.Base.{Bytes}
use Rattle.field.specs.Writing.{written}
use Rattle.field.proofs.Written.{written-full, written-front, length-written}
use Rattle.text.specs.Writing.{written_count, Writes}

pub not_written : {text out : Bytes} → length out < length text → Writes text out out None
unfolding written_count
not_written {text} {out} h = record { count = rw (lt-leb (length text) (length out) h); same = sym (written-full 0 text out (omega arith)) }

pub all_written : {text out after : Bytes} {n : ℕ} → length text ≤ length out → n ≡ length text → after ≡ written 0 text out → Writes text out after (Some n)
unfolding written_count
all_written {text} {out} h e p = record { count = rw (le-leb (length text) (length out) h, e); same = p }

-- What an answer says: no room, and nothing is written; or the whole text, at the front.
abbrev Tells : Bytes → Bytes → Bytes → Option ℕ → Type 0
Tells text out after None = (length out < length text) × (after ≡ out)
Tells text out after (Some n) = (length text ≤ length out) × ((n ≡ length text) × (after ≡ text ++ drop (length text) out))

tells : (text out after : Bytes) (n : Option ℕ) → Writes text out after n → Tells text out after n
unfolding written_count
tells text out after n w = go (leb (length text) (length out)) refl n w.count
  where
    go : (t : Bool) → leb (length text) (length out) ≡ t → (n : Option ℕ) → n ≡ (if t then Some (length text) else None) → Tells text out after n
    go true h n e = let l = leb-true (length text) (length out) h in rw e (l, (refl, w.same ∙ written-front text out l))
    go false h n e = let l = leb-false (length text) (length out) h in rw e (l, w.same ∙ written-full 0 text out (omega arith))

pub no_room : {text out after : Bytes} → Writes text out after None → (length out < length text) × (after ≡ out)
no_room {text} {out} {after} w = tells text out after None w

pub whole : {text out after : Bytes} {n : ℕ} → Writes text out after (Some n) → (length text ≤ length out) × ((n ≡ length text) × (after ≡ text ++ drop (length text) out))
whole {text} {out} {after} {n} w = tells text out after (Some n) w

-- Never are more bytes counted than the output has.
pub within : {text out after : Bytes} {n : Option ℕ} → Writes text out after n → IfSome n (λ k. k ≤ length after)
within {text} {out} {after} {n} w = go n (tells text out after n w)
  where
    go : (n : Option ℕ) → Tells text out after n → IfSome n (λ k. k ≤ length after)
    go None h = tt
    go (Some k) h = omega (arith, ap length w.same, length-written 0 text out)
