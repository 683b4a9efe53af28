-- A name's two slices, written one behind the other.
use mathlib.Core.Path.{◌≡◌, sym, ap, ◌∙◌}
use mathlib.Core.List.{[], ◌++◌, append-nil}
use Prim.Native.Nat.{ℕ, ◌+◌, ◌-◌, ◌≤◌, ◌<◌}
use native.Mathlib.Omega.{arith}
use native.Mathlib.Decide.{dec_le}
use lib.ListN.{length, length-append}
use Rattle.std.proofs.lemmas.List.{nil_from_length}
use Rattle.basics.specs.Base.{Bytes}
use Rattle.field.specs.Writing.{written}
use Rattle.field.proofs.Written.{written_none, written-nil, written_then}

-- Two parts, where there is room for both, and where there is not.
pub both-written : (at next : ℕ) (a b n out : Bytes) {mid end : Bytes} → a ++ b ≡ n → mid ≡ written at a out → end ≡ written next b mid → next ≡ at + length a → length a + length b ≤ length out - at → end ≡ written at n out
both-written at next a b n out {mid} {end} e p q r h = go (dec_le (next + length b) (length out)) ∙ ap (λ (l : Bytes). written at l out) e
  where
    go : Dec (next + length b ≤ length out) → end ≡ written at (a ++ b) out
    go (yes k) = written_then at next a b out p q r k
    go (no k) =
        let z : length b ≡ 0 = omega arith in
        let y : b ≡ [] = nil_from_length b z in
        q ∙ ap (λ (l : Bytes). written next l mid) y ∙ written-nil next mid ∙ p ∙ ap (λ (l : Bytes). written at l out) (sym (ap (a ++◌) y ∙ append-nil a))

pub both-none : (at : ℕ) (a b n out : Bytes) → a ++ b ≡ n → length out - at < length a + length b → out ≡ written at n out
both-none at a b n out e h = written_none at n out (omega (arith, ap length e, length-append a b))
