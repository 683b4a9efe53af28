-- The first bytes that two names have in common, and what order the bytes behind them give.
use mathlib.Core.Path.{◌≡◌, refl}
use Prim.Native.Nat.{ℕ, ◌+◌, ◌≤◌, ◌<◌}
use native.Mathlib.Omega.{arith}
use native.Mathlib.Numerals.{add-one}
use lib.ListN.{length, take, drop, get_or, drop_of_length-le}
use lib.Seq.{take-suc, drop-cons}
use Rattle.basics.specs.Order.{lt, eq, gt, Name, cmp_name}
use Rattle.basic_laws.specs.OrderLaws.{cmp_less, cmp_greater, cmp_drop}
use Rattle.paths.specs.Compare.{Common}

-- The loop of `common_prefix`: the bytes passed agree.
pub record Agree (a b : Name) (i : ℕ) : Type 0 where
  pub in_left : i ≤ length a
  pub in_right : i ≤ length b
  pub same : take i a ≡ take i b

pub agree : (a b : Name) → Agree a b 0
agree a b = record { in_left = omega arith; in_right = omega arith; same = refl }

module _ {a b : Name} {i : ℕ} (w : Agree a b i) where
  pub next : i < length a → i < length b → get_or a i 0 ≡ get_or b i 0 → Agree a b (i + 1)
  next l r e = record {
    in_left = omega arith;
    in_right = omega arith;
    same = rw (add-one, take-suc a i 0 l, take-suc b i 0 r, w.same, e);
  }

  pub common : (i < length a → i < length b → get_or a i 0 ≡ get_or b i 0 → ⊥) → Common a b i
  common d = record { in_left = w.in_left; in_right = w.in_right; same = w.same; differ = d }

module _ {a b : Name} {i : ℕ} (w : Common a b i) where
  behind : cmp_name a b ≡ cmp_name (drop i a) (drop i b)
  behind = cmp_drop i a b w.in_left w.in_right w.same

  pub equal : length a ≤ i → length b ≤ i → eq ≡ cmp_name a b
  equal l r = rw (behind, drop_of_length-le a l, drop_of_length-le b r)

  pub shorter : length a ≤ i → i < length b → lt ≡ cmp_name a b
  shorter l r = rw (behind, drop_of_length-le a l, drop-cons b i 0 r)

  pub longer : i < length a → length b ≤ i → gt ≡ cmp_name a b
  longer l r = rw (behind, drop-cons a i 0 l, drop_of_length-le b r)

  pub less : i < length a → i < length b → get_or a i 0 < get_or b i 0 → lt ≡ cmp_name a b
  less l r h = rw (behind, drop-cons a i 0 l, drop-cons b i 0 r, cmp_less _ _ h)

  pub greater : i < length a → i < length b → get_or b i 0 ≤ get_or a i 0 → gt ≡ cmp_name a b
  greater l r h =
      let d : get_or b i 0 < get_or a i 0 = omega (arith, w.differ l r) in
      rw (behind, drop-cons a i 0 l, drop-cons b i 0 r, cmp_greater _ _ d)
