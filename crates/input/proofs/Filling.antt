-- A buffer that is filled from a reader, read by read.
use mathlib.Core.Path.{◌≡◌, refl, sym, ap, ◌∙◌}
use mathlib.Core.List.{List, [], ◌∷◌, ◌++◌, append_assoc}
use Prim.Native.Nat.{ℕ, suc, ◌+◌, ◌-◌, ◌≤◌}
use native.Mathlib.Omega.{arith}
use lib.ListN.{length, take, drop, length-drop}
use lib.Seq.{length-take-le}
use borrow.Rule.Slice.PartMut.{mid_of, put_mid, post_of, same_len_mid}
use Rattle.std.specs.Prelude.{Option, None, Some}
use Rattle.std.specs.Io.KnownBytes.{Consumes}
use Rattle.std.proofs.lemmas.List.{take-append-le}

-- The n bytes at the front of a buffer of this room are those that the reader gave.
pub record Filling (before now : Option (List ℕ)) (all : ℕ) (buf : List ℕ) (n : ℕ) : Type 0 where
  pub within : n ≤ length buf
  pub room : length buf ≡ all
  pub given : Consumes before now (take n buf)

-- Nothing was read.
pub none_read : (r : Option (List ℕ)) (buf : List ℕ) → Filling r r (length buf) buf 0
none_read None buf = record { within = omega arith; room = refl; given = tt }
none_read (Some xs) buf = record { within = omega arith; room = refl; given = refl }

-- What one read took, and the next.
both_read : (a b c : Option (List ℕ)) (p q : List ℕ) → Consumes a b p → Consumes b c q → Consumes a c (p ++ q)
both_read None b c p q x y = tt
both_read (Some s) None c p q x y = absurd x
both_read (Some s) (Some t) None p q x y = y
both_read (Some s) (Some t) (Some u) p q x y = x ∙ ap (p ++◌) y ∙ sym (append_assoc p q u)

front : (a b : List ℕ) (m : ℕ) → take (length a + m) (a ++ b) ≡ a ++ take m b
front [] b m = let e : length {A = ℕ} [] + m ≡ m = omega arith in rw e
front (x ∷ a) b m = let e : length (x ∷ a) + m ≡ suc (length a + m) = omega arith in rw e (ap (λ (l : List ℕ). x ∷ l) (front a b m))

module _ {before now : Option (List ℕ)} {all n : ℕ} {buf : List ℕ} (f : Filling before now all buf n) where
  -- A read put m bytes behind them.
  pub more_read : {after : Option (List ℕ)} {m : ℕ} (part : List ℕ) → m ≤ length part → length part ≡ length (mid_of n (length buf - n) buf) → Consumes now after (take m part)
      → Filling before after all (put_mid n (length buf - n) buf part) (n + m)
  more_read {after} {m} part h e c = record {
    within = omega (arith, f.within, h, e, i, size);
    room = size ∙ f.room;
    given = rw taken (both_read before now after (take n buf) (take m part) f.given c);
  }
    where
      k : length (take n buf) ≡ n
      k = length-take-le n buf f.within

      i : length (mid_of n (length buf - n) buf) ≡ length buf - n
      i = length-take-le (length buf - n) (drop n buf) (omega (arith, length-drop n buf))

      size : length (put_mid n (length buf - n) buf part) ≡ length buf
      size = same_len_mid n (length buf - n) buf part e

      taken : take (n + m) (put_mid n (length buf - n) buf part) ≡ take n buf ++ take m part
      taken =
          ap (λ (i : ℕ). take (i + m) (put_mid n (length buf - n) buf part)) (sym k)
          ∙ front (take n buf) (part ++ post_of n (length buf - n) buf) m
          ∙ ap (take n buf ++◌) (take-append-le m part (post_of n (length buf - n) buf) h)
