-- A name between its quotes, and the parts of a node.
use Rattle.std.specs.Prelude.{if◌then◌else◌}
use mathlib.Core.Path.{◌≡◌, refl, sym, ap, ◌∙◌}
use mathlib.Core.Bool.{Bool, true, false}
use mathlib.Core.List.{[], ◌∷◌, ◌++◌}
use Prim.Native.Nat.{ℕ, ◌+◌, ◌*◌, ◌≤◌, ◌<◌}
use native.Mathlib.Omega.{arith}
use native.Mathlib.Numerals.{add-one}
use lib.ListN.{length, take, get_or}
use lib.Seq.{take-suc, take_all}
use lib.Dec.{eqb}
use Rattle.basics.specs.Order.{Name}
use Rattle.basics.specs.Base.{Bytes}
use Rattle.field.specs.Writing.{written}
use Rattle.field.proofs.Written.{written-nil}
use Rattle.std.proofs.lemmas.Grind.{flat_map-append}
use Rattle.answers.specs.Answers.{decimal}
use Rattle.answers.specs.Inventory.{escaped, quoted}
use Rattle.basic_laws.specs.Tests.{eqb-eq}
use Rattle.text.specs.Digits.{Digits}
use Rattle.inventory.specs.Putting.{Puts}
use Rattle.std.specs.Prelude.{None, Some}
use Rattle.std.specs.declared.option.Option.{Option}
use Rattle.inventory.specs.declared.Kind.{Kind}
use Rattle.inventory.specs.declared.Kind.TheVariants.{Directory, File}
use Rattle.inventory.specs.Walk.{divider, ending, dir_text, file_text}
use Rattle.inventory.proofs.Parts.{put, no_room, joined, as_text}

-- One byte.
pub escaped_quote : (b : ℕ) → b ≡ 0x22 → 0x5C ∷ 0x22 ∷ [] ≡ escaped (b ∷ [])
unfolding escaped
escaped_quote b e = rw e

pub escaped-plain : (b : ℕ) → (b ≡ 0x22 → ⊥) → b ∷ [] ≡ escaped (b ∷ [])
unfolding escaped
escaped-plain b h = go (eqb b 0x22) refl
  where
    go : (t : Bool) → eqb b 0x22 ≡ t → b ∷ [] ≡ (if t then 0x5C ∷ 0x22 ∷ [] else b ∷ []) ++ []
    go true e = absurd (h (eqb-eq b 0x22 e))
    go false e = refl

escaped-append : (a b : Name) → escaped (a ++ b) ≡ escaped a ++ escaped b
unfolding escaped
escaped-append a b = flat_map-append (λ (x : ℕ). if eqb x 0x22 then 0x5C ∷ 0x22 ∷ [] else x ∷ []) a b

-- The loop over some bytes: the first i are put.
pub record Quoting (n : Bytes) (at : ℕ) (out : Bytes) (i p : ℕ) (now : Bytes) : Type 0 where
  pub within : i ≤ length n
  pub bound : p ≤ at + 2 * i
  pub done : Puts (escaped (take i n)) at out now p

pub quoting : {n : Bytes} {at : ℕ} {out : Bytes} → Quoting n at out 0 at out
unfolding escaped
quoting {n} {at} {out} = record { within = omega arith; bound = omega arith; done = put {text = []} (sym (written-nil at out)) (omega arith) }

module _ {n : Bytes} {at i p : ℕ} {out now : Bytes} (w : Quoting n at out i p now) where
  pub byte_quoted : {q : ℕ} {mid : Bytes} → i < length n → Puts (escaped (get_or n i 0 ∷ [])) p now mid q × (q ≤ p + 2) → Quoting n at out (i + 1) q mid
  byte_quoted {q} {mid} h x =
      let shape : escaped (take i n) ++ escaped (get_or n i 0 ∷ []) ≡ escaped (take (i + 1) n) = rw (add-one i, take-suc n i 0 h) (sym (escaped-append (take i n) (get_or n i 0 ∷ []))) in
      record { within = omega arith; bound = omega (arith, w.bound, x.1); done = as_text shape (joined w.done x.0) }

  pub all-quoted : length n ≤ i → Puts (escaped n) at out now p × (p ≤ at + 2 * length n)
  all-quoted h = (as_text (ap escaped (take_all i n h)) w.done, omega (arith, w.bound, w.within))

-- A name's two slices between the quotes.
pub quoted-put : (a b n : Bytes) {at p q r end : ℕ} {out first second third after : Bytes} → a ++ b ≡ n → Puts (0x22 ∷ []) at out first p → Puts (escaped a) p first second q → Puts (escaped b) q second third r
    → Puts (0x22 ∷ []) r third after end → Puts (quoted n) at out after end
unfolding quoted
quoted-put a b n e x y z w =
    let shape : escaped a ++ escaped b ≡ escaped n = sym (escaped-append a b) ∙ ap escaped e in
    joined {a = 0x22 ∷ []} x (joined (as_text shape (joined y z)) w)

-- A number.
module _ {n k : ℕ} (d : Digits n k) where
  digits_length : length (decimal 10 n) ≡ k
  digits_length = sym (ap length d.same) ∙ d.size

  pub number-room : (at len : ℕ) → at + k ≤ len → at + length (decimal 10 n) ≤ len
  number-room at len h = omega (arith, digits_length)

  pub number-none : {at : ℕ} {out : Bytes} → length out < at + k → Puts (decimal 10 n) at out out (at + k) × (at + k ≤ at + 10)
  number-none h = (no_room (omega (arith, digits_length)) (omega (arith, digits_length)), omega (arith, d.bound))

  pub number_put : {at : ℕ} {out after : Bytes} → after ≡ written at (decimal 10 n) out → Puts (decimal 10 n) at out after (at + k) × (at + k ≤ at + 10)
  number_put e = (put e (omega (arith, digits_length)), omega (arith, d.bound))

-- What stands before a part, and behind all, has two bytes at most.
pub few : (b : Option Kind) (k : Kind) → length (divider b k) ≤ 2
few None k = omega arith
few (Some Directory) Directory = omega arith
few (Some Directory) File = omega arith
few (Some File) Directory = omega arith
few (Some File) File = omega arith

pub few-last : (b : Option Kind) → length (ending b) ≤ 2
few-last None = omega arith
few-last (Some k) = omega arith

-- A directory's part and a file's.
module _ (name : Name) (before : Option Kind) {at p q r : ℕ} {out first second third between : Bytes} where
  pub dir-put : between ≡ divider before Directory → Puts between at out first p × (p ≤ at + 2) → Puts (quoted name) p first second q × (q ≤ p + 130)
      → Puts (0x3A ∷ 0x7B ∷ []) q second third r × (r ≤ q + 2) → Puts (dir_text before name) at out third r × (r ≤ at + 150)
  unfolding dir_text
  dir-put e x y z = (joined (as_text e x.0) (joined y.0 z.0), omega (arith, x.1, y.1, z.1))

  pub file-put : (number : ℕ) {end : ℕ} {after : Bytes} → between ≡ divider before File → Puts between at out first p × (p ≤ at + 2) → Puts (quoted name) p first second q × (q ≤ p + 130)
      → Puts (0x3A ∷ []) q second third r × (r ≤ q + 2) → Puts (decimal 10 number) r third after end × (end ≤ r + 10) → Puts (file_text before name number) at out after end × (end ≤ at + 150)
  unfolding file_text
  file-put number e x y z w = (joined (as_text e x.0) (joined y.0 (joined {a = 0x3A ∷ []} z.0 w.0)), omega (arith, x.1, y.1, z.1, w.1))
