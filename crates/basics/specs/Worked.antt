-- Worked cases as one table: how rows are written, and that all of them hold once a test says so. No part of document 01.
use Rattle.std.specs.Prelude.{◌≡◌, refl, ℕ, zero, suc, ◌+◌, ◌*◌, ◌-◌, List, [], ◌∷◌, ◌++◌, map, Bool, true, false, ◌&&◌, T, leb, eqb, if◌then◌else◌}
use Rattle.std.proofs.Common.{sym, ap₂, subst, eqb→eq}
use Prim.Native.Char.{code}
use Prim.Native.String as string
use Prim.Native.String.{String}
use Rattle.std.proofs.lemmas.Bool.{false≢true}
use Rattle.basics.specs.Base.{Bytes, all_of}

-- Bytes written as text.
unfoldable pub text : String → Bytes
text string.[] = []
text (string.◌∷◌ c s) = code c ∷ text s

-- A hexadecimal digit; 256, which no byte holds, for any other character.
unfoldable pub digit : ℕ → ℕ
digit c = if leb 0x30 c && leb c 0x39 then c - 0x30 else if leb 0x41 c && leb c 0x46 then c - 0x37 else 256

-- Pairs of digits with a space between them. A digit alone, or two pairs without the space, give 256.
unfoldable pub pairs : Bytes → Bytes
pairs [] = []
pairs (a ∷ []) = 256 ∷ []
pairs (a ∷ b ∷ []) = (16 * digit a + digit b) ∷ []
pairs (a ∷ b ∷ c ∷ r) = (if eqb c 0x20 then 16 * digit a + digit b else 256) ∷ pairs r

-- Bytes written as hexadecimal pairs.
unfoldable pub hex : String → Bytes
hex s = pairs (text s)

-- Yes and no as 1 and 0.
unfoldable pub bit : Bool → Bytes
bit b = if b then 1 ∷ [] else 0 ∷ []

unfoldable pub times : ℕ → Bytes → Bytes
times zero b = []
times (suc n) b = b ++ times n b

-- A row's name, what the definitions compute, and what the document states.
pub record Row : Type 0 where
  pub what : String
  pub computed : Bytes
  pub stated : Bytes

unfoldable pub row : String → Bytes → Bytes → Row
row w c s = record { what = w; computed = c; stated = s }

-- Two byte strings compared by a test, and what the test says.
unfoldable pub equal : Bytes → Bytes → Bool
equal [] [] = true
equal [] (y ∷ b) = false
equal (x ∷ a) [] = false
equal (x ∷ a) (y ∷ b) = eqb x y && equal a b

first_and_rest : (a b : Bool) → (a && b) ≡ true → (a ≡ true) × (b ≡ true)
first_and_rest true b e = (refl, e)
first_and_rest false b e = absurd (false≢true e)

equal-eq : (a b : Bytes) → equal a b ≡ true → a ≡ b
unfolding equal
equal-eq [] [] e = refl
equal-eq [] (y ∷ b) e = absurd (false≢true e)
equal-eq (x ∷ a) [] e = absurd (false≢true e)
equal-eq (x ∷ a) (y ∷ b) e =
    let h = first_and_rest (eqb x y) (equal a b) e in
    ap₂ ◌∷◌ (eqb→eq x y (subst (λ (c : Bool). T c) (sym h.0) tt)) (equal-eq a b h.1)

-- The computed column is the stated one, where the test says so of each row.
pub agree : (l : List Row) → all_of (λ r. equal r.computed r.stated) l ≡ true → map (λ r. r.computed) l ≡ map (λ r. r.stated) l
agree [] e = refl
agree (r ∷ l) e =
    let h = first_and_rest (equal r.computed r.stated) _ e in
    ap₂ ◌∷◌ (equal-eq r.computed r.stated h.0) (agree l h.1)
