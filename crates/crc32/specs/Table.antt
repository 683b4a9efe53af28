-- The table of 256 numbers, and its number for each byte.
use Rattle.std.specs.Prelude.{◌≡◌, List, [], ◌∷◌, map, ℕ, zero, suc, ◌+◌, ◌<◌, get_or}
use Rattle.std.proofs.Common.{ap, ◌∙◌, arith}
use Rattle.basics.specs.Crc32.{shifts}
use Rattle.basic_laws.specs.FieldLaws.{Byte}

-- n numbers, from b on.
unfoldable pub numbers_from : ℕ → ℕ → List ℕ
numbers_from b zero = []
numbers_from b (suc n) = b ∷ numbers_from (suc b) n

-- 02, item 3: "a table of 256 numbers, one for each byte: that byte after eight steps of the bit-by-bit working".
unfoldable pub byte_table : List ℕ
byte_table = map (shifts 8) (numbers_from 0 256)

at_place : (f : ℕ → ℕ) (n b k : ℕ) → k < n → get_or (map f (numbers_from b n)) k 0 ≡ f (b + k)
unfolding numbers_from
at_place f zero b k h = absurd (omega arith)
at_place f (suc n) b zero h = ap f (omega arith)
at_place f (suc n) b (suc k) h = at_place f n (suc b) k (omega arith) ∙ ap f (omega arith)

pub number_of : (b : ℕ) → Byte b → get_or byte_table b 0 ≡ shifts 8 b
unfolding byte_table
number_of b h = at_place (shifts 8) 256 0 b h ∙ ap (shifts 8) (omega arith)
