-- 01, How a store is handed over: "A field is a tag (1 byte), a length (2 bytes, little-endian) and that many value bytes."
use Rattle.std.specs.Prelude.{ℕ, zero, suc, ◌+◌, ◌*◌, ◌/◌, ◌%◌, List, [], ◌∷◌, ◌++◌, Bool, false, length, take, drop, eqb}
use Rattle.std.proofs.Math.Option.{Option, none, some}
use Rattle.basics.specs.Base.{Bytes, case_option, any_of, flat_map}

-- A number in so many bytes, little-endian.
unfoldable pub little_endian : ℕ → ℕ → Bytes
little_endian zero n = []
little_endian (suc k) n = n % 256 ∷ little_endian k (n / 256)

-- The number of some bytes, little-endian.
unfoldable pub from_little_endian : Bytes → ℕ
from_little_endian [] = 0
from_little_endian (b ∷ r) = b + 256 * from_little_endian r

pub record Field : Type 0 where
  pub tag : ℕ
  pub value : Bytes

-- The bytes of a field, and of several.
unfoldable pub encode_field : Field → Bytes
encode_field f = f.tag ∷ little_endian 2 (length f.value) ++ f.value

unfoldable pub encode_fields : List Field → Bytes
encode_fields fs = flat_map encode_field fs

-- The fields that stand behind the first so many bytes; none where a length or a value is cut off.
unfoldable pub fields_from : ℕ → Bytes → Option (List Field)
fields_from (suc k) [] = none
fields_from (suc k) (x ∷ r) = fields_from k r
fields_from zero [] = some []
fields_from zero (t ∷ r) =
    let n : ℕ = from_little_endian (take 2 r) in
    case_option (fields_from (2 + n) r) none λ fs. some (record { tag = t; value = take n (drop 2 r) } ∷ fs)

-- The fields of some bytes.
unfoldable pub decode_fields : Bytes → Option (List Field)
decode_fields b = fields_from 0 b

-- The bytes hold a field of this tag.
unfoldable pub has_tag : ℕ → Bytes → Bool
has_tag t b = case_option (decode_fields b) false (λ fs. any_of (λ f. eqb t f.tag) fs)
