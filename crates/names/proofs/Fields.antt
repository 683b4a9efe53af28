-- Names and fields of names, written part by part.
use mathlib.Core.Path.{◌≡◌, refl, ap, ◌∙◌}
use mathlib.Core.List.{◌∷◌, ◌++◌}
use Prim.Native.Nat.{ℕ, ◌+◌, ◌-◌, ◌≤◌, ◌<◌}
use native.Mathlib.Omega.{arith}
use lib.ListN.{length, length-append}
use Rattle.basics.specs.Base.{Bytes}
use Rattle.basics.specs.Field.{little_endian, encode_field}
use Rattle.spans.specs.Spans.{name_of, length_of, Sound}
use Rattle.spans.specs.declared.NameRef.{NameRef}
use Rattle.spans.proofs.Parts.{length-name}
use Rattle.field.specs.Writing.{written, field}
use Rattle.field.proofs.Written.{written_none, length-written, written_then, encoded_length}

module _ {src : Bytes} {r : NameRef} (s : Sound src r) (f : Bytes) (n at tag : ℕ) (out : Bytes) (e : n ≡ length_of r) where
  value : length f + n ≡ length (f ++ name_of src r)
  value = omega (arith, length-name s, length-append f (name_of src r))

  pub field-written : (next : ℕ) {first mid end : Bytes} → first ≡ written at (tag ∷ little_endian 2 (length f + n)) out → mid ≡ written (at + 3) f first → end ≡ written next (name_of src r) mid → next ≡ at + 3 + length f
      → 3 + (length f + n) ≤ length out - at → end ≡ written at (encode_field (field tag (f ++ name_of src r))) out
  unfolding encode_field little_endian
  field-written next {first} p q u z h =
      let l : length first ≡ length out = ap length p ∙ length-written at (tag ∷ little_endian 2 (length f + n)) out in
      let w = written_then (at + 3) next f (name_of src r) first q u z (omega (arith, length-name s)) in
      written_then at (at + 3) (tag ∷ little_endian 2 (length f + n)) (f ++ name_of src r) out p w refl (omega (arith, value))
      ∙ ap (λ (k : ℕ). written at (tag ∷ little_endian 2 k ++ (f ++ name_of src r)) out) value

  pub field-none : length out - at < 3 + (length f + n) → out ≡ written at (encode_field (field tag (f ++ name_of src r))) out
  field-none h = written_none at _ out (omega (arith, value, encoded_length (field tag (f ++ name_of src r))))
