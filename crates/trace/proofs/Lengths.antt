-- How far the image goes, from field to field.
use mathlib.Core.Path.{◌≡◌, refl, sym, ap, ◌∙◌}
use mathlib.Core.List.{[], ◌∷◌}
use Prim.Native.Nat.{ℕ, zero, suc, ◌+◌, ◌-◌, ◌≤◌, ◌<◌}
use native.Mathlib.Omega.{arith}
use lib.ListN.{length, take, drop, get_or, length-drop}
use lib.Seq.{drop-cons, drop-drop, length-take-le}
use borrow.Author.Tests.{le-leb, lt-leb}
use Rattle.std.specs.Prelude.{Err}
use Rattle.basics.specs.Base.{Bytes}
use Rattle.basics.specs.Field.{little_endian, from_little_endian, encode_field}
use Rattle.basic_laws.specs.FieldLaws.{le_two}
use Rattle.field.specs.Reading.{Reads, Stands}
use Rattle.field.specs.declared.Item.{Item}
use Rattle.field.specs.declared.Broken.{Broken}
use Rattle.field.specs.declared.Broken.TheVariants.{NoHeader, NoValue}
use Rattle.trace.specs.Line.{image_length}

-- A field that is there whole is passed over; one that is cut short takes what is left.
passed : (m : ℕ) (l : Bytes) → m ≤ length l → image_length m l ≡ m + image_length 0 (drop m l)
unfolding image_length
passed zero l h = omega arith
passed (suc m) [] h = absurd (omega arith)
passed (suc m) (x ∷ l) h = let e = passed m l (omega arith) in omega (arith, e)

cut_short : (m : ℕ) (l : Bytes) → length l < m → image_length m l ≡ length l
unfolding image_length
cut_short zero l h = absurd (omega arith)
cut_short (suc m) [] h = refl
cut_short (suc m) (x ∷ l) h = ap suc (cut_short m l (omega arith))

-- A loop that stands at a field of the image.
pub record Walked (s : Bytes) (at : ℕ) : Type 0 where
  pub within : at ≤ length s
  pub same : image_length 0 s ≡ at + image_length 0 (drop at s)

pub walked : (s : Bytes) → Walked s 0
walked s = record { within = omega arith; same = omega arith }

module _ {s : Bytes} {at : ℕ} (w : Walked s at) where
  pub walked_end : length s ≤ at → (at ≤ length s) × (at ≡ image_length 0 s)
  unfolding image_length
  walked_end h =
      let e : drop at s ≡ [] = drop_all at s h in
      (w.within, sym (w.same ∙ ap (λ (l : Bytes). at + image_length 0 l) e ∙ omega arith))
    where
      drop_all : (n : ℕ) (l : Bytes) → length l ≤ n → drop n l ≡ []
      drop_all zero [] h = refl
      drop_all zero (x ∷ l) h = absurd (omega arith)
      drop_all (suc n) [] h = refl
      drop_all (suc n) (x ∷ l) h = drop_all n l (omega arith)

  module _ (h : at < length s) where
    front : drop at s ≡ get_or s at 0 ∷ drop (suc at) s
    front = drop-cons s at 0 h

    pub walked-other : 0x14 < get_or s at 0 → (at ≤ length s) × (at ≡ image_length 0 s)
    unfolding image_length
    walked-other t =
        let e : image_length 0 (drop at s) ≡ 0 = ap (image_length 0) front ∙ rw (lt-leb (get_or s at 0) 0x14 t) in
        (w.within, sym (w.same ∙ (rw e (omega arith))))

    module _ (t : get_or s at 0 ≤ 0x14) where
      behind : image_length 0 (drop at s) ≡ suc (image_length (2 + from_little_endian (take 2 (drop (suc at) s))) (drop (suc at) s))
      unfolding image_length
      behind = ap (image_length 0) front ∙ rw (le-leb (get_or s at 0) 0x14 t)

      rest : length (drop (suc at) s) ≡ length s - suc at
      rest = length-drop (suc at) s

      cut : length (drop (suc at) s) < 2 + from_little_endian (take 2 (drop (suc at) s)) → (length s ≤ length s) × (length s ≡ image_length 0 s)
      cut c =
          let a = cut_short (2 + from_little_endian (take 2 (drop (suc at) s))) (drop (suc at) s) c in
          (omega arith, sym (w.same ∙ (rw (behind ∙ ap suc a) (omega (arith, rest)))))

      pub walked-broken : (b : Broken) → Reads s at (Err b) → (length s ≤ length s) × (length s ≡ image_length 0 s)
      walked-broken NoHeader f = cut (omega (arith, rest, f.few))
      walked-broken NoValue f =
          let k : at + 1 ≡ suc at = omega arith in
          cut (omega (arith, rest, f.head, rw k at f.past))

      module _ {x : Item} (f : Stands s at x) where
        size : from_little_endian (take 2 (drop (suc at) s)) ≡ x.end - x.start
        unfolding encode_field little_endian
        size =
            let l : length (take (x.end - x.start) (drop x.start s)) ≡ x.end - x.start = length-take-le (x.end - x.start) (drop x.start s) (omega (arith, length-drop x.start s, f.within)) in
            ap (λ (l : Bytes). from_little_endian (take 2 (drop 1 l))) (sym front ∙ f.bytes) ∙ le_two (length (take (x.end - x.start) (drop x.start s))) (rw l f.short) ∙ l

        pub walked_on : Walked s x.end
        walked_on =
            let n = x.end - x.start in
            let a = passed (2 + n) (drop (suc at) s) (omega (arith, rest, f.start, f.ordered, f.within)) in
            let d : drop (2 + n) (drop (suc at) s) ≡ drop x.end s = drop-drop (2 + n) (suc at) s ∙ (let k : suc at + (2 + n) ≡ x.end = omega (arith, f.start, f.ordered) in rw k) in
            record { within = f.within; same = w.same ∙ rw (behind, size, a, d) (omega (arith, f.start, f.ordered)) }
