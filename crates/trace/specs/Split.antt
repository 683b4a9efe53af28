-- The image need not be told apart from what stands behind it in the whole input: the first 19,391 bytes are enough, or all where the input has fewer.
use Rattle.std.specs.Prelude.{◌≡◌, refl, Bool, true, false, [], ◌∷◌, ◌++◌, ◌⊎◌, ℕ, zero, suc, ◌+◌, ◌≤◌, ◌<◌, length, take, drop, leb, if◌then◌else◌}
use Rattle.std.proofs.Common.{sym, ap, ◌∙◌, append-nil, inl, inr, arith, length-take-le, leb-true, leb-false}
use Rattle.std.proofs.Math.Option.{Option, none, some}
use Rattle.std.proofs.lemmas.List.{take-append-le, drop-append-le}
use Rattle.basics.specs.Limits.{image_room}
use Rattle.basics.specs.Base.{Bytes}
use Rattle.basics.specs.Field.{from_little_endian}
use Rattle.model.specs.Store.{Store}
use Rattle.model.specs.Image.{decode}
use Rattle.basic_laws.specs.ValidNames.{valid_naming}
use Rattle.laws.specs.ImageLaws.{decode-only}
use Rattle.laws.specs.LengthLaws.{encode-length}
use Rattle.answer_laws.specs.EntryLaws.{lent-good}
use Rattle.trace.specs.Line.{image_length, answer_line, line_from, trace_line}

within : (m : ℕ) (l : Bytes) → image_length m l ≤ length l
unfolding image_length
within zero [] = omega arith
within (suc m) [] = omega arith
within (suc m) (x ∷ l) = let h = within m l in omega (arith, h)
within zero (t ∷ l) = go (leb t 0x14) (within (2 + from_little_endian (take 2 l)) l)
  where
    go : (b : Bool) → image_length (2 + from_little_endian (take 2 l)) l ≤ length l → (if b then suc (image_length (2 + from_little_endian (take 2 l)) l) else 0) ≤ suc (length l)
    go true h = omega (arith, h)
    go false h = omega arith

-- A field that goes past the end takes all.
past : (m : ℕ) (l : Bytes) → length l < m → image_length m l ≡ length l
unfolding image_length
past zero l h = absurd (omega arith)
past (suc m) [] h = refl
past (suc m) (x ∷ l) h = ap suc (past m l (omega arith))

passed : (m : ℕ) (l c : Bytes) → length l ≤ m → length l ≤ image_length m (l ++ c)
unfolding image_length
passed m [] c h = omega arith
passed zero (x ∷ l) c h = absurd (omega arith)
passed (suc m) (x ∷ l) c h = let e = passed m l c (omega arith) in omega (arith, e)

-- An image that ends in the bytes ends there whatever follows; one that does not is no shorter.
inside : (m : ℕ) (l c : Bytes) → image_length m l < length l → image_length m (l ++ c) ≡ image_length m l
unfolding image_length
inside zero [] c h = absurd (omega arith)
inside (suc m) [] c h = absurd (omega arith)
inside (suc m) (x ∷ l) c h = ap suc (inside m l c (omega arith))
inside zero (t ∷ l) c h = go (leb t 0x14) (λ i. inside (2 + from_little_endian (take 2 l)) l c i) h
  where
    go : (b : Bool) → (image_length (2 + from_little_endian (take 2 l)) l < length l → image_length (2 + from_little_endian (take 2 l)) (l ++ c) ≡ image_length (2 + from_little_endian (take 2 l)) l)
        → (if b then suc (image_length (2 + from_little_endian (take 2 l)) l) else 0) < suc (length l)
        → (if b then suc (image_length (2 + from_little_endian (take 2 (l ++ c))) (l ++ c)) else 0) ≡ (if b then suc (image_length (2 + from_little_endian (take 2 l)) l) else 0)
    go false r h = refl
    go true r h = two (leb 2 (length l)) refl
      where
        two : (b : Bool) → leb 2 (length l) ≡ b → suc (image_length (2 + from_little_endian (take 2 (l ++ c))) (l ++ c)) ≡ suc (image_length (2 + from_little_endian (take 2 l)) l)
        two true e = rw (take-append-le 2 l c (leb-true 2 (length l) e)) (ap suc (r (omega (arith, h))))
        two false e = absurd (omega (arith, h, past (2 + from_little_endian (take 2 l)) l (omega (arith, leb-false 2 (length l) e))))

beyond : (m : ℕ) (l c : Bytes) → image_length m l ≡ length l → length l ≤ image_length m (l ++ c)
unfolding image_length
beyond zero [] c h = omega arith
beyond (suc m) [] c h = omega arith
beyond (suc m) (x ∷ l) c h = let e = beyond m l c (omega (arith, h)) in omega (arith, e)
beyond zero (t ∷ l) c h = go (leb t 0x14) (λ i. beyond (2 + from_little_endian (take 2 l)) l c i) h
  where
    go : (b : Bool) → (image_length (2 + from_little_endian (take 2 l)) l ≡ length l → length l ≤ image_length (2 + from_little_endian (take 2 l)) (l ++ c))
        → (if b then suc (image_length (2 + from_little_endian (take 2 l)) l) else 0) ≡ suc (length l)
        → suc (length l) ≤ (if b then suc (image_length (2 + from_little_endian (take 2 (l ++ c))) (l ++ c)) else 0)
    go false r h = absurd (omega (arith, h))
    go true r h = two (leb 2 (length l)) refl
      where
        two : (b : Bool) → leb 2 (length l) ≡ b → suc (length l) ≤ suc (image_length (2 + from_little_endian (take 2 (l ++ c))) (l ++ c))
        two true e = rw (take-append-le 2 l c (leb-true 2 (length l) e)) (let i = r (omega (arith, h)) in omega (arith, i))
        two false e = let i = passed (2 + from_little_endian (take 2 (l ++ c))) l c (omega (arith, leb-false 2 (length l) e)) in omega (arith, i)

-- No image is longer than 19,390 bytes.
too_long : (b : Bytes) → image_room < length b → decode b ≡ none
too_long b h = go (decode b) refl
  where
    go : (o : Option Store) → decode b ≡ o → o ≡ none
    go none d = refl
    go (some s) d = absurd (omega (arith, h, ap length (decode-only b s d).0, encode-length valid_naming s (lent-good b s d)))

refused : (image : Bytes) (l : Bytes) → image_room < length image → line_from image 0 l ≡ answer_line 1
unfolding line_from
refused image l h = rw (too_long image h)

-- The three ways: the image ends in the first bytes; nothing follows them; they are more than an image can have.
split-inside : (first c : Bytes) → image_length 0 first < length first
    → trace_line (first ++ c) ≡ line_from (take (image_length 0 first) first) 0 (drop (image_length 0 first) first ++ c)
unfolding trace_line
split-inside first c i =
    let l = within 0 first in
    rw (inside 0 first c i, take-append-le (image_length 0 first) first c l, drop-append-le (image_length 0 first) first c l)

split-all : (first : Bytes) → trace_line (first ++ []) ≡ line_from (take (image_length 0 first) first) 0 (drop (image_length 0 first) first ++ [])
unfolding trace_line
split-all first = rw (append-nil first, append-nil (drop (image_length 0 first) first))

split-long : (first c : Bytes) → image_length 0 first ≡ length first → image_room < length first
    → trace_line (first ++ c) ≡ line_from (take (image_length 0 first) first) 0 (drop (image_length 0 first) first ++ c)
unfolding trace_line
split-long first c e h =
    let a = length-take-le (image_length 0 (first ++ c)) (first ++ c) (within 0 (first ++ c)) in
    let b = length-take-le (image_length 0 first) first (within 0 first) in
    refused (take (image_length 0 (first ++ c)) (first ++ c)) _ (omega (arith, a, h, beyond 0 first c e))
    ∙ sym (refused (take (image_length 0 first) first) _ (omega (arith, b, e, h)))

-- The line of an input by its first bytes and the rest: those are all of it, or more than an image can have. So who keeps 19,391 bytes and meets the rest as
-- it comes writes the line of the whole input.
pub split : (first c : Bytes) → (c ≡ []) ⊎ (image_room < length first)
    → trace_line (first ++ c) ≡ line_from (take (image_length 0 first) first) 0 (drop (image_length 0 first) first ++ c)
split first c h = go (leb (suc (image_length 0 first)) (length first)) refl h
  where
    go : (b : Bool) → leb (suc (image_length 0 first)) (length first) ≡ b → (c ≡ []) ⊎ (image_room < length first)
        → trace_line (first ++ c) ≡ line_from (take (image_length 0 first) first) 0 (drop (image_length 0 first) first ++ c)
    go true e r = split-inside first c (omega (arith, leb-true (suc (image_length 0 first)) (length first) e))
    go false e (inl z) = rw z (split-all first)
    go false e (inr r) = split-long first c (omega (arith, within 0 first, leb-false (suc (image_length 0 first)) (length first) e)) r
