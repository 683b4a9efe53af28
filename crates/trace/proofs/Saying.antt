-- The line, where no byte follows, and how it is written.
use Rattle.std.specs.Prelude.{Option, None, Some, if◌then◌else◌}
use mathlib.Core.Path.{◌≡◌, refl, sym, ap, ◌∙◌}
use mathlib.Core.Bool.{Bool, true, false}
use mathlib.Core.List.{[], ◌∷◌, ◌++◌, append_assoc, append-nil}
use Prim.Native.Nat.{ℕ, suc, ◌+◌, ◌≤◌, ◌<◌}
use native.Mathlib.Omega.{arith}
use lib.ListN.{length, take, drop, length-append}
use lib.Seq.{take_all, length-take-le}
use Rattle.basics.specs.Base.{Bytes, same_bytes}
use Rattle.answers.specs.Answers.{decimal}
use Rattle.basic_laws.specs.Tests.{same-eq}
use Rattle.field.specs.Writing.{written}
use Rattle.field.proofs.Written.{written_then, length-written}
use Rattle.text.specs.Digits.{Digits}
use Rattle.text.specs.Writing.{Writes}
use Rattle.text.proofs.Writes.{not_written, all_written}
use Rattle.refusals.specs.Numbers.{number_of}
use Rattle.refusals.specs.declared.Refusal.{Refusal}
use Rattle.trace.specs.Line.{said, steps_line, differs_line, answer_line, line_from}
use Rattle.trace.specs.Tracking.{step_behind, told, Due, Tracks}
use Rattle.trace.specs.declared.Trace.{Trace}
use Rattle.trace.specs.declared.Trace.TheVariants.{Refused, Along, Differs}
use Rattle.fixed_vec.specs.FixedVec.{FixedVec}
use Rattle.trace.proofs.Next.{Next, refused, ended, ahead, next}
use Rattle.trace.proofs.Meeting.{some_byte, at_end}

module _ (word : Bytes) (n : ℕ) {k : ℕ} (d : Digits n k) where
  digits_long : length (decimal 10 n) ≡ k
  digits_long = sym (ap length d.same) ∙ d.size

  said-length : length (said word n) ≡ length word + 2 + k
  unfolding said
  said-length = omega (arith, digits_long, length-append (word ++ 0x20 ∷ decimal 10 n) (0x0A ∷ []), length-append word (0x20 ∷ decimal 10 n))

  said-is : said word n ≡ (word ++ 0x20 ∷ decimal 10 n) ++ 0x0A ∷ []
  unfolding said
  said-is = refl

  -- No room.
  pub unsaid : (out : Bytes) → length out < length word + 2 + k → Writes (said word n) out out None
  unsaid out h = not_written (omega (arith, said-length))

  module _ (out : Bytes) (h : length word + 2 + k ≤ length out) where
    pub decimal-asks : {a b : Bytes} → a ≡ written 0 word out → b ≡ written (length word) (0x20 ∷ []) a → length word + 1 + length (decimal 10 n) ≤ length b
    decimal-asks {a} p q = omega (arith, digits_long, ap length p, length-written 0 word out, ap length q, length-written (length word) (0x20 ∷ []) a)

    pub said_all : {a b c e : Bytes} → a ≡ written 0 word out → b ≡ written (length word) (0x20 ∷ []) a → c ≡ written (length word + 1) (decimal 10 n) b
        → e ≡ written (length word + 1 + k) (0x0A ∷ []) c → Writes (said word n) out e (Some (length word + 2 + k))
    said_all p q r s =
        let x = length-append word (0x20 ∷ []) in
        let y = length-append (word ++ 0x20 ∷ []) (decimal 10 n) in
        let one = written_then 0 (length word) word (0x20 ∷ []) out p q (omega arith) (omega arith) in
        let two = written_then 0 (length word + 1) (word ++ 0x20 ∷ []) (decimal 10 n) out one r (omega (arith, x)) (omega (arith, digits_long)) in
        let all = written_then 0 (length word + 1 + k) ((word ++ 0x20 ∷ []) ++ decimal 10 n) (0x0A ∷ []) out two s (omega (arith, x, y, digits_long)) (omega arith) in
        all_written (omega (arith, said-length)) (sym said-length) (all ∙ whole)
      where
        whole : written 0 (((word ++ 0x20 ∷ []) ++ decimal 10 n) ++ 0x0A ∷ []) out ≡ written 0 (said word n) out
        whole = ap (λ (m : Bytes). written 0 (m ++ 0x0A ∷ []) out) (append_assoc word (0x20 ∷ []) (decimal 10 n)) ∙ ap (λ (m : Bytes). written 0 m out) (sym said-is)

-- What is shorter is another.
shorter : (f q : Bytes) → length q < length f → same_bytes f q ≡ false
shorter f q h = go (same_bytes f q) refl
  where
    go : (b : Bool) → same_bytes f q ≡ b → b ≡ false
    go true e = absurd (omega (arith, h, ap length (same-eq f q e)))
    go false e = refl

same_text : {a b out after : Bytes} {n : Option ℕ} → a ≡ b → Writes b out after n → Writes a out after n
same_text e w = rw e w

-- What a trace tells is the line, where no byte follows.
module _ {image b : Bytes} {t : Trace} (w : Tracks image b t) where
  pub ends : line_from image 0 b ≡ told image t []
  ends = ap (line_from image 0) (sym (append-nil b)) ∙ w.line []

-- All bytes of the last step were met.
pub all-met : {image : Bytes} {n : ℕ} {f : Bytes} → Due image n f 0 → line_from image n [] ≡ steps_line n
all-met {image} {n} d = go (next image n)
  where
    go : Next image n (step_behind image n) → line_from image n [] ≡ steps_line n
    go (refused j p z q o h) = absurd (q (sym p ∙ at_end d (λ e. z (sym p ∙ e))))
    go (ended p z h) = h []
    go (ahead p z h) = h []

-- Some were not.
pub cut_off : {image : Bytes} {n m : ℕ} {f : Bytes} → Due image n f m → 0 < m → line_from image n (take m f ++ []) ≡ differs_line (suc n)
cut_off {image} {n} {m} {f} d h = go (next image n)
  where
    long : length (take m f ++ []) ≡ m
    long = rw (append-nil (take m f)) (length-take-le m f (let i = d.inside h in omega arith))

    go : Next image n (step_behind image n) → line_from image n (take m f ++ []) ≡ differs_line (suc n)
    go (refused j p z q o g) = absurd (q (sym p ∙ at_end d (λ e. z (sym p ∙ e))))
    go (ended p z g) = absurd (let i = d.inside h in omega (arith, z, ap length d.same))
    go (ahead p z g) =
        let i = d.inside h in
        let l = long in
        let u : take (length (step_behind image n).step) (take m f ++ []) ≡ take m f ++ [] = take_all (length (step_behind image n).step) (take m f ++ []) (omega (arith, ap length d.same)) in
        g (take m f ++ [])
        ∙ some_byte (take m f) [] (steps_line n)
        (if same_bytes (step_behind image n).step (take (length (step_behind image n).step) (take m f ++ []))
        then line_from image (suc n) (drop (length (step_behind image n).step) (take m f ++ [])) else differs_line (suc n)) (omega (arith, length-append (take m f) []))
        ∙ rw (u, shorter (step_behind image n).step (take m f ++ []) (omega (arith, ap length d.same)))

-- The line that is written, for each trace.
module _ {out after : Bytes} {k : Option ℕ} where
  pub tells_answer : (r : Refusal) {n : ℕ} → n ≡ number_of r → Writes (answer_line n) out after k → (image b : Bytes) → Tracks image b (Refused r) → Writes (line_from image 0 b) out after k
  tells_answer r e v image b w = same_text (ends w) (rw e at v)

  pub tells_steps : (n : ℕ) (f : FixedVec ℕ) → Writes (steps_line n) out after k → (image b : Bytes) → Tracks image b (Along n f 0) → Writes (line_from image 0 b) out after k
  tells_steps n f v image b w = same_text (ends w ∙ all-met w.stands) v

  pub tells_cut : (n : ℕ) (f : FixedVec ℕ) (m : ℕ) → 0 < m → Writes (differs_line (n + 1)) out after k → (image b : Bytes) → Tracks image b (Along n f m) → Writes (line_from image 0 b) out after k
  tells_cut n f m h v image b w = let e : n + 1 ≡ suc n = omega arith in same_text (ends w ∙ cut_off w.stands h) (rw e at v)

  pub tells_differs : (n : ℕ) (f : FixedVec ℕ) (m : ℕ) → Writes (differs_line (n + 1)) out after k → (image b : Bytes) → Tracks image b (Differs n f m) → Writes (line_from image 0 b) out after k
  tells_differs n f m v image b w = let e : n + 1 ≡ suc n = omega arith in same_text (ends w) (rw e at v)
