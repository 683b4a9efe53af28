-- One byte more of a trace, in each way that it can go.
use Rattle.std.specs.Prelude.{if◌then◌else◌}
use mathlib.Core.Path.{◌≡◌, refl, sym, ap, ◌∙◌}
use mathlib.Core.Bool.{Bool, true, false}
use mathlib.Core.List.{[], ◌∷◌, ◌++◌, append_assoc}
use Prim.Native.Nat.{ℕ, zero, suc, ◌+◌, ◌≤◌, ◌<◌}
use native.Mathlib.Omega.{arith}
use lib.ListN.{length, take, drop, get_or}
use lib.Dec.{eqb}
use lib.Seq.{length-take-le, take-suc, take_all, take-append_seam, drop-append_seam, get_or-take}
use Rattle.std.proofs.lemmas.Bool.{eqb-false}
use Rattle.basics.specs.Base.{Bytes, if_empty, same_bytes}
use Rattle.basic_laws.specs.Tests.{same-eq, same_refl}
use Rattle.refusals.specs.Numbers.{number_of}
use Rattle.refusals.specs.declared.Refusal.{Refusal}
use Rattle.steps.proofs.Running.{some-number}
use Rattle.trace.specs.Line.{steps_line, differs_line, answer_line, line_from}
use Rattle.trace.specs.Tracking.{step_behind, told, Due, Tracks, Fresh, Goes}
use Rattle.trace.specs.declared.Trace.{Trace}
use Rattle.trace.specs.declared.Trace.TheVariants.{Refused, Along, Differs}
use Rattle.fixed_vec.specs.FixedVec.{FixedVec}
use Rattle.trace.proofs.Next.{Next, refused, ended, ahead, refused-so, next}

not-empty : {A : Type 0} (p : Bytes) (x : ℕ) (l : Bytes) (a b : A) → if_empty (p ++ x ∷ l) a b ≡ b
not-empty [] x l a b = refl
not-empty (y ∷ p) x l a b = refl

pub some_byte : {A : Type 0} (p l : Bytes) (a b : A) → 1 ≤ length p → if_empty (p ++ l) a b ≡ b
some_byte [] l a b h = absurd (omega arith)
some_byte (y ∷ p) l a b h = refl

at_seam : (p : Bytes) (x : ℕ) (l : Bytes) → get_or (p ++ x ∷ l) (length p) 0 ≡ x
at_seam [] x l = refl
at_seam (y ∷ p) x l = at_seam p x l

-- What starts otherwise than a field is not that field.
other : (f p : Bytes) (x : ℕ) (l : Bytes) → length p < length f → (get_or f (length p) 0 ≡ x → ⊥) → same_bytes f (take (length f) (p ++ x ∷ l)) ≡ false
other f p x l h d = go (same_bytes f (take (length f) (p ++ x ∷ l))) refl
  where
    go : (b : Bool) → same_bytes f (take (length f) (p ++ x ∷ l)) ≡ b → b ≡ false
    go true e =
        let q = same-eq f (take (length f) (p ++ x ∷ l)) e in
        absurd (d (ap (λ (s : Bytes). get_or s (length p) 0) q ∙ get_or-take (length f) (p ++ x ∷ l) (length p) 0 h ∙ at_seam p x l))
    go false e = refl

-- A byte of a field is due that was not met whole.
due : (m : ℕ) (f : Bytes) → (0 < m → m < length f) → 1 ≤ length f → m < length f
due zero f h l = l
due (suc m) f h l = h (omega arith)

-- The byte that a slice has at a place.
pub byte_at : (l f : Bytes) (m y : ℕ) → l ≡ f → y ≡ get_or l m y → m < length l → get_or f m 0 ≡ y
byte_at l f m y e h i = rw (sym e) (sym (h ∙ same l m i))
  where
    same : (l : Bytes) (m : ℕ) → m < length l → get_or l m y ≡ get_or l m 0
    same [] m i = absurd (omega arith)
    same (x ∷ l) zero i = refl
    same (x ∷ l) (suc m) i = same l m (omega arith)

no_field : (f : Bytes) (a b : ℕ) → length f ≡ 0 → if_empty f a b ≡ a
no_field [] a b h = refl
no_field (x ∷ f) a b h = absurd (omega (arith, h))

a_field : (f : Bytes) (a b : ℕ) → 1 ≤ length f → if_empty f a b ≡ b
a_field [] a b h = absurd (omega arith)
a_field (x ∷ f) a b h = refl

-- Where no step is due, the plan is at its end.
pub at_end : {image : Bytes} {n m : ℕ} {f : Bytes} → Due image n f m → ((step_behind image n).number ≡ 0 → ⊥) → (step_behind image n).number ≡ 16
at_end {image} {n} {m} {f} d h = go f d.number
  where
    go : (f : Bytes) → (step_behind image n).number ≡ if_empty f 16 0 → (step_behind image n).number ≡ 16
    go [] e = e
    go (x ∷ f) e = absurd (h e)

-- Before a step's first byte: the step is due, or the commit is refused with this number.
module _ (image : Bytes) (n : ℕ) {k : ℕ} (e : k ≡ (step_behind image n).number) where
  pub fresh-along : (f : FixedVec ℕ) → f.items ≡ (step_behind image n).step → ((k ≡ 0 → ⊥) → k ≡ 16) → Fresh image n (Along n f 0)
  fresh-along f s w = record {
    steps = omega arith;
    tracks = λ b h. record {
      stands = record { number = go (next image n); same = s; inside = λ z. absurd (omega arith) };
      line = h;
    };
  }
    where
      go : Next image n (step_behind image n) → (step_behind image n).number ≡ if_empty f.items 16 0
      go (refused j m y q o g) = absurd (q (sym m ∙ sym e ∙ w (λ c. y (sym m ∙ sym e ∙ c))))
      go (ended m y g) = m ∙ sym (no_field f.items 16 0 (ap length s ∙ y))
      go (ahead m y g) = m ∙ sym (a_field f.items 16 0 (omega (arith, y, ap length s)))

  pub fresh-refused : (r : Refusal) → k ≡ number_of r → eqb (number_of r) 16 ≡ false → Fresh image n (Refused r)
  fresh-refused r f p = record {
    steps = omega arith;
    tracks = λ b h. record {
      stands = refused-so image n (sym e ∙ f) (some-number r) (eqb-false (number_of r) 16 p);
      line = λ l. h l ∙ go (next image n) l;
    };
  }
    where
      go : Next image n (step_behind image n) → (l : Bytes) → line_from image n l ≡ answer_line (number_of r)
      go (refused j m y q o g) l = g n l ∙ ap answer_line (sym m ∙ sym e ∙ f)
      go (ended m y g) l = absurd (eqb-false (number_of r) 16 p (sym f ∙ e ∙ m))
      go (ahead m y g) l = absurd (some-number r (sym f ∙ e ∙ m))

-- A byte x comes.
module _ (image : Bytes) (x : ℕ) where
  -- The line of a trace is known so far; what it is then is left to show.
  on : {b : Bytes} {t : Trace} → Tracks image b t → (l : Bytes) → line_from image 0 ((b ++ x ∷ []) ++ l) ≡ told image t (x ∷ l)
  on {b} w l = ap (line_from image 0) (append_assoc b (x ∷ []) l) ∙ w.line (x ∷ l)

  -- Where the line is told already, it stays.
  pub still-refused : (r : Refusal) → Goes image (x ∷ []) (Refused r) (Refused r)
  still-refused r = record { steps = omega arith; tracks = λ b w. record { stands = w.stands; line = on w } }

  pub still-differs : (n : ℕ) (f : FixedVec ℕ) (m : ℕ) → Goes image (x ∷ []) (Differs n f m) (Differs n f m)
  still-differs n f m = record { steps = omega arith; tracks = λ b w. record { stands = w.stands; line = on w } }

  -- Where the plan is followed, m bytes of the field being met.
  module _ (n : ℕ) (f : FixedVec ℕ) (m : ℕ) where
    abbrev s : Bytes
    s = (step_behind image n).step

    -- What was met of the field.
    abbrev p : Bytes
    p = take m f.items

    p_long : m < length f.items → length p ≡ m
    p_long h = length-take-le m f.items (omega arith)

    -- Another byte than the one that is due, or one where none is.
    pub goes-apart : (m < length f.items → get_or f.items m 0 ≡ x → ⊥) → Goes image (x ∷ []) (Along n f m) (Differs n f m)
    goes-apart h = record {
      steps = omega arith;
      tracks = λ b w. record { stands = w.stands; line = λ l. on w l ∙ go w.stands (next image n) l };
    }
      where
        go : Due image n f.items m → Next image n (step_behind image n) → (l : Bytes) → line_from image n (p ++ x ∷ l) ≡ differs_line (suc n)
        go d (refused k y z q o g) l = absurd (q (sym y ∙ at_end d (λ e. z (sym y ∙ e))))
        go d (ended y z g) l = g (p ++ x ∷ l) ∙ not-empty p x l (steps_line n) (differs_line (suc n))
        go d (ahead y z g) l =
            let i = due m f.items d.inside (omega (arith, z, ap length d.same)) in
            let u = p_long i in
            let at : get_or s (length p) 0 ≡ get_or f.items m 0 = rw (u, d.same) refl in
            let o = other s p x l (omega (arith, u, i, ap length d.same)) (λ e. h i (sym at ∙ e)) in
            g (p ++ x ∷ l)
            ∙ not-empty p x l (steps_line n) (if same_bytes s (take (length s) (p ++ x ∷ l)) then line_from image (suc n) (drop (length s) (p ++ x ∷ l)) else differs_line (suc n))
            ∙ rw o

    -- The byte that is due.
    module _ (i : m < length f.items) (e : get_or f.items m 0 ≡ x) where
      longer : (l : Bytes) → p ++ x ∷ l ≡ take (m + 1) f.items ++ l
      longer l =
          let k : m + 1 ≡ suc m = omega arith in
          let q : take (suc m) f.items ≡ p ++ x ∷ [] = take-suc f.items m 0 i ∙ ap (λ (y : ℕ). p ++ y ∷ []) e in
          sym (rw k (ap (λ (b : Bytes). b ++ l) q ∙ append_assoc p (x ∷ []) l))

      pub goes-inside : m + 1 < length f.items → Goes image (x ∷ []) (Along n f m) (Along n f (m + 1))
      goes-inside h = record {
        steps = omega arith;
        tracks = λ b w. record {
          stands = record { number = w.stands.number; same = w.stands.same; inside = λ z. h };
          line = λ l. on w l ∙ ap (line_from image n) (longer l);
        };
      }

      -- The last byte of the field: the next step is due.
      pub goes-behind : length f.items ≤ m + 1 → {r : Trace} → Fresh image (n + 1) r → Goes image (x ∷ []) (Along n f m) r
      goes-behind h {r} v = record {
        steps = omega (arith, v.steps);
        tracks = λ b w. v.tracks (b ++ x ∷ []) (λ l. on w l ∙ ap (line_from image n) (longer l ∙ whole w.stands l) ∙ go w.stands (next image n) l);
      }
        where
          whole : Due image n f.items m → (l : Bytes) → take (m + 1) f.items ++ l ≡ s ++ l
          whole d l = ap (λ (b : Bytes). b ++ l) (take_all (m + 1) f.items h ∙ d.same)

          go : Due image n f.items m → Next image n (step_behind image n) → (l : Bytes) → line_from image n (s ++ l) ≡ line_from image (n + 1) l
          go d (refused k y z q o g) l = absurd (q (sym y ∙ at_end d (λ c. z (sym y ∙ c))))
          go d (ended y z g) l = absurd (omega (arith, i, z, ap length d.same))
          go d (ahead y z g) l =
              let u : suc n ≡ n + 1 = omega arith in
              g (s ++ l)
              ∙ some_byte s l (steps_line n) (if same_bytes s (take (length s) (s ++ l)) then line_from image (suc n) (drop (length s) (s ++ l)) else differs_line (suc n)) z
              ∙ (rw (take-append_seam s l, same_refl s, drop-append_seam s l, u))
