-- The lines of the text: what they are made of, how long they are, and written part by part.
use mathlib.Core.Path.{◌≡◌, refl, sym, ap, ◌∙◌}
use mathlib.Core.List.{[], ◌∷◌, ◌++◌, append_assoc}
use Prim.Native.Nat.{ℕ, ◌+◌, ◌≤◌, ◌<◌}
use native.Mathlib.Omega.{arith}
use lib.ListN.{length, length-append}
use lib.Seq.{append_snoc}
use Rattle.basics.specs.Order.{Name}
use Rattle.basics.specs.Map as model
use Rattle.basics.specs.Base.{Bytes, if_empty}
use Rattle.answers.specs.Answers.{decimal, listing_line}
use Rattle.field.specs.Writing.{written}
use Rattle.field.proofs.Written.{length-written, written_then}
use Rattle.spans.specs.Spans.{name_of, length_of}
use Rattle.spans.proofs.Parts.{length-name}
use Rattle.store.specs.declared.Node.{Node}
use Rattle.store.specs.Tables.{node_of, SoundNode}
use Rattle.text.specs.Digits.{Digits}
use Rattle.listing.specs.Lines.{number_end, answer_line, LineSize}

-- A space, a number and a line feed.
module _ {n k : ℕ} (d : Digits n k) where
  digits_length : length (decimal 10 n) ≡ k
  digits_length = sym (ap length d.same) ∙ d.size

  pub end-length : 2 + k ≡ length (number_end n)
  unfolding number_end
  end-length = omega (arith, digits_length, length-append (decimal 10 n) (0x0A ∷ []))

  module _ (at : ℕ) (out : Bytes) (h : at + length (number_end n) ≤ length out) {first : Bytes} (p : first ≡ written at (0x20 ∷ []) out) where
    pub digits_room : at + 1 + length (decimal 10 n) ≤ length first
    digits_room = omega (arith, digits_length, end-length, ap length p ∙ length-written at (0x20 ∷ []) out)

    pub end-written : {mid end : Bytes} → mid ≡ written (at + 1) (decimal 10 n) first → end ≡ written (at + 1 + k) (0x0A ∷ []) mid → end ≡ written at (number_end n) out
    unfolding number_end
    end-written q u =
        let l = digits_length in
        let m = end-length in
        let e = ap length p ∙ length-written at (0x20 ∷ []) out in
        written_then at (at + 1) (0x20 ∷ []) (decimal 10 n ++ 0x0A ∷ []) out p (written_then (at + 1) (at + 1 + k) (decimal 10 n) (0x0A ∷ []) first q u (omega arith) (omega arith)) refl (omega arith)

-- "answer " and the number.
abbrev word : Bytes
word = 0x61 ∷ 0x6E ∷ 0x73 ∷ 0x77 ∷ 0x65 ∷ 0x72 ∷ []

pub answer-length : (n : ℕ) → length (answer_line n) ≡ 6 + length (number_end n)
unfolding answer_line
answer-length n = omega arith

module _ (n : ℕ) (out : Bytes) (h : length (answer_line n) ≤ length out) {first : Bytes} (p : first ≡ written 0 word out) where
  pub number-room : 6 + length (number_end n) ≤ length first
  number-room = omega (arith, answer-length n, ap length p ∙ length-written 0 word out)

  pub answer-written : {end : Bytes} → end ≡ written 6 (number_end n) first → end ≡ written 0 (answer_line n) out
  unfolding answer_line
  answer-written q = written_then 0 6 word (number_end n) out p q refl (omega (arith, answer-length n))

-- The line of a directory, and that of a file.
dir-line : (n : model.Node) → length n.0.1 ≡ 0 → listing_line n ≡ n.0.0 ++ 0x2F ∷ 0x0A ∷ []
unfolding listing_line
dir-line n e = go n.0.1 e
  where
    go : (f : Name) → length f ≡ 0 → n.0.0 ++ 0x2F ∷ if_empty f [] (f ++ 0x20 ∷ decimal 10 n.1) ++ 0x0A ∷ [] ≡ n.0.0 ++ 0x2F ∷ 0x0A ∷ []
    go [] e = append_snoc n.0.0 0x2F (0x0A ∷ [])
    go (y ∷ ys) e = absurd (omega arith)

file-line : (n : model.Node) → (length n.0.1 ≡ 0 → ⊥) → listing_line n ≡ n.0.0 ++ 0x2F ∷ (n.0.1 ++ number_end n.1)
unfolding listing_line number_end
file-line n h = go n.0.1 h
  where
    go : (f : Name) → (length f ≡ 0 → ⊥) → n.0.0 ++ 0x2F ∷ if_empty f [] (f ++ 0x20 ∷ decimal 10 n.1) ++ 0x0A ∷ [] ≡ n.0.0 ++ 0x2F ∷ (f ++ (0x20 ∷ decimal 10 n.1 ++ 0x0A ∷ []))
    go [] h = absurd (h refl)
    go (y ∷ ys) h =
        append_assoc n.0.0 (0x2F ∷ (y ∷ ys ++ 0x20 ∷ decimal 10 n.1)) (0x0A ∷ [])
        ∙ ap (λ (b : Bytes). n.0.0 ++ 0x2F ∷ y ∷ b) (append_assoc ys (0x20 ∷ decimal 10 n.1) (0x0A ∷ []))

-- The line of a node that the code holds.
module _ {x : Node} {d f : ℕ} (e : d ≡ length_of x.dir) (g : f ≡ length_of x.file) where
  dir-length : {src : Bytes} → SoundNode src x → length (name_of src x.dir) ≡ d
  dir-length s = length-name s.dir ∙ sym e

  file-length : {src : Bytes} → SoundNode src x → length (name_of src x.file) ≡ f
  file-length s = length-name s.file ∙ sym g

  -- Its length.
  module _ (b : d < 2_048) (c : f < 2_048) where
    pub dir-size : f ≡ 0 → LineSize x (d + 2)
    dir-size z = record {
      bound = omega arith;
      same = λ src s. rw (dir-line (node_of src x) (file-length s ∙ z)) (omega (arith, length-append (name_of src x.dir) (0x2F ∷ 0x0A ∷ []), dir-length s));
    }

    pub file-size : {k : ℕ} → (f ≡ 0 → ⊥) → k ≤ 12 → k ≡ length (number_end x.number) → LineSize x (d + 1 + f + k)
    file-size h l z = record {
      bound = omega arith;
      same = λ src s.
          rw (file-line (node_of src x) (λ q. h (sym (file-length s) ∙ q)))
          (omega (arith, length-append (name_of src x.dir) (0x2F ∷ (name_of src x.file ++ number_end x.number)), length-append (name_of src x.file) (number_end x.number), dir-length s, file-length s));
    }

  -- Its bytes, written.
  module _ {src : Bytes} (s : SoundNode src x) (at : ℕ) (out : Bytes) (h : at + length (listing_line (node_of src x)) ≤ length out) {first : Bytes} (p : first ≡ written at (name_of src x.dir) out) where
    first-length : length first ≡ length out
    first-length = ap length p ∙ length-written at (name_of src x.dir) out

    pub dir-written : {end : Bytes} → f ≡ 0 → end ≡ written (at + d) (0x2F ∷ 0x0A ∷ []) first → end ≡ written at (listing_line (node_of src x)) out
    dir-written z q =
        let l = dir-line (node_of src x) (file-length s ∙ z) in
        let m = length-append (name_of src x.dir) (0x2F ∷ 0x0A ∷ []) in
        written_then at (at + d) (name_of src x.dir) (0x2F ∷ 0x0A ∷ []) out p q (ap (at +◌) (sym (dir-length s))) (omega (arith, dir-length s, ap length l))
        ∙ ap (λ (b : Bytes). written at b out) (sym l)

    module _ (z : f ≡ 0 → ⊥) where
      whole : listing_line (node_of src x) ≡ name_of src x.dir ++ 0x2F ∷ (name_of src x.file ++ number_end x.number)
      whole = file-line (node_of src x) (λ q. z (sym (file-length s) ∙ q))

      line-room : at + d + 1 + f + length (number_end x.number) ≤ length out
      line-room = omega (arith, ap length whole, length-append (name_of src x.dir) (0x2F ∷ (name_of src x.file ++ number_end x.number)), length-append (name_of src x.file) (number_end x.number), dir-length s, file-length s)

      module _ {second third : Bytes} (q : second ≡ written (at + d) (0x2F ∷ []) first) (u : third ≡ written (at + d + 1) (name_of src x.file) second) where
        second-length : length second ≡ length out
        second-length = ap length q ∙ length-written (at + d) (0x2F ∷ []) first ∙ first-length

        pub file-room : at + d + 1 + f + length (number_end x.number) ≤ length third
        file-room = omega (arith, line-room, ap length u ∙ length-written (at + d + 1) (name_of src x.file) second, second-length)

        pub file-written : {end : Bytes} → end ≡ written (at + d + 1 + f) (number_end x.number) third → end ≡ written at (listing_line (node_of src x)) out
        file-written v =
            let r = line-room in
            let m = length-append (name_of src x.file) (number_end x.number) in
            let j = dir-length s in
            let i = file-length s in
            let fl = first-length in
            let sl = second-length in
            written_then at (at + d) (name_of src x.dir) (0x2F ∷ (name_of src x.file ++ number_end x.number)) out p
            (written_then (at + d) (at + d + 1) (0x2F ∷ []) (name_of src x.file ++ number_end x.number) first q
            (written_then (at + d + 1) (at + d + 1 + f) (name_of src x.file) (number_end x.number) second u v (omega arith) (omega arith)) refl (omega arith))
            (omega arith) (omega arith)
            ∙ ap (λ (b : Bytes). written at b out) (sym whole)
