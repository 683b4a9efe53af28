-- A rotation, by what its calls handed back.
use mathlib.Core.Path.{◌≡◌, refl, sym, ap, subst, ◌∙◌}
use mathlib.Core.Bool.{Bool, true, false}
use mathlib.Core.List.{◌++◌}
use mathlib.Core.Option.{some}
use Prim.Native.Nat.{ℕ, ◌≤◌, ◌<◌}
use native.Mathlib.Omega.{arith}
use lib.ListN.{length, take, drop, length-append}
use lib.Seq.{take-append_seam}
use lib.Dec.{leb}
use borrow.Author.Tests.{le-leb, lt-leb}
use Rattle.basics.specs.Limits.{image_room}
use Rattle.basics.specs.Order.{Name}
use Rattle.basics.specs.Base.{Bytes, if_empty}
use Rattle.model.specs.Store.{Store, files}
use Rattle.model.specs.Image.{decode}
use Rattle.model.specs.Record.{has_dir}
use Rattle.answers.specs.Answers.{Answer, begin, copy_collection, delete_collection, commit}
use Rattle.basic_laws.specs.Tests.{and_both}
use Rattle.handover.specs.Contract.{Gives}
use Rattle.handover.proofs.Outputs.{left_alone}
use Rattle.rotation.specs.Asking.{has_file}
use Rattle.answers.specs.Rotate.{current, next, backup, holds_file, rotate}
use Rattle.rotation.specs.Recorded.{missing-refused, first-copied, second-copied, deleted}
use Rattle.rotation.specs.Refusals.{read, turned_1, turned_2, turned-begun, turned_19, turned_20, carried_out, begun-alone, holds_same}

-- A call that answered 0: its counter is within the output, and what stands before it is the answer's image.
module _ {A : Answer} {r : ℕ} {o o' : Bytes} {w w' : ℕ} (g : Gives A r o o' w w') (z : r ≡ 0) where
  zero : A.number ≡ 0
  zero = sym g.number ∙ z

  counted : w' ≡ length A.image
  counted = g.count ∙ rw zero

  pub within : w' ≤ length o'
  within =
      let p = ap length g.image ∙ length-append A.image (drop (length A.image) o) in
      omega (arith, p, counted)

  pub front : take w' o' ≡ A.image
  front =
      ap (take w') g.image ∙ ap (λ (j : ℕ). take j (A.image ++ drop (length A.image) o)) counted
      ∙ take-append_seam A.image (drop (length A.image) o)

  pub sized : w' ≡ length (take w' o')
  sized = counted ∙ sym (ap length front)

-- Begin.
module _ (b : Bytes) (out : ℕ) {r₁ n w₁ : ℕ} {o₁ a : Bytes} (g₁ : Gives (begin b (length o₁)) r₁ o₁ a w₁ n) (e₁ : image_room ≡ length o₁) where
  began : (begin b image_room).number ≡ r₁
  began = ap (λ (k : ℕ). (begin b k).number) e₁ ∙ sym g₁.number

  pub answers_1 : r₁ ≡ 1 → {o : Bytes} {w : ℕ} → Gives (rotate b out) 1 o o w w
  answers_1 z = left_alone refl (turned_1 b out (began ∙ z))

  module _ (h₁ : r₁ ≡ 1 → ⊥) where
    s : Store
    s = (read b (λ z. h₁ (sym began ∙ z))).0

    d : decode b ≡ some s
    unfolding s
    d = (read b (λ z. h₁ (sym began ∙ z))).1

    pub answers_2 : out < image_room → {o : Bytes} {w : ℕ} → Gives (rotate b out) 2 o o w w
    answers_2 l = left_alone refl (turned_2 b out s d (lt-leb image_room out l))

    module _ (l : image_room ≤ out) where
      roomy : leb image_room out ≡ true
      roomy = le-leb image_room out l

      pub answers-begun : (r₁ ≡ 0 → ⊥) → {o : Bytes} {w : ℕ} → Gives (rotate b out) r₁ o o w w
      answers-begun h {o} {w} =
          let k = begun-alone b (λ z. h (sym began ∙ z)) in
          subst (λ (x : ℕ). Gives (rotate b out) x o o w w) began
          (left_alone k.0 (turned-begun b out s d roomy (λ z. h (sym began ∙ z)) ∙ k.1))

      -- It answered 0; the first copy.
      module _ (z₁ : r₁ ≡ 0) {c₁ c₂ : Name} {r₂ m w₂ : ℕ} {o₂ b₂ : Bytes} (g₂ : Gives (copy_collection c₁ c₂ (take n a) (length o₂)) r₂ o₂ b₂ w₂ m)
          (e₂ : image_room ≡ length o₂) (p₁ : c₁ ≡ current) (p₂ : c₂ ≡ backup) where
        e : (begin b image_room).number ≡ 0
        e = began ∙ z₁

        image₀ : take n a ≡ (begin b image_room).image
        image₀ = front g₁ z₁ ∙ ap (λ (k : ℕ). (begin b k).image) (sym e₁)

        is₂ : copy_collection c₁ c₂ (take n a) (length o₂) ≡ copy_collection current backup (begin b image_room).image image_room
        is₂ = λ i. copy_collection (p₁ i) (p₂ i) (image₀ i) (sym e₂ i)

        copied : (copy_collection current backup (begin b image_room).image image_room).number ≡ r₂
        copied = sym (ap (λ (x : Answer). x.number) is₂) ∙ sym g₂.number

        pub answers_19 : (r₂ ≡ 0 → ⊥) → {o : Bytes} {w : ℕ} → Gives (rotate b out) 19 o o w w
        answers_19 h = go (has_dir current s) refl
          where
            go : (t : Bool) → has_dir current s ≡ t → {o : Bytes} {w : ℕ} → Gives (rotate b out) 19 o o w w
            go true p = absurd (h (sym copied ∙ first-copied b s d e p))
            go false p = left_alone refl (turned_19 b out s d roomy e p)

        module _ (z₂ : r₂ ≡ 0) {c₃ : Name} {x : Bool} (f : x ≡ has_file c₃ b) (p₃ : c₃ ≡ next) where
          stands : has_dir current s ≡ true
          stands = go (has_dir current s) refl
            where
              go : (t : Bool) → has_dir current s ≡ t → has_dir current s ≡ true
              go true p = p
              go false p = let y : ◌≡◌ {A = ℕ} 7 0 = sym (missing-refused b s d e p) ∙ copied ∙ z₂ in absurd (omega (arith, y))

          holds : holds_file next s ≡ x
          holds = sym (holds_same b s d) ∙ ap (λ (k : Name). has_file k b) (sym p₃) ∙ sym f

          pub answers_20 : x ≡ false → {o : Bytes} {w : ℕ} → Gives (rotate b out) 20 o o w w
          answers_20 t = left_alone refl (turned_20 b out s d roomy e stands (holds ∙ t))

          -- Next holds a file; the second copy, and the deletion.
          module _ (t : x ≡ true) {c₄ c₅ : Name} {r₃ n' w₃ : ℕ} {o₃ a' : Bytes} (g₃ : Gives (copy_collection c₄ c₅ (take m b₂) (length o₃)) r₃ o₃ a' w₃ n')
              (e₃ : image_room ≡ length o₃) (p₄ : c₄ ≡ next) (p₅ : c₅ ≡ current) where
            next-there : has_dir next s ≡ true
            next-there = (and_both (has_dir next s) (if_empty (files next s.tree) false true) (holds ∙ t)).0

            image₁ : take m b₂ ≡ (copy_collection current backup (begin b image_room).image image_room).image
            image₁ = front g₂ z₂ ∙ ap (λ (y : Answer). y.image) is₂

            is₃ : copy_collection c₄ c₅ (take m b₂) (length o₃)
                ≡ copy_collection next current (copy_collection current backup (begin b image_room).image image_room).image image_room
            is₃ = λ i. copy_collection (p₄ i) (p₅ i) (image₁ i) (sym e₃ i)

            pub zero₃ : r₃ ≡ 0
            zero₃ = g₃.number ∙ ap (λ (y : Answer). y.number) is₃ ∙ second-copied b s d e stands next-there

            module _ {c₆ : Name} {r₄ m' w₄ : ℕ} {o₄ b₄ : Bytes} (g₄ : Gives (delete_collection c₆ (take n' a') (length o₄)) r₄ o₄ b₄ w₄ m')
                (e₄ : image_room ≡ length o₄) (p₆ : c₆ ≡ next) where
              is₄ : delete_collection c₆ (take n' a') (length o₄)
                  ≡ delete_collection next (copy_collection next current (copy_collection current backup (begin b image_room).image image_room).image image_room).image image_room
              is₄ = λ i. delete_collection (p₆ i) ((front g₃ zero₃ ∙ ap (λ (y : Answer). y.image) is₃) i) (sym e₄ i)

              pub zero₄ : r₄ ≡ 0
              zero₄ = g₄.number ∙ ap (λ (y : Answer). y.number) is₄ ∙ deleted b s d e stands next-there

              -- What the commit hands back is the rotation's.
              pub answers-commit : {r : ℕ} {o o' : Bytes} {w w' : ℕ} → Gives (commit (take m' b₄) out) r o o' w w' → Gives (rotate b out) r o o' w w'
              answers-commit {r} {o} {o'} {w} {w'} g =
                  subst (λ (y : Answer). Gives y r o o' w w')
                  (ap (λ (i : Bytes). commit i out) (front g₄ zero₄ ∙ ap (λ (y : Answer). y.image) is₄) ∙ sym (carried_out b out s d roomy e stands (holds ∙ t))) g
