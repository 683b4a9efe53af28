-- What the step behind n says of the line, by what the commit's step entry answers of it.
use Rattle.std.specs.Prelude.{if◌then◌else◌}
use mathlib.Core.Path.{◌≡◌, refl, sym, ap, subst, ◌∙◌}
use mathlib.Core.Bool.{Bool, true, false}
use mathlib.Core.List.{List, [], ◌∷◌}
use mathlib.Core.Option.{Option, none, some}
use Prim.Native.Nat.{ℕ, zero, suc, ◌≤◌, ◌<◌}
use native.Mathlib.Omega.{arith}
use lib.ListN.{length, take, drop, get_elem?}
use lib.Dec.{leb}
use borrow.Author.Tests.{leb-true, leb-false}
use Rattle.basics.specs.Base.{Bytes, case_option, if_empty, same_bytes}
use Rattle.basics.specs.Field.{encode_field}
use Rattle.model.specs.Operation.{Op}
use Rattle.model.specs.Store as model
use Rattle.model.specs.Image.{encode, decode}
use Rattle.model.specs.Step.{Step, step_field, field_at}
use Rattle.model.specs.Plan.{commit_end, commit_plan, ending_at}
use Rattle.model.specs.Record.{transaction}
use Rattle.answers.specs.Answers.{Answer, refusal, step_answer, ending_step, commit_step}
use Rattle.trace.specs.Line.{steps_line, differs_line, answer_line, compared, line_from}
use Rattle.trace.specs.Tracking.{step_behind}

-- Refused; past the plan's end; or a step with its field.
pub data Next (image : Bytes) (n : ℕ) (a : Answer) : Type 0 where
  refused : (k : ℕ) → a.number ≡ k → (k ≡ 0 → ⊥) → (k ≡ 16 → ⊥) → ((k ≡ 1 → ⊥) → k ≡ 4) → ((m : ℕ) (l : Bytes) → line_from image m l ≡ answer_line k) → Next image n a
  ended : a.number ≡ 16 → length a.step ≡ 0 → ((l : Bytes) → line_from image n l ≡ if_empty l (steps_line n) (differs_line (suc n))) → Next image n a
  ahead : a.number ≡ 0 → 1 ≤ length a.step → ((l : Bytes) → line_from image n l ≡ if_empty l (steps_line n)
      (if same_bytes a.step (take (length a.step) l) then line_from image (suc n) (drop (length a.step) l) else differs_line (suc n))) → Next image n a

field-some : (x : Step) → 1 ≤ length (step_field x)
unfolding step_field encode_field
field-some x = omega arith

-- The plan from n on, by whether it has a step there.
past_all : (n : ℕ) (plan : List Step) → length plan ≤ n → drop n plan ≡ []
past_all zero [] h = refl
past_all zero (x ∷ plan) h = absurd (omega arith)
past_all (suc n) [] h = refl
past_all (suc n) (x ∷ plan) h = past_all n plan (omega arith)

pub data At (n : ℕ) (plan : List Step) : Type 0 where
  there : (x : Step) → get_elem? plan n ≡ some x → drop n plan ≡ x ∷ drop (suc n) plan → At n plan

at : (n : ℕ) (plan : List Step) → n < length plan → At n plan
at n [] h = absurd (omega arith)
at zero (x ∷ plan) h = there x refl refl
at (suc n) (x ∷ plan) h = go (at n plan (omega arith))
  where
    go : At n plan → At (suc n) (x ∷ plan)
    go (there y p q) = there y p q

-- An image whose line is that of a plan.
module _ (image : Bytes) (n : ℕ) (plan : List Step) (is : (m : ℕ) (l : Bytes) → line_from image m l ≡ compared m (drop m plan) l) where
  found : (m : model.Store) → At n plan → Next image n (record { number = 0; image = encode m; step = field_at (suc n) plan })
  found m (there x p q) =
      let e : case_option (get_elem? plan n) [] step_field ≡ step_field x = ap (λ (o : Option Step). case_option o [] step_field) p in
      subst (λ (f : Bytes). Next image n (record { number = 0; image = encode m; step = f })) (sym e)
      (ahead refl (field-some x) (λ l.
      is n l ∙ ap (λ (r : List Step). compared n r l) q
      ∙ ap (λ (r : Bytes). if_empty l (steps_line n) (if same_bytes (step_field x) (take (length (step_field x)) l) then r else differs_line (suc n)))
      (sym (is (suc n) (drop (length (step_field x)) l)))))

  stepped : (m : model.Store) → Next image n (step_answer (suc n) plan m)
  stepped m = go (leb (suc n) (length plan)) refl
    where
      go : (b : Bool) → leb (suc n) (length plan) ≡ b → Next image n (if b then record { number = 0; image = encode m; step = field_at (suc n) plan } else refusal 16)
      go true e = found m (at n plan (omega (arith, leb-true (suc n) (length plan) e)))
      go false e = ended refl refl (λ l. is n l ∙ ap (λ (r : List Step). compared n r l) (past_all n plan (omega (arith, leb-false (suc n) (length plan) e))))

no-image : (image : Bytes) (n : ℕ) → decode image ≡ none → Next image n (refusal 1)
unfolding line_from
no-image image n d = refused 1 refl (λ z. omega (arith, z)) (λ z. omega (arith, z)) (λ h. absurd (h refl)) (λ m l. rw d)

by-transaction : (image : Bytes) (n : ℕ) (s : model.Store) → decode image ≡ some s → (t : Option (List Op)) → transaction s ≡ t
    → Next image n (case_option t (refusal 4) (λ ops. step_answer (suc n) (commit_plan s) (ending_at commit_end (suc n) s)))
unfolding line_from
by-transaction image n s d none t = refused 4 refl (λ z. omega (arith, z)) (λ z. omega (arith, z)) (λ h. refl) (λ m l. rw (d, t))
by-transaction image n s d (some ops) t = stepped image n (commit_plan s) (λ m l. rw (d, t)) (ending_at commit_end (suc n) s)

-- A commit that is refused is refused so whatever step is asked for.
pub refused-so : (image : Bytes) (n : ℕ) {k : ℕ} → (step_behind image n).number ≡ k → (k ≡ 0 → ⊥) → (k ≡ 16 → ⊥) → (m : ℕ) → step_behind image m ≡ refusal k
unfolding commit_step
refused-so image n {k} e z p m = go (decode image) e
  where
    by_length : (b c : Bool) (f g : Bytes) (i j : Bytes)
        → (if b then record { number = 0; image = i; step = f } else refusal 16).number ≡ k → (if c then record { number = 0; image = j; step = g } else refusal 16) ≡ refusal k
    by_length true c f g i j e = absurd (z (sym e))
    by_length false c f g i j e = absurd (p (sym e))

    with_ops : (s : model.Store) (t : Option (List Op))
        → (case_option t (refusal 4) (λ ops. step_answer (suc n) (commit_plan s) (ending_at commit_end (suc n) s))).number ≡ k
        → case_option t (refusal 4) (λ ops. step_answer (suc m) (commit_plan s) (ending_at commit_end (suc m) s)) ≡ refusal k
    with_ops s none e = ap refusal e
    with_ops s (some ops) e = by_length (leb (suc n) (length (commit_plan s))) (leb (suc m) (length (commit_plan s))) _ _ _ _ e

    go : (o : Option model.Store) → (case_option o (refusal 1) (λ s. ending_step commit_end (suc n) s)).number ≡ k
        → case_option o (refusal 1) (λ s. ending_step commit_end (suc m) s) ≡ refusal k
    go none e = ap refusal e
    go (some s) e = with_ops s (transaction s) e

pub next : (image : Bytes) (n : ℕ) → Next image n (step_behind image n)
unfolding commit_step
next image n = go (decode image) refl
  where
    go : (o : Option model.Store) → decode image ≡ o → Next image n (case_option o (refusal 1) (λ s. ending_step commit_end (suc n) s))
    go none d = no-image image n d
    go (some s) d = by-transaction image n s d (transaction s) refl
