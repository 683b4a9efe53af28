-- The careful machine does what the plain one does with the steps before the first that fails.
use Rattle.std.specs.Prelude.{◌≡◌, refl, List, [], ◌∷◌, Bool, true, false, ℕ, eqb}
use Rattle.std.proofs.Common.{sym, ap, subst, ◌∙◌, eqb-true}
use Rattle.std.proofs.lemmas.Bool.{eqb-false}
use Rattle.plans.specs.Machine.{exec}
use Rattle.plans.specs.Runs.{Run, with_refusal, advance, plain, careful, fault_in, up_to}
use Rattle.plans.proofs.MachineLaws.{clash, exec-over}
use Rattle.plans.proofs.RunLaws.{over-stopped, over-refused, not-over, plain-lawful, careful-lawful, refusal-kept, refuses, passes}

module _ {S X : Type 0} (apply : X → S → S) (fault : X → S → ℕ) where
  -- What a careful run comes to: the steps before the first that fails, and its number unless the run was stopped before.
  pub record Tried (xs : List X) (a b : Run S X) : Type 0 where
    pub ran : b ≡ with_refusal b.refusal (exec (plain apply) (up_to apply fault xs a.store) a)
    pub told : b.stopped ≡ false → b.refusal ≡ fault_in apply fault xs a.store

  -- A run that is stopped, and one whose next step fails, stay as they are.
  tried-stopped : (xs : List X) (r : Run S X) → r.stopped ≡ true → Tried xs r (exec (careful apply fault) xs r)
  tried-stopped xs r h =
      subst (Tried xs r) (sym (exec-over (careful-lawful apply fault) xs r (over-stopped r h)))
      record { ran = ap (with_refusal r.refusal) (sym (exec-over (plain-lawful apply) (up_to apply fault xs r.store) r h)); told = λ q. clash h q }

  module _ (x : X) (xs : List X) (r : Run S X) where
    tried-fails : eqb (fault x r.store) 0 ≡ false → Tried (x ∷ xs) r (exec (careful apply fault) xs (with_refusal (fault x r.store) r))
    tried-fails e =
        let q : Run S X = with_refusal (fault x r.store) r in
        subst (Tried (x ∷ xs) r) (sym (exec-over (careful-lawful apply fault) xs q (over-refused q (eqb-false (fault x r.store) 0 e))))
        record { ran = rw e; told = λ s. rw e }

    -- The next step is done, or stops the run.
    tried-passes : eqb (fault x r.store) 0 ≡ true → Tried xs (advance apply x r) (exec (careful apply fault) xs (advance apply x r)) → Tried (x ∷ xs) r (exec (careful apply fault) xs (advance apply x r))
    tried-passes e t = go (advance apply x r).stopped refl
      where
        q : Run S X
        q = advance apply x r

        go : (b : Bool) → q.stopped ≡ b → Tried (x ∷ xs) r (exec (careful apply fault) xs q)
        go true s =
            subst (Tried (x ∷ xs) r) (sym (exec-over (careful-lawful apply fault) xs q (over-stopped q s)))
            record { ran = rw e (ap (with_refusal q.refusal) (sym (exec-over (plain-lawful apply) (up_to apply fault xs (apply x r.store)) q s))); told = λ h. clash s h }
        go false s =
            let k : q.store ≡ apply x r.store = (plain-lawful apply).moves x r s in
            record {
              ran = rw e (t.ran ∙ ap (λ (u : S). with_refusal (exec (careful apply fault) xs q).refusal (exec (plain apply) (up_to apply fault xs u) q)) k);
              told = λ h. rw e (t.told h ∙ ap (fault_in apply fault xs) k);
            }

  pub tried : (xs : List X) (r : Run S X) → r.refusal ≡ 0 → Tried xs r (exec (careful apply fault) xs r)
  tried [] r z = record { ran = refl; told = λ h. z }
  tried (x ∷ xs) r z = go r.stopped (eqb (fault x r.store) 0) refl refl (tried xs (advance apply x r) (refusal-kept apply (x ∷ []) r ∙ z))
    where
      go : (s q : Bool) → r.stopped ≡ s → eqb (fault x r.store) 0 ≡ q → Tried xs (advance apply x r) (exec (careful apply fault) xs (advance apply x r)) → Tried (x ∷ xs) r (exec (careful apply fault) (x ∷ xs) r)
      go true q h e t = tried-stopped (x ∷ xs) r h
      go false true h e t =
          subst (λ (n : Run S X). Tried (x ∷ xs) r (exec (careful apply fault) xs n)) (passes apply fault x r (not-over r h z) (eqb-true (fault x r.store) 0 e))
          (tried-passes x xs r e t)
      go false false h e t =
          subst (λ (n : Run S X). Tried (x ∷ xs) r (exec (careful apply fault) xs n)) (refuses apply fault x r (not-over r h z) (eqb-false (fault x r.store) 0 e))
          (tried-fails x xs r e)
