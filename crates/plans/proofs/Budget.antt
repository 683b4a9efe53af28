-- What a run with so many steps left comes to: the first of them. 01, Listings and file steps: "Given a number n, the step entries […] hand
-- back the image after n steps and field n".
use Rattle.std.specs.Prelude.{◌≡◌, refl, List, [], ◌∷◌, Bool, true, false, ℕ, zero, suc, ◌-◌, ◌<◌, length, take, ltb, leb}
use Rattle.std.proofs.Common.{sym, ap, ◌∙◌, arith, lt-ltb, le-ltb, leb-true, le-leb, ne_eqb}
use Rattle.std.proofs.Math.Option.{some}
use Rattle.std.proofs.Math.ListN.{get_elem?}
use Rattle.std.proofs.Math.Seq.{take-nil}
use Rattle.std.proofs.Math.Dec.{leb-suc-suc}
use Rattle.plans.specs.Machine.{apply_all, exec, Does}
use Rattle.plans.specs.Runs.{Run, Cut, Whole, with_refusal, halt, plain}
use Rattle.plans.proofs.MachineLaws.{exec-over}
use Rattle.plans.proofs.RunLaws.{plain-lawful, refusal-kept}
use Rattle.plans.proofs.Endings.{Ends}

-- The last step of some, after the step x.
abbrev last_of : {X : Type 0} → X → List X → X
last_of x [] = x
last_of x (y ∷ ys) = last_of y ys

last-at : {X : Type 0} (x : X) (xs : List X) (k : ℕ) → k < length xs → get_elem? xs k ≡ some (last_of x (take (suc k) xs))
last-at x [] k h = absurd (omega arith)
last-at x (y ∷ ys) zero h = refl
last-at x (y ∷ ys) (suc k) h = last-at y ys k (omega arith)

module _ {S X : Type 0} (apply : X → S → S) where
  abbrev ready : Bool → S → ℕ → X → ℕ → Run S X
  ready limited s n x k = record { store = s; limited = limited; left = n; stopped = false; last = x; refusal = k }

  abbrev reached : List X → S → ℕ → X → ℕ → Run S X
  reached xs s n x k = record { store = apply_all apply (take n xs) s; limited = true; left = n - length xs; stopped = ltb n (length xs); last = last_of x (take n xs); refusal = k }

  limited-run : (xs : List X) (s : S) (n : ℕ) (x : X) (k : ℕ) → exec (plain apply) xs (ready true s n x k) ≡ reached xs s n x k
  limited-run [] s n x k =
      let p : ◌≡◌ {A = List X} [] (take n []) = sym (take-nil n) in
      let l : n ≡ n - 0 = omega arith in
      let h : false ≡ ltb n 0 = sym (le-ltb n 0 (omega arith)) in
      λ i. record { store = apply_all apply (p i) s; limited = true; left = l i; stopped = h i; last = last_of x (p i); refusal = k }
  limited-run (y ∷ ys) s zero x k =
      let l : 0 ≡ 0 - length (y ∷ ys) = omega arith in
      let h : true ≡ ltb 0 (length (y ∷ ys)) = sym (lt-ltb 0 (length (y ∷ ys)) (omega arith)) in
      exec-over (plain-lawful apply) ys (halt (ready true s 0 x k)) refl ∙ (λ i. record { store = s; limited = true; left = l i; stopped = h i; last = x; refusal = k })
  limited-run (y ∷ ys) s (suc n) x k =
      let c : suc n - 1 ≡ n = omega arith in
      let l : n - length ys ≡ suc n - length (y ∷ ys) = omega arith in
      let h : ltb n (length ys) ≡ ltb (suc n) (length (y ∷ ys)) = sym (leb-suc-suc (suc n) (length ys)) in
      rw (ne_eqb (suc n) 0 (λ e. omega arith))
      (ap (λ (m : ℕ). exec (plain apply) ys (ready true (apply y s) m y k)) c
      ∙ limited-run ys (apply y s) n y k
      ∙ (λ i. record { store = apply_all apply (take n ys) (apply y s); limited = true; left = l i; stopped = h i; last = last_of y (take n ys); refusal = k }))

  unlimited_run : (xs : List X) (s : S) (n : ℕ) (x : X) (k : ℕ) → Whole apply xs s (exec (plain apply) xs (ready false s n x k))
  unlimited_run [] s n x k = record { store = refl; stopped = refl }
  unlimited_run (y ∷ ys) s n x k = let t = unlimited_run ys (apply y s) (n - 1) y k in record { store = t.store; stopped = t.stopped }

  -- A run that may take n steps of a plan, whether or not one fails; `plainly` for a plan that cannot fail.
  pub plainly : {f : S → List X} {a b : Run S X} → Does (plain apply) f a b → Ends apply f (λ s. a.refusal) a b
  plainly {f} {a} {b} d = record {
    ran = d.ran ∙ ap (λ (n : ℕ). with_refusal n (exec (plain apply) (f a.store) a)) (sym (ap (λ (r : Run S X). r.refusal) d.ran));
    number = λ s. ap (λ (r : Run S X). r.refusal) d.ran ∙ refusal-kept apply (f a.store) a;
  }

  module _ {f : S → List X} {told : S → ℕ} {a c : Run S X} (e : Ends apply f told a c) (h : a.stopped ≡ false) where
    pub limited_prefix : (n : ℕ) → a.limited ≡ true → a.left ≡ n → Cut apply (f a.store) n a.store c
    limited_prefix n l k = record {
      store = ap (λ (r : Run S X). r.store) p;
      left = ap (λ (r : Run S X). r.left) p;
      stopped = ap (λ (r : Run S X). r.stopped) p;
      last = λ j i q. last-at a.last (f a.store) j (omega arith) ∙ ap some (sym (ap (λ (r : Run S X). r.last) p ∙ ap (λ (m : ℕ). last_of a.last (take m (f a.store))) i));
    }
      where
        p : c ≡ reached (f a.store) a.store n a.last c.refusal
        p =
            e.ran
            ∙ ap (λ (r : Run S X). with_refusal c.refusal (exec (plain apply) (f a.store) r)) (λ i. record { store = a.store; limited = l i; left = k i; stopped = h i; last = a.last; refusal = a.refusal })
            ∙ ap (with_refusal c.refusal) (limited-run (f a.store) a.store n a.last a.refusal)

    pub unlimited_whole : a.limited ≡ false → Whole apply (f a.store) a.store c
    unlimited_whole l = record { store = ap (λ (r : Run S X). r.store) p ∙ w.store; stopped = ap (λ (r : Run S X). r.stopped) p ∙ w.stopped }
      where
        w : Whole apply (f a.store) a.store (exec (plain apply) (f a.store) (ready false a.store a.left a.last a.refusal))
        w = unlimited_run (f a.store) a.store a.left a.last a.refusal

        p : c ≡ with_refusal c.refusal (exec (plain apply) (f a.store) (ready false a.store a.left a.last a.refusal))
        p = e.ran ∙ ap (λ (r : Run S X). with_refusal c.refusal (exec (plain apply) (f a.store) r)) (λ i. record { store = a.store; limited = l i; left = a.left; stopped = h i; last = a.last; refusal = a.refusal })

  -- 01, Sixteen numbers: "16. The step number is past the plan's end": where some of the n steps are left.
  module _ {plan : List X} {n : ℕ} {s : S} {b : Run S X} (c : Cut apply plan n s b) where
    pub not-past : b.left ≡ 0 → leb n (length plan) ≡ true
    not-past h = let l = c.left in le-leb n (length plan) (omega arith)

    pub past : (b.left ≡ 0 → ⊥) → leb n (length plan) ≡ false
    past h = go (leb n (length plan)) refl
      where
        go : (t : Bool) → leb n (length plan) ≡ t → t ≡ false
        go true e = let l = c.left in let k = leb-true n (length plan) e in absurd (h (omega arith))
        go false e = refl
