-- Running plans: what holds after every step, and after every step before the first that fails.
use Rattle.std.specs.Prelude.{◌≡◌, refl, ℕ, zero, suc, List, [], ◌∷◌, ◌++◌, take}
use Rattle.std.proofs.Common.{sym, ◌∙◌, append-nil, inl, inr}
use Rattle.std.proofs.Math.Option.{Option, none, some}
use Rattle.std.proofs.Math.Seq.{append_snoc}
use Rattle.basics.specs.Base.{case_option, In}
use Rattle.model.specs.Store.{Store}
use Rattle.model.specs.Step.{Step, apply, apply_all, Fault, step_fault}
use Rattle.model.specs.Plan.{in_turn, first_fault, steps_before_fault}
use Rattle.basic_laws.specs.MapLaws.{none≢some}

pub apply_all_append : (xs ys : List Step) (s : Store) → apply_all (xs ++ ys) s ≡ apply_all ys (apply_all xs s)
apply_all_append [] ys s = refl
apply_all_append (x ∷ xs) ys s = apply_all_append xs ys (apply x s)

-- The store after a walk over a list.
abbrev pub run_over : {A : Type 0} → (A → Store → List Step) → List A → Store → Store
run_over g [] s = s
run_over g (a ∷ l) s = run_over g l (apply_all (g a s) s)

pub apply_all-in_turn : {A : Type 0} (g : A → Store → List Step) (l : List A) (s : Store) → apply_all (in_turn g l s) s ≡ run_over g l s
apply_all-in_turn g [] s = refl
apply_all-in_turn g (a ∷ l) s = apply_all_append (g a s) (in_turn g l (apply_all (g a s) s)) s ∙ apply_all-in_turn g l (apply_all (g a s) s)

-- A plan without a failing step has none in its parts.
pub fault-head : (x : Step) (xs : List Step) (u : Store) → first_fault (x ∷ xs) u ≡ none → (step_fault x u ≡ none) × (first_fault xs (apply x u) ≡ none)
fault-head x xs u e = go (step_fault x u) e
  where
    go : (q : Option Fault) → case_option q (first_fault xs (apply x u)) some ≡ none → (q ≡ none) × (first_fault xs (apply x u) ≡ none)
    go none e = (refl, e)
    go (some f) e = none≢some (sym e)

pub fault_append : (xs ys : List Step) (u : Store) → first_fault (xs ++ ys) u ≡ none → (first_fault xs u ≡ none) × (first_fault ys (apply_all xs u) ≡ none)
fault_append [] ys u h = (refl, h)
fault_append (x ∷ xs) ys u h =
    let f = fault-head x (xs ++ ys) u h in
    let k = fault_append xs ys (apply x u) f.1 in
    (rw f.0 k.0, k.1)

-- What holds of the steps done and the store after each step of a plan.
abbrev pub Runs : (List Step → Store → Type 0) → List Step → List Step → Store → Type 0
Runs P pre [] s = P pre s
Runs P pre (x ∷ xs) s = P pre s × Runs P (pre ++ x ∷ []) xs (apply x s)

-- The same up to the plan's first failing step.
abbrev pub Careful : (List Step → Store → Type 0) → List Step → List Step → Store → Type 0
Careful P pre [] s = P pre s
Careful P pre (x ∷ xs) s = P pre s × (step_fault x s ≡ none → Careful P (pre ++ x ∷ []) xs (apply x s))

module _ (P : List Step → Store → Type 0) where
  -- At each number of steps, and at the end.
  pub runs_take : (pre xs : List Step) (s : Store) → Runs P pre xs s → (n : ℕ) → P (pre ++ take n xs) (apply_all (take n xs) s)
  runs_take pre [] s h zero = rw append-nil h
  runs_take pre [] s h (suc n) = rw append-nil h
  runs_take pre (x ∷ xs) s h zero = rw append-nil h.0
  runs_take pre (x ∷ xs) s h (suc n) = rw append_snoc at (runs_take (pre ++ x ∷ []) xs (apply x s) h.1 n)

  pub runs_end : (pre xs : List Step) (s : Store) → Runs P pre xs s → P (pre ++ xs) (apply_all xs s)
  runs_end pre [] s h = rw append-nil h
  runs_end pre (x ∷ xs) s h = rw append_snoc at (runs_end (pre ++ x ∷ []) xs (apply x s) h.1)

  pub runs_append : (pre xs ys : List Step) (s : Store) → Runs P pre xs s → Runs P (pre ++ xs) ys (apply_all xs s) → Runs P pre (xs ++ ys) s
  runs_append pre [] ys s h k = rw append-nil at k
  runs_append pre (x ∷ xs) ys s h k = (h.0, runs_append (pre ++ x ∷ []) xs ys (apply x s) h.1 (rw append_snoc k))

  -- A walk over a list, with what is asked of the elements that are left.
  module _ {A : Type 0} (g : A → Store → List Step) (Ready : List A → Store → Type 0)
      (each : (a : A) (l : List A) (pre : List Step) (s : Store) → Ready (a ∷ l) s → P pre s → Runs P pre (g a s) s × Ready l (apply_all (g a s) s)) where
    pub runs_walk : (l : List A) (pre : List Step) (s : Store) → Ready l s → P pre s → Runs P pre (in_turn g l s) s
    runs_walk [] pre s r p = p
    runs_walk (a ∷ l) pre s r p =
        let h : Runs P pre (g a s) s × Ready l (apply_all (g a s) s) = each a l pre s r p in
        runs_append pre (g a s) (in_turn g l (apply_all (g a s) s)) s h.0
        (runs_walk l (pre ++ g a s) (apply_all (g a s) s) h.1 (runs_end pre (g a s) s h.0))

  -- The same where each element is asked for something alone.
  module _ {A : Type 0} (g : A → Store → List Step) (G : A → Type 0)
      (each : (a : A) (pre : List Step) (s : Store) → G a → P pre s → Runs P pre (g a s) s) where
    pub runs_over : (l : List A) (pre : List Step) (s : Store) → ((a : A) → In a l → G a) → P pre s → Runs P pre (in_turn g l s) s
    runs_over l pre s good p = runs_walk g (λ r u. (a : A) → In a r → G a) (λ a r pre s good p. (each a pre s (good a (inl refl)) p, λ b i. good b (inr i))) l pre s good p

  -- A plan without a failing step; the steps before a failing one.
  pub careful_runs : (pre xs : List Step) (s : Store) → Careful P pre xs s → first_fault xs s ≡ none → Runs P pre xs s
  careful_runs pre [] s h e = h
  careful_runs pre (x ∷ xs) s h e = let f = fault-head x xs s e in (h.0, careful_runs (pre ++ x ∷ []) xs (apply x s) (h.1 f.0) f.1)

  pub careful-before : (pre xs : List Step) (s : Store) → Careful P pre xs s → Runs P pre (steps_before_fault xs s) s
  careful-before pre [] s h = h
  careful-before pre (x ∷ xs) s h = go (step_fault x s) (λ z. careful-before (pre ++ x ∷ []) xs (apply x s) (h.1 z))
    where
      go : (q : Option Fault) → (q ≡ none → Runs P (pre ++ x ∷ []) (steps_before_fault xs (apply x s)) (apply x s)) → Runs P pre (case_option q (x ∷ steps_before_fault xs (apply x s)) (λ e. [])) s
      go none k = (h.0, k refl)
      go (some f) k = h.0

  pub careful_append : (pre xs ys : List Step) (s : Store) → Careful P pre xs s → (P (pre ++ xs) (apply_all xs s) → Careful P (pre ++ xs) ys (apply_all xs s)) → Careful P pre (xs ++ ys) s
  careful_append pre [] ys s h k = rw append-nil at (k (rw append-nil h))
  careful_append pre (x ∷ xs) ys s h k = (h.0, λ e. careful_append (pre ++ x ∷ []) xs ys (apply x s) (h.1 e) (rw append_snoc k))

  module _ {A : Type 0} (g : A → Store → List Step) (G : A → Type 0)
      (each : (a : A) (pre : List Step) (s : Store) → G a → P pre s → Careful P pre (g a s) s) where
    pub careful-over : (l : List A) (pre : List Step) (s : Store) → ((a : A) → In a l → G a) → P pre s → Careful P pre (in_turn g l s) s
    careful-over [] pre s good p = p
    careful-over (a ∷ l) pre s good p =
        careful_append pre (g a s) (in_turn g l (apply_all (g a s) s)) s (each a pre s (good a (inl refl)) p)
        (λ q. careful-over l (pre ++ g a s) (apply_all (g a s) s) (λ b i. good b (inr i)) q)

pub runs_map : (P Q : List Step → Store → Type 0) → ((x : List Step) (u : Store) → P x u → Q x u) → (pre xs : List Step) (s : Store) → Runs P pre xs s → Runs Q pre xs s
runs_map P Q f pre [] s h = f pre s h
runs_map P Q f pre (x ∷ xs) s h = (f pre s h.0, runs_map P Q f (pre ++ x ∷ []) xs (apply x s) h.1)

-- Two plans, the second with another promise, which the first one's implies.
pub runs_then : (P Q : List Step → Store → Type 0) → ((x : List Step) (u : Store) → P x u → Q x u) → (pre xs ys : List Step) (s : Store) →
    Runs P pre xs s → (P (pre ++ xs) (apply_all xs s) → Runs Q (pre ++ xs) ys (apply_all xs s)) → Runs Q pre (xs ++ ys) s
runs_then P Q f pre xs ys s h k = runs_append Q pre xs ys s (runs_map P Q f pre xs s h) (k (runs_end P pre xs s h))
