-- Walks over steps: what holds before and after every step, and what the steps of each element of a list leave.
use Rattle.std.specs.Prelude.{◌≡◌, refl, ℕ, zero, suc, List, [], ◌∷◌, ◌++◌, ◌⊎◌, take}
use Rattle.std.proofs.Common.{sym, ◌∙◌, ap, subst, inl, inr}
use Rattle.std.proofs.Math.Option.{Option, none, some}
use Rattle.basics.specs.Base.{In, case_option}
use Rattle.model.specs.Store.{Store, staging_key}
use Rattle.model.specs.Step.{Step, rewrite_header, hold_header, sync_staging, sync_log, remove_log, sync_journal, sync_collections, make_directory, rename_file, move_staged}
use Rattle.model.specs.Step.{rename_directory, copy_file, remove_file, remove_directory, remove_staging, sync_directory, marked, marked_held, apply, apply_all, Fault, step_fault}
use Rattle.model.specs.Plan.{in_turn, first_fault, steps_before_fault}
use Rattle.laws.specs.StoreLaws.{Bare, bare-del}
use Rattle.laws.specs.Runs.{apply_all_append, fault-head}

-- No step touches the open mark, puts a staging file elsewhere, or brings a log.
pub record Steady (s u : Store) : Type 0 where
  pub mark : u.open_mark ≡ s.open_mark
  pub bare : Bare s.staging → Bare u.staging
  pub gone : s.log ≡ none → u.log ≡ none

apply-steady : (x : Step) (s : Store) → Steady s (apply x s)
unfolding apply
apply-steady rewrite_header s = record { mark = refl; bare = λ b. b; gone = ap marked }
apply-steady hold_header s = record { mark = refl; bare = λ b. b; gone = ap marked_held }
apply-steady sync_staging s = record { mark = refl; bare = λ b. b; gone = λ e. e }
apply-steady sync_log s = record { mark = refl; bare = λ b. b; gone = λ e. e }
apply-steady remove_log s = record { mark = refl; bare = λ b. b; gone = λ e. refl }
apply-steady sync_journal s = record { mark = refl; bare = λ b. b; gone = λ e. e }
apply-steady sync_collections s = record { mark = refl; bare = λ b. b; gone = λ e. e }
apply-steady (make_directory d) s = record { mark = refl; bare = λ b. b; gone = λ e. e }
apply-steady (rename_file d a c) s = record { mark = refl; bare = λ b. b; gone = λ e. e }
apply-steady (move_staged f d k) s = record { mark = refl; bare = bare-del (staging_key f) s.staging; gone = λ e. e }
apply-steady (rename_directory a c) s = record { mark = refl; bare = λ b. b; gone = λ e. e }
apply-steady (copy_file a c f) s = record { mark = refl; bare = λ b. b; gone = λ e. e }
apply-steady (remove_file d f) s = record { mark = refl; bare = λ b. b; gone = λ e. e }
apply-steady (remove_directory d) s = record { mark = refl; bare = λ b. b; gone = λ e. e }
apply-steady (remove_staging f) s = record { mark = refl; bare = bare-del (staging_key f) s.staging; gone = λ e. e }
apply-steady (sync_directory d) s = record { mark = refl; bare = λ b. b; gone = λ e. e }

pub steady : (xs : List Step) (s : Store) → Steady s (apply_all xs s)
steady [] s = record { mark = refl; bare = λ b. b; gone = λ e. e }
steady (x ∷ xs) s =
    let a = apply-steady x s in
    let r = steady xs (apply x s) in
    record { mark = r.mark ∙ a.mark; bare = λ b. r.bare (a.bare b); gone = λ e. r.gone (a.gone e) }

-- What holds before and after every step.
abbrev pub Through : (Store → Type 0) → List Step → Store → Type 0
Through I [] s = I s
Through I (x ∷ xs) s = I s × Through I xs (apply x s)

-- The same up to the first failing step.
abbrev pub Cautious : (Store → Type 0) → List Step → Store → Type 0
Cautious I [] s = I s
Cautious I (x ∷ xs) s = I s × (step_fault x s ≡ none → Cautious I xs (apply x s))

module _ (I : Store → Type 0) where
  pub through-end : (xs : List Step) (s : Store) → Through I xs s → I (apply_all xs s)
  through-end [] s h = h
  through-end (x ∷ xs) s h = through-end xs (apply x s) h.1

  pub through-take : (n : ℕ) (xs : List Step) (s : Store) → Through I xs s → I (apply_all (take n xs) s)
  through-take zero [] s h = h
  through-take zero (x ∷ xs) s h = h.0
  through-take (suc n) [] s h = h
  through-take (suc n) (x ∷ xs) s h = through-take n xs (apply x s) h.1

  pub through_append : (xs ys : List Step) (s : Store) → Through I xs s → Through I ys (apply_all xs s) → Through I (xs ++ ys) s
  through_append [] ys s h k = k
  through_append (x ∷ xs) ys s h k = (h.0, through_append xs ys (apply x s) h.1 k)

  pub cautious_through : (xs : List Step) (s : Store) → Cautious I xs s → first_fault xs s ≡ none → Through I xs s
  cautious_through [] s h e = h
  cautious_through (x ∷ xs) s h e = let f = fault-head x xs s e in (h.0, cautious_through xs (apply x s) (h.1 f.0) f.1)

  pub cautious_before : (xs : List Step) (s : Store) → Cautious I xs s → Through I (steps_before_fault xs s) s
  cautious_before [] s h = h
  cautious_before (x ∷ xs) s h = go (step_fault x s) (λ z. cautious_before xs (apply x s) (h.1 z))
    where
      go : (q : Option Fault) → (q ≡ none → Through I (steps_before_fault xs (apply x s)) (apply x s)) →
          Through I (case_option q (x ∷ steps_before_fault xs (apply x s)) (λ e. [])) s
      go none k = (h.0, k refl)
      go (some f) k = h.0

  pub cautious_then : (xs ys : List Step) (s : Store) → Cautious I xs s → (first_fault xs s ≡ none → Cautious I ys (apply_all xs s)) → Cautious I (xs ++ ys) s
  cautious_then [] ys s h k = k refl
  cautious_then (x ∷ xs) ys s h k = (h.0, λ e. cautious_then xs ys (apply x s) (h.1 e) (λ f. k (rw e f)))

pub through-map : (I J : Store → Type 0) → ((u : Store) → I u → J u) → (xs : List Step) (s : Store) → Through I xs s → Through J xs s
through-map I J f [] s h = f s h
through-map I J f (x ∷ xs) s h = (f s h.0, through-map I J f xs (apply x s) h.1)

-- A walk over a list in which each element's steps keep I, bring about Q of the element, and keep Q of the others.
abbrev pub Swept : {A : Type 0} → (Store → Type 0) → (A → Store → Type 0) → A → List Step → Store → Type 0
Swept {A} I Q a xs s = Through I xs s × Q a (apply_all xs s) × ((b : A) → Q b s → Q b (apply_all xs s))

module _ {A : Type 0} (g : A → Store → List Step) (Ready : List A → Store → Type 0) (I : Store → Type 0) (Q : A → Store → Type 0)
    (each : (a : A) (l : List A) (s : Store) → Ready (a ∷ l) s → I s → Swept I Q a (g a s) s × Ready l (apply_all (g a s) s)) where
  pub sweep : (l : List A) (s : Store) → Ready l s → I s →
      Through I (in_turn g l s) s × Ready [] (apply_all (in_turn g l s) s) × ((a : A) → In a l ⊎ Q a s → Q a (apply_all (in_turn g l s) s))
  sweep [] s r i = (i, r, λ a q. go a q)
    where
      go : (a : A) → ⊥ ⊎ Q a s → Q a s
      go a (inl q) = absurd q
      go a (inr q) = q
  sweep (a ∷ l) s r i =
      let u = apply_all (g a s) s in
      let rest = sweep l u one.1 (through-end I (g a s) s one.0.0) in (
        through_append I (g a s) (in_turn g l u) s one.0.0 rest.0,
        rw (apply_all_append (g a s) (in_turn g l u) s) rest.1,
        λ b q. rw (apply_all_append (g a s) (in_turn g l u) s) (rest.2 b (go b q)),
      )
    where
      one : Swept I Q a (g a s) s × Ready l (apply_all (g a s) s)
      one = each a l s r i

      go : (b : A) → In b (a ∷ l) ⊎ Q b s → In b l ⊎ Q b (apply_all (g a s) s)
      go b (inl (inl e)) = inr (subst (λ (c : A). Q c (apply_all (g a s) s)) (sym e) one.0.1)
      go b (inl (inr q)) = inl q
      go b (inr q) = inr (one.0.2 b q)
