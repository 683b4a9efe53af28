-- A run: a store, how many steps it may still take, and the number of the step that failed. The plain machine does every step; the careful
-- one does none that fails: 01, Listings and file steps, "A failing step changes nothing and isn't counted".
use Rattle.std.specs.Prelude.{ℕ, ◌-◌, List, [], ◌∷◌, Bool, true, false, ◌&&◌, ◌||◌, not, eqb, if◌then◌else◌}
use Rattle.std.specs.Prelude.{◌≡◌, suc, ◌≤◌, length, take, ltb}
use Rattle.std.proofs.Math.Option.{some}
use Rattle.std.proofs.Math.ListN.{get_elem?}
use Rattle.plans.specs.Machine.{Machine, seq, apply_all}

-- `left` counts where the run is limited; `stopped`: a step was due with none left. `last` is the step that was done last, `refusal` the
-- number of the step that failed, 0 for none.
pub record Run (S X : Type 0) : Type 0 where
  pub store : S
  pub limited : Bool
  pub left : ℕ
  pub stopped : Bool
  pub last : X
  pub refusal : ℕ

abbrev pub with_refusal : {S X : Type 0} → ℕ → Run S X → Run S X
with_refusal n r = record { store = r.store; limited = r.limited; left = r.left; stopped = r.stopped; last = r.last; refusal = n }

abbrev pub halt : {S X : Type 0} → Run S X → Run S X
halt r = record { store = r.store; limited = r.limited; left = r.left; stopped = true; last = r.last; refusal = r.refusal }

-- A run of the careful machine is over where it stopped or a step failed.
abbrev pub over : {S X : Type 0} → Run S X → Bool
over r = r.stopped || not (eqb r.refusal 0)

module _ {S X : Type 0} (apply : X → S → S) where
  abbrev pub do_step : X → Run S X → Run S X
  do_step x r = record { store = apply x r.store; limited = r.limited; left = r.left - 1; stopped = false; last = x; refusal = r.refusal }

  abbrev pub advance : X → Run S X → Run S X
  advance x r = if r.stopped then r else if r.limited && eqb r.left 0 then halt r else do_step x r

  abbrev pub plain : Machine S X (Run S X)
  plain = record { apply = apply; store = λ r. r.store; over = λ r. r.stopped; one = advance }

  -- `fault` gives the number that a step fails with on a store, 0 for none.
  module _ (fault : X → S → ℕ) where
    abbrev pub attempt : X → Run S X → Run S X
    attempt x r = if over r then r else if eqb (fault x r.store) 0 then advance x r else with_refusal (fault x r.store) r

    abbrev pub careful : Machine S X (Run S X)
    careful = record { apply = apply; store = λ r. r.store; over = over; one = attempt }

    -- The number of the first step that fails, 0 for none, and the steps before it.
    abbrev pub fault_in : List X → S → ℕ
    fault_in [] s = 0
    fault_in (x ∷ xs) s = if eqb (fault x s) 0 then fault_in xs (apply x s) else fault x s

    abbrev pub up_to : List X → S → List X
    up_to [] s = []
    up_to (x ∷ xs) s = if eqb (fault x s) 0 then x ∷ up_to xs (apply x s) else []

    abbrev pub cut : (S → List X) → S → List X
    cut f s = up_to (f s) s

    -- The plan as far as it goes, and then one of two others, by whether a step of it failed.
    unfoldable pub or_else : (S → List X) → (S → List X) → (S → List X) → S → List X
    or_else p f g s = seq apply (cut p) (if eqb (fault_in (p s) s) 0 then f else g) s

module _ {S X : Type 0} (apply : X → S → S) where
  -- A plan of which at most n steps are done on s, and what the run then says: the n-th step is the last; none is left unless the plan is
  -- shorter than n; it stopped where the plan is longer.
  pub record Cut (plan : List X) (n : ℕ) (s : S) (b : Run S X) : Type 0 where
    pub store : b.store ≡ apply_all apply (take n plan) s
    pub left : b.left ≡ n - length plan
    pub stopped : b.stopped ≡ ltb n (length plan)
    pub last : (k : ℕ) → n ≡ suc k → n ≤ length plan → get_elem? plan k ≡ some b.last

  -- A plan that was done whole.
  pub record Whole (plan : List X) (s : S) (b : Run S X) : Type 0 where
    pub store : b.store ≡ apply_all apply plan s
    pub stopped : b.stopped ≡ false
