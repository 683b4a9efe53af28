-- The two machines are lawful; one step in each of its ways, as code takes it.
use Rattle.std.specs.Prelude.{◌≡◌, refl, List, [], ◌∷◌, Bool, true, false, ◌&&◌, ◌||◌, ◌⊎◌, ℕ, eqb, if◌then◌else◌}
use Rattle.std.proofs.Common.{ap, ◌∙◌, inl, inr, ne_eqb}
use Rattle.std.proofs.lemmas.Bool.{eqb-false}
use Rattle.plans.specs.Machine.{Lawful, exec}
use Rattle.plans.specs.Runs.{Run, with_refusal, halt, over, do_step, advance, plain, attempt, careful}
use Rattle.plans.proofs.MachineLaws.{clash}

-- When a run of the careful machine is over.
module _ {S X : Type 0} (r : Run S X) where
  pub over-stopped : r.stopped ≡ true → over r ≡ true
  over-stopped h = rw h

  pub over-refused : (r.refusal ≡ 0 → ⊥) → over r ≡ true
  over-refused h = rw (ne_eqb r.refusal 0 h) (go r.stopped)
    where
      go : (b : Bool) → (b || true) ≡ true
      go true = refl
      go false = refl

  pub not-over : r.stopped ≡ false → r.refusal ≡ 0 → over r ≡ false
  not-over h z = rw (h, z)

  pub not_stopped : over r ≡ false → r.stopped ≡ false
  not_stopped h = go r.stopped refl
    where
      go : (b : Bool) → r.stopped ≡ b → r.stopped ≡ false
      go true e = clash (over-stopped e) h
      go false e = e

module _ {S X : Type 0} (apply : X → S → S) where
  advance-store : (x : X) (r : Run S X) → (advance apply x r).stopped ≡ false → (advance apply x r).store ≡ apply x r.store
  advance-store x r h = go r.stopped (r.limited && eqb r.left 0) refl h
    where
      go : (st q : Bool) → r.stopped ≡ st → (if st then r else if q then halt r else do_step apply x r).stopped ≡ false → (if st then r else if q then halt r else do_step apply x r).store ≡ apply x r.store
      go true q e h = clash e h
      go false true e h = clash refl h
      go false false e h = refl

  pub plain-lawful : Lawful (plain apply)
  plain-lawful = record { idle = λ x r h. rw h; moves = advance-store }

  -- A step that is due with none left, and one that is done.
  module _ (x : X) (r : Run S X) (h : r.stopped ≡ false) where
    pub halts : r.limited ≡ true → r.left ≡ 0 → halt r ≡ advance apply x r
    halts l z = rw (h, l, z)

    pub steps : ((r.limited ≡ true) × (r.left ≡ 0 → ⊥)) ⊎ (r.limited ≡ false) → do_step apply x r ≡ advance apply x r
    steps (inl w) = rw (h, w.0, ne_eqb r.left 0 w.1)
    steps (inr w) = rw (h, w)

  -- The refusal goes along with plain steps.
  advance-along : (n : ℕ) (x : X) (r : Run S X) → advance apply x (with_refusal n r) ≡ with_refusal n (advance apply x r)
  advance-along n x r = go r.stopped (r.limited && eqb r.left 0)
    where
      go : (st q : Bool) → (if st then with_refusal n r else if q then halt (with_refusal n r) else do_step apply x (with_refusal n r)) ≡ with_refusal n (if st then r else if q then halt r else do_step apply x r)
      go true q = refl
      go false true = refl
      go false false = refl

  pub along : (n : ℕ) (xs : List X) (r : Run S X) → exec (plain apply) xs (with_refusal n r) ≡ with_refusal n (exec (plain apply) xs r)
  along n [] r = refl
  along n (x ∷ xs) r = ap (exec (plain apply) xs) (advance-along n x r) ∙ along n xs (advance apply x r)

  pub refusal-kept : (xs : List X) (r : Run S X) → (exec (plain apply) xs r).refusal ≡ r.refusal
  refusal-kept xs r = ap (λ (q : Run S X). q.refusal) (along r.refusal xs r)

  module _ (fault : X → S → ℕ) where
    pub careful-lawful : Lawful (careful apply fault)
    careful-lawful = record { idle = λ x r h. rw h; moves = moves }
      where
        moves : (x : X) (r : Run S X) → over (attempt apply fault x r) ≡ false → (attempt apply fault x r).store ≡ apply x r.store
        moves x r h = go (over r) (eqb (fault x r.store) 0) refl refl h
          where
            n : ℕ
            n = fault x r.store

            go : (o q : Bool) → over r ≡ o → eqb n 0 ≡ q → over (if o then r else if q then advance apply x r else with_refusal n r) ≡ false → (if o then r else if q then advance apply x r else with_refusal n r).store ≡ apply x r.store
            go true q e f h = clash e h
            go false true e f h = advance-store x r (not_stopped (advance apply x r) h)
            go false false e f h = clash (over-refused (with_refusal n r) (eqb-false n 0 f)) h

    -- A step that fails, and one that does not.
    module _ (x : X) (r : Run S X) (h : over r ≡ false) where
      pub refuses : (fault x r.store ≡ 0 → ⊥) → with_refusal (fault x r.store) r ≡ attempt apply fault x r
      refuses z = rw (h, ne_eqb (fault x r.store) 0 z)

      pub passes : fault x r.store ≡ 0 → advance apply x r ≡ attempt apply fault x r
      passes z = rw (h, z)
