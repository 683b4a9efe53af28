-- Plans and machines, for any stores S and steps X. A plan is the list of steps that is read off a store; a machine takes steps: each changes
-- its state, and some states are over.
use Rattle.std.specs.Prelude.{◌≡◌, List, [], ◌∷◌, ◌++◌, Bool, true, false, if◌then◌else◌}

abbrev pub nothing : {S X : Type 0} → S → List X
nothing s = []

abbrev pub single : {S X : Type 0} → X → S → List X
single x s = x ∷ []

-- One plan or the other, by a test of the store.
unfoldable pub choose : {S X : Type 0} → (S → Bool) → (S → List X) → (S → List X) → S → List X
choose t f g s = if t s then f s else g s

module _ {S X : Type 0} (apply : X → S → S) where
  -- Steps one behind the other.
  abbrev pub apply_all : List X → S → S
  apply_all [] s = s
  apply_all (x ∷ xs) s = apply_all xs (apply x s)

  -- One plan, and then another that is read off the store that the first makes.
  unfoldable pub seq : (S → List X) → (S → List X) → S → List X
  seq f g s = f s ++ g (apply_all (f s) s)

  -- A plan for each element in turn, each read off the store that those before it make.
  abbrev pub seq_over : {A : Type 0} → (A → S → List X) → List A → S → List X
  seq_over g [] s = []
  seq_over g (a ∷ l) s = seq (g a) (seq_over g l) s

pub record Machine (S X R : Type 0) : Type 0 where
  pub apply : X → S → S
  pub store : R → S
  pub over : R → Bool
  pub one : X → R → R

-- What is over stays as it is; a step after which the state is not over was done.
pub record Lawful {S X R : Type 0} (m : Machine S X R) : Type 0 where
  pub idle : (x : X) (r : R) → m.over r ≡ true → m.one x r ≡ r
  pub moves : (x : X) (r : R) → m.over (m.one x r) ≡ false → m.store (m.one x r) ≡ m.apply x (m.store r)

module _ {S X R : Type 0} (m : Machine S X R) where
  abbrev pub exec : List X → R → R
  exec [] r = r
  exec (x ∷ xs) r = exec xs (m.one x r)

  -- b comes of a by the steps of the plan f, read off a's store.
  pub record Does (f : S → List X) (a b : R) : Type 0 where
    pub ran : b ≡ exec (f (m.store a)) a

  -- In the middle of a plan: whatever comes of `now` by the rest comes of `start` by the whole.
  pub record Going (whole rest : S → List X) (start now : R) : Type 0 where
    pub go : (b : R) → Does rest now b → Does whole start b
