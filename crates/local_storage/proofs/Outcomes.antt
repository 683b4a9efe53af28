-- Refusals and accepted operations as answers, and the tests before them.
use mathlib.Core.Path.{◌≡◌, refl, sym, subst}
use mathlib.Core.Bool.{Bool, true, false, ◌&&◌}
use Rattle.std.specs.Prelude.{ℕ, Result, Ok, Err}
use Rattle.basics.specs.Base.{Bytes}
use Rattle.model.specs.Store as model
use Rattle.model.specs.Record.{Outcome, refuse, give, require, record_into, appended}
use Rattle.refusals.specs.Numbers.{number_of}
use Rattle.refusals.specs.declared.Refusal.{Refusal}
use Rattle.store.specs.Stores.{SoundStore}
use Rattle.transaction.specs.Operations.{op_of, SoundOp}
use Rattle.transaction.specs.declared.Operation.{Operation}
use Rattle.local_storage.specs.declared.LocalStorage.{LocalStorage}
use Rattle.local_storage.specs.declared.Recorded.{Recorded}
use Rattle.local_storage.specs.Recording.{storage_of, recorded_in, Answers, Admits}

-- A storage handed back with a refusal.
abbrev pub refused_with : LocalStorage → Refusal → Recorded
refused_with t x = record { storage = t; done = Err x }

module _ {src : Bytes} {self : LocalStorage} {r : Recorded} where
  pub handed-back : {o : Outcome} {t : LocalStorage} {x : Refusal} → SoundStore src t.store → storage_of src t ≡ storage_of src self → r ≡ refused_with t x → o ≡ refuse (number_of x) → Answers src o self r
  handed-back g k e q = rw e record { same = sym q; sound = g; stands = k }

  pub accepted : {o : Outcome} {t : LocalStorage} {op : Operation} → SoundStore src t.store → r ≡ recorded_in t op → SoundOp src op → o ≡ give (appended (op_of src op) (storage_of src t)) → Answers src o self r
  accepted g e p q = rw e record { same = sym q; sound = g; stands = p }

  pub admitted : (s : model.Store) {a : Result (Unit {0}) Refusal} {u : Unit {0}} (next : Outcome) → Admits s a → a ≡ Ok u → Answers src next self r → Answers src (record_into s next) self r
  admitted s next a e w = subst (λ (o : Outcome). Answers src o self r) (sym ((subst (Admits s) e a) next)) w

  pub holds : {t : Bool} (n : ℕ) (next : Outcome) → t ≡ true → Answers src next self r → Answers src (require t n next) self r
  holds n next h w = rw h w

  pub failed-back : {u : LocalStorage} {x : Refusal} {t : Bool} → SoundStore src u.store → storage_of src u ≡ storage_of src self → r ≡ refused_with u x → (next : Outcome) → t ≡ false → Answers src (require t (number_of x) next) self r
  failed-back g k e next h = handed-back g k e (rw h)

  module _ (g : SoundStore src self.store) {x : Refusal} (e : r ≡ refused_with self x) where
    pub refused : {o : Outcome} → o ≡ refuse (number_of x) → Answers src o self r
    refused q = handed-back g refl e q

    pub not-admitted : (s : model.Store) {a : Result (Unit {0}) Refusal} (next : Outcome) → Admits s a → a ≡ Err x → Answers src (record_into s next) self r
    not-admitted s next a k = refused ((subst (Admits s) k a) next)

    pub fails : {t : Bool} (next : Outcome) → t ≡ false → Answers src (require t (number_of x) next) self r
    fails next h = refused (rw h)

-- Two or three tests in one.
pub both : {a b : Bool} → a ≡ true → b ≡ true → (a && b) ≡ true
both x y = rw (x, y)

pub first-not-of-two : {a : Bool} (b : Bool) → a ≡ false → (a && b) ≡ false
first-not-of-two b x = rw x

pub second-not-of-two : {b : Bool} (a : Bool) → b ≡ false → (a && b) ≡ false
second-not-of-two false x = refl
second-not-of-two true x = x

pub all-three : {a b c : Bool} → a ≡ true → b ≡ true → c ≡ true → (a && b && c) ≡ true
all-three x y z = rw (x, y, z)

pub first-not : {a : Bool} (b c : Bool) → a ≡ false → (a && b && c) ≡ false
first-not b c x = rw x

pub second-not : {b : Bool} (a c : Bool) → b ≡ false → (a && b && c) ≡ false
second-not false c x = refl
second-not true c x = rw x

pub third-not : {c : Bool} (a b : Bool) → c ≡ false → (a && b && c) ≡ false
third-not false b x = refl
third-not true false x = refl
third-not true true x = x
