-- How plans are put together, for any lawful machine.
use Rattle.std.specs.Prelude.{◌≡◌, refl, List, [], ◌∷◌, ◌++◌, Bool, true, false, ℕ}
use Rattle.std.proofs.Math.Path.{sym, ap}
use Rattle.std.proofs.Common.{◌∙◌, arith}
use Rattle.plans.specs.Machine.{Machine, Lawful, apply_all, seq, choose, nothing, single, exec, Does, Going}

pub clash {ℓ} : {A : Type ℓ} {b : Bool} → b ≡ true → b ≡ false → A
clash {b} p q = let z : ◌≡◌ {A = ℕ} 0 1 = cc in absurd (let no : ⊥ = omega arith in no)

module _ {S X R : Type 0} {m : Machine S X R} (l : Lawful m) where
  -- Steps in a row.
  pub exec_append : (xs ys : List X) (r : R) → exec m (xs ++ ys) r ≡ exec m ys (exec m xs r)
  exec_append [] ys r = refl
  exec_append (x ∷ xs) ys r = exec_append xs ys (m.one x r)

  pub exec-over : (xs : List X) (r : R) → m.over r ≡ true → exec m xs r ≡ r
  exec-over [] r h = refl
  exec-over (x ∷ xs) r h = ap (exec m xs) (l.idle x r h) ∙ exec-over xs r h

  -- What is not over at the end was not over before.
  pub running : (xs : List X) (r : R) → m.over (exec m xs r) ≡ false → m.over r ≡ false
  running xs r h = go (m.over r) refl
    where
      go : (b : Bool) → m.over r ≡ b → m.over r ≡ false
      go true e = clash (ap m.over (exec-over xs r e) ∙ e) h
      go false e = e

  pub exec-store : (xs : List X) (r : R) → m.over (exec m xs r) ≡ false → m.store (exec m xs r) ≡ apply_all m.apply xs (m.store r)
  exec-store [] r h = refl
  exec-store (x ∷ xs) r h = exec-store xs (m.one x r) h ∙ ap (apply_all m.apply xs) (l.moves x r (running xs (m.one x r) h))

  -- Steps that are read off the store after the first ones.
  pub exec_then : (xs : List X) (ys : S → List X) (r : R) → exec m (xs ++ ys (apply_all m.apply xs (m.store r))) r ≡ exec m (ys (m.store (exec m xs r))) (exec m xs r)
  exec_then xs ys r = exec_append xs (ys (apply_all m.apply xs (m.store r))) r ∙ go (m.over (exec m xs r)) refl
    where
      go : (b : Bool) → m.over (exec m xs r) ≡ b → exec m (ys (apply_all m.apply xs (m.store r))) (exec m xs r) ≡ exec m (ys (m.store (exec m xs r))) (exec m xs r)
      go true e = exec-over (ys (apply_all m.apply xs (m.store r))) (exec m xs r) e ∙ sym (exec-over (ys (m.store (exec m xs r))) (exec m xs r) e)
      go false e = ap (λ (s : S). exec m (ys s) (exec m xs r)) (sym (exec-store xs r e))

  -- Nothing, one step, two plans in a row, a plan with the same steps.
  pub idle : {a : R} → Does m nothing a a
  idle = record { ran = refl }

  pub step : {a b : R} (x : X) → b ≡ m.one x a → Does m (single x) a b
  step x e = record { ran = e }

  pub and_then : {f g : S → List X} {a b c : R} → Does m f a b → Does m g b c → Does m (seq m.apply f g) a c
  unfolding seq
  and_then {f} {g} {a} {b} {c} p q = record { ran = q.ran ∙ ap (λ (n : R). exec m (g (m.store n)) n) p.ran ∙ sym (exec_then (f (m.store a)) g a) }

  pub like : {f g : S → List X} {a b : R} → Does m f a b → f (m.store a) ≡ g (m.store a) → Does m g a b
  like {f} {g} {a} {b} p e = record { ran = p.ran ∙ ap (λ (xs : List X). exec m xs a) e }

  -- What is over: any plan leaves it as it is, so a plan only has to be right where the state is not over.
  pub still : {f : S → List X} {a b : R} → Does m f a b → m.over a ≡ true → b ≡ a
  still {f} {a} {b} p h = p.ran ∙ exec-over (f (m.store a)) a h

  pub stays : {f : S → List X} {a : R} → m.over a ≡ true → Does m f a a
  stays {f} {a} h = record { ran = sym (exec-over (f (m.store a)) a h) }

  pub unless-over : {f : S → List X} {a b : R} → (m.over a ≡ true → b ≡ a) → (m.over a ≡ false → Does m f a b) → Does m f a b
  unless-over {f} {a} {b} p q = go (m.over a) refl
    where
      go : (t : Bool) → m.over a ≡ t → Does m f a b
      go true e = record { ran = p e ∙ sym (exec-over (f (m.store a)) a e) }
      go false e = q e

  -- A plan that came to its end was running all the while, and its store is what the steps make.
  pub ran_on : {f : S → List X} {a b : R} → Does m f a b → m.over b ≡ false → m.over a ≡ false
  ran_on {f} {a} {b} p h = running (f (m.store a)) a (sym (ap m.over p.ran) ∙ h)

  pub made : {f : S → List X} {a b : R} → Does m f a b → m.over b ≡ false → m.store b ≡ apply_all m.apply (f (m.store a)) (m.store a)
  made {f} {a} {b} p h = ap m.store p.ran ∙ exec-store (f (m.store a)) a (sym (ap m.over p.ran) ∙ h)

  -- A branch on what is found in the store.
  pub if_so_lem : (t : S → Bool) (f g : S → List X) {a b : R} → t (m.store a) ≡ true → Does m f a b → Does m (choose t f g) a b
  unfolding choose
  if_so_lem t f g {a} {b} h p = record { ran = rw h p.ran }

  pub if_not : (t : S → Bool) (f g : S → List X) {a b : R} → t (m.store a) ≡ false → Does m g a b → Does m (choose t f g) a b
  unfolding choose
  if_not t f g {a} {b} h p = record { ran = rw h p.ran }

  -- Loops: the start, a turn, a rest with the same steps, the end; what is over may leave the loop.
  pub begin : {f : S → List X} {a : R} → Going m f f a a
  begin = record { go = λ b p. p }

  pub turn : {whole f rest : S → List X} {a b c : R} → Going m whole (seq m.apply f rest) a b → Does m f b c → Going m whole rest a c
  turn w p = record { go = λ d q. w.go d (and_then p q) }

  pub goes_as : {whole f g : S → List X} {a b : R} → Going m whole f a b → f (m.store b) ≡ g (m.store b) → Going m whole g a b
  goes_as {whole} {f} {g} {a} {b} w e = record { go = λ d q. w.go d (like q (sym e)) }

  pub finish : {whole : S → List X} {a b : R} → Going m whole nothing a b → Does m whole a b
  finish {whole} {a} {b} w = w.go b idle

  pub leave : {whole rest : S → List X} {a b : R} → Going m whole rest a b → m.over b ≡ true → Does m whole a b
  leave {whole} {rest} {a} {b} w h = w.go b (stays h)
