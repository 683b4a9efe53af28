-- A plan whose steps may fail, and what follows it.
use Rattle.std.specs.Prelude.{◌≡◌, List, Bool, true, false, ℕ, eqb, if◌then◌else◌}
use Rattle.std.proofs.Math.Path.{refl, sym, ap, subst}
use Rattle.std.proofs.Common.{◌∙◌, eqb-true}
use Rattle.std.proofs.lemmas.Bool.{eqb-false}
use Rattle.plans.specs.Machine.{apply_all, seq, exec, Does}
use Rattle.plans.specs.Runs.{Run, with_refusal, plain, careful, fault_in, cut, or_else}
use Rattle.plans.proofs.MachineLaws.{exec-over, exec_then, running, ran_on, made}
use Rattle.plans.proofs.RunLaws.{plain-lawful, along, refusal-kept}
use Rattle.plans.proofs.Tries.{Tried, tried}

module _ {S X : Type 0} (apply : X → S → S) where
  -- c comes of a by the steps of f, but for its refusal; where the run was not stopped that is what `told` says.
  pub record Ends (f : S → List X) (told : S → ℕ) (a c : Run S X) : Type 0 where
    pub ran : c ≡ with_refusal c.refusal (exec (plain apply) (f a.store) a)
    pub number : c.stopped ≡ false → c.refusal ≡ told a.store

  -- Plain steps before.
  pub before : {f q : S → List X} {told : S → ℕ} {a b c : Run S X} → Does (plain apply) q a b → Ends f told b c → Ends (seq apply q f) (λ s. told (apply_all apply (q s) s)) a c
  unfolding seq
  before {f} {q} {told} {a} {b} {c} d n = record {
    ran = n.ran ∙ ap (with_refusal c.refusal) (ap (λ (r : Run S X). exec (plain apply) (f r.store) r) d.ran ∙ sym (exec_then (plain-lawful apply) (q a.store) f a));
    number = λ s. n.number s ∙ ap told (made (plain-lawful apply) d (running (plain-lawful apply) (f b.store) b (sym (ap (λ (r : Run S X). r.stopped) n.ran) ∙ s)));
  }

  -- Another name for the same steps and the same number.
  pub ends_as : {f g : S → List X} {told said : S → ℕ} {a c : Run S X} → Ends f told a c → f a.store ≡ g a.store → told a.store ≡ said a.store → Ends g said a c
  ends_as {f} {g} {told} {said} {a} {c} n e o = record {
    ran = n.ran ∙ ap (λ (xs : List X). with_refusal c.refusal (exec (plain apply) xs a)) e;
    number = λ s. n.number s ∙ o;
  }

  module _ (fault : X → S → ℕ) where
    -- A careful plan that came to b, and plain steps k behind it, where a run that was not stopped does h. A stopped run does neither.
    behind : (p : S → List X) {k h : S → List X} {a b c : Run S X} → Tried apply fault (p a.store) a b → (b.stopped ≡ false → k ≡ h) → Does (plain apply) k b c
        → c ≡ with_refusal c.refusal (exec (plain apply) (seq apply (cut apply fault p) h a.store) a)
    unfolding seq
    behind p {k} {h} {a} {b} {c} t w q =
        q.ran
        ∙ ap (λ (r : Run S X). exec (plain apply) (k r.store) r) t.ran
        ∙ along apply b.refusal (k e.store) e
        ∙ ap (with_refusal b.refusal) (go e.stopped refl ∙ sym (exec_then (plain-lawful apply) (cut apply fault p a.store) h a))
        ∙ ap (λ (n : ℕ). with_refusal n (exec (plain apply) (seq apply (cut apply fault p) h a.store) a)) (sym (ap (λ (r : Run S X). r.refusal) q.ran ∙ refusal-kept apply (k b.store) b))
      where
        e : Run S X
        e = exec (plain apply) (cut apply fault p a.store) a

        go : (s : Bool) → e.stopped ≡ s → exec (plain apply) (k e.store) e ≡ exec (plain apply) (h e.store) e
        go true s = exec-over (plain-lawful apply) (k e.store) e s ∙ sym (exec-over (plain-lawful apply) (h e.store) e s)
        go false s = ap (λ (f : S → List X). exec (plain apply) (f e.store) e) (w (ap (λ (r : Run S X). r.stopped) t.ran ∙ s))

    -- A plan that may fail, and behind it f where no step of it failed, else g: the code asks for the refusal.
    pub decide : {p : S → List X} (f g : S → List X) {a b c : Run S X} → Does (careful apply fault) p a b → a.refusal ≡ 0 → (b.refusal ≡ 0 → Does (plain apply) f b c) → ((b.refusal ≡ 0 → ⊥) → Does (plain apply) g b c)
        → Ends (or_else apply fault p f g) (λ s. fault_in apply fault (p s) s) a c
    unfolding or_else
    decide {p} f g {a} {b} {c} d z none some = go (eqb b.refusal 0) refl
      where
        t : Tried apply fault (p a.store) a b
        t = subst (Tried apply fault (p a.store) a) (sym d.ran) (tried apply fault (p a.store) a z)

        next : S → List X
        next = if eqb (fault_in apply fault (p a.store) a.store) 0 then f else g

        told : {x : Bool} → eqb b.refusal 0 ≡ x → b.stopped ≡ false → eqb (fault_in apply fault (p a.store) a.store) 0 ≡ x
        told y s = sym (ap (λ (n : ℕ). eqb n 0) (t.told s)) ∙ y

        ends : (k : S → List X) → (b.stopped ≡ false → k ≡ next) → Does (plain apply) k b c → Ends (or_else apply fault p f g) (λ s. fault_in apply fault (p s) s) a c
        ends k w q = record {
          ran = behind p t w q;
          number = λ s. ap (λ (r : Run S X). r.refusal) q.ran ∙ refusal-kept apply (k b.store) b ∙ t.told (ran_on (plain-lawful apply) q s);
        }

        go : (x : Bool) → eqb b.refusal 0 ≡ x → Ends (or_else apply fault p f g) (λ s. fault_in apply fault (p s) s) a c
        go true y = ends f (λ s. rw (told y s)) (none (eqb-true _ _ y))
        go false y = ends g (λ s. rw (told y s)) (some (eqb-false _ _ y))
