-- A rotation under the rule for operations of every kind.
use Rattle.std.proofs.Math.Path.{◌≡◌, refl, ap, subst}
use Rattle.std.proofs.Common.{sym, ◌∙◌, inl, inr, eqb-true}
use Rattle.std.specs.Prelude.{ℕ, List, [], ◌∷◌, ◌++◌, Bool, true, false, ◌||◌, ◌⊎◌, length, eqb, if◌then◌else◌}
use native.Mathlib.Omega.{arith}
use Rattle.std.proofs.Math.Option.{some}
use Rattle.std.proofs.lemmas.Bool.{false≢true}
use Rattle.basics.specs.Limits.{image_room, step_room}
use Rattle.basics.specs.Order.{Name}
use Rattle.basics.specs.Map.{Map, Has}
use Rattle.basics.specs.Base.{Bytes, In, if_empty, any_of}
use Rattle.basics.specs.Name.{backup_extension, staging_extension}
use Rattle.basics.specs.Field.{has_tag}
use Rattle.model.specs.Operation.{Op, Write, write, copy_collection, delete_collection}
use Rattle.model.specs.Log.{ops_of}
use Rattle.model.specs.Store.{Store, files}
use Rattle.model.specs.Image.{encode, decode}
use Rattle.model.specs.Record.{has_dir}
use Rattle.answers.specs.Answers.{Answer, refusal, begin, commit, commit_step, recover}
use Rattle.basic_laws.specs.Tests.{and_both}
use Rattle.cut_rule.specs.Demand.{NoExtension, settled, cut_at, cut_recoveries, InPlans}
use Rattle.cut_rule.specs.Kinds.{place_of, Apart, PlainPlace, Suits, AllTrue, Marked, CutGives}
use Rattle.cut_rule.proofs.KindsRule.{kinds_rule, kinds_failing}
use Rattle.cut_rule.proofs.Again.{kinds_again}
use Rattle.handover.specs.Contract.{hands_back}
use Rattle.cda_storage.specs.Refusals.{begin-answers, commit-answers}
use Rattle.answers.specs.Rotate.{current, next, backup, holds_file, rotation, rotate}
use Rattle.rotation.specs.Recorded.{rotation_ops, rotating, rotating-tree, rotation-holds, rotation-logged}
use Rattle.rotation.specs.Rotation.{Rotates, PlainNames, RotationRule, RotationRefused}

-- What is not turned away is commit's.
pub next-stands : (s : Store) → holds_file next s ≡ true → has_dir next s ≡ true
next-stands s h = (and_both (has_dir next s) (if_empty (files next s.tree) false true) h).0

pub rotate-is : (b : Bytes) (s : Store) → Rotates b s → rotate b image_room ≡ commit (rotation b) image_room
unfolding rotate
rotate-is b s R = rw (R.holds, R.begins, R.current_stands, R.next_holds)

abbrev gate : Bytes → Bool → Bool → Bool → Answer
gate b p q r = if p then (if q then (if r then commit (rotation b) image_room else refusal 20) else refusal 19) else begin b image_room

passes : (b : Bytes) (p q r : Bool) → eqb (begin b image_room).number 0 ≡ p → hands_back (gate b p q r).number ≡ true → (p ≡ true) × (q ≡ true) × (r ≡ true)
passes b true true true e c = (refl, refl, refl)
passes b true true false e c = absurd (false≢true c)
passes b true false r e c = absurd (false≢true c)
passes b false q r e c = absurd (none (begin-answers b image_room).numbers)
  where
    none : In (begin b image_room).number (0 ∷ 1 ∷ 2 ∷ 3 ∷ 17 ∷ []) → ⊥
    none (inl i) = false≢true (sym e ∙ ap (λ (n : ℕ). eqb n 0) i)
    none (inr (inl i)) = false≢true (sym (ap hands_back i) ∙ c)
    none (inr (inr (inl i))) = false≢true (sym (ap hands_back i) ∙ c)
    none (inr (inr (inr (inl i)))) = false≢true (sym (ap hands_back i) ∙ c)
    none (inr (inr (inr (inr (inl i))))) = false≢true (sym (ap hands_back i) ∙ c)
    none (inr (inr (inr (inr (inr i))))) = absurd i

pub carried_rotates : (b : Bytes) (s : Store) → decode b ≡ some s → hands_back (rotate b image_room).number ≡ true → Rotates b s
unfolding rotate
carried_rotates b s d c =
    let h = passes b (eqb (begin b image_room).number 0) (has_dir current s) (holds_file next s) refl (rw d at c) in
    record { holds = d; begins = eqb-true (begin b image_room).number 0 h.0; current_stands = h.1; next_holds = h.2 }

-- A name without a dot ends in neither.
pub dotless : (n : Name) → any_of (eqb 0x2E) n ≡ false → NoExtension n
dotless n h = record { no_bak = λ e. off e.front backup_extension e.joined; no_tmp = λ e. off e.front staging_extension e.joined }
  where
    dot : (f x : Name) → any_of (eqb 0x2E) (f ++ 0x2E ∷ x) ≡ true
    dot [] x = refl
    dot (y ∷ f) x = go (eqb 0x2E y) (dot f x)
      where
        go : (t : Bool) {r : Bool} → r ≡ true → (t || r) ≡ true
        go true e = refl
        go false e = e

    off : (f x : Name) → n ≡ f ++ 0x2E ∷ x → ⊥
    off f x e = false≢true (sym h ∙ ap (any_of (eqb 0x2E)) e ∙ dot f x)

-- The three names differ.
longer : (m n : Name) → (length m ≡ length n → ⊥) → m ≡ n → ⊥
longer m n h e = h (ap length e)

pub current≢backup : current ≡ backup → ⊥
unfolding current backup
current≢backup = longer current backup (λ z. omega arith)

pub next≢current : next ≡ current → ⊥
unfolding next current
next≢current = longer next current (λ z. omega arith)

pub next≢backup : next ≡ backup → ⊥
unfolding next backup
next≢backup = longer next backup (λ z. omega arith)

module _ (b : Bytes) (s : Store) (R : Rotates b s) where
  ops : List Op
  ops = rotation_ops (has_dir backup s)

  next-there : has_dir next s ≡ true
  next-there = next-stands s R.next_holds

  pub committed-holds : decode (rotation b) ≡ some (rotating s)
  committed-holds = rotation-holds b s R.holds R.begins R.current_stands next-there

  -- The conditions of the rule.
  module _ (N : PlainNames s.tree) where
    suits : Suits (rotation b) (rotating s) ops
    unfolding current next backup ops
    suits = record {
      holds = committed-holds;
      logged = ap ops_of (rotation-logged b s R.holds R.begins R.current_stands next-there);
      names = λ d f h. N d f (subst (Has (d, f)) (rotating-tree s) h);
      places = places;
      apart = (first, (second, (λ a i. absurd i, tt)));
      collections = λ w i. absurd (no_write w i);
    }
      where
        places : (a : Op) → In a (rotation_ops (has_dir backup s)) → PlainPlace (place_of a)
        places a (inl e) = rw e (dotless backup refl)
        places a (inr (inl e)) = rw e (dotless current refl)
        places a (inr (inr (inl e))) = rw e (dotless next refl)
        places a (inr (inr (inr e))) = absurd e

        first : (a : Op) → In a (copy_collection next current true ∷ delete_collection next ∷ []) → Apart (place_of (copy_collection current backup (has_dir backup s))) (place_of a)
        first a (inl e) = rw e (λ z. current≢backup (sym z))
        first a (inr (inl e)) = rw e (λ z. next≢backup (sym z))
        first a (inr (inr e)) = absurd e

        second : (a : Op) → In a (delete_collection next ∷ []) → Apart (place_of (copy_collection next current true)) (place_of a)
        second a (inl e) = rw e (λ z. next≢current (sym z))
        second a (inr e) = absurd e

        no_write : (w : Write) → In (write w) (rotation_ops (has_dir backup s)) → ⊥
        no_write w (inl e) = let y : ◌≡◌ {A = ℕ} 0 1 = cc e in omega arith
        no_write w (inr (inl e)) = let y : ◌≡◌ {A = ℕ} 0 1 = cc e in omega arith
        no_write w (inr (inr (inl e))) = let y : ◌≡◌ {A = ℕ} 0 1 = cc e in omega arith
        no_write w (inr (inr (inr e))) = e

    marked : Marked ops
    unfolding ops
    marked w (inl e) z = let y : ◌≡◌ {A = ℕ} 0 1 = cc e in omega arith
    marked w (inr (inl e)) z = let y : ◌≡◌ {A = ℕ} 0 1 = cc e in omega arith
    marked w (inr (inr (inl e))) z = let y : ◌≡◌ {A = ℕ} 0 1 = cc e in omega arith
    marked w (inr (inr (inr e))) z = e

    truth : AllTrue (rotating s).tree ops
    unfolding ops
    truth = subst (λ (t : Map). AllTrue t (rotation_ops (has_dir backup s))) (sym (rotating-tree s)) truly
      where
        truly : AllTrue s.tree (rotation_ops (has_dir backup s))
        truly a (inl e) = rw e refl
        truly a (inr (inl e)) = rw e (sym R.current_stands)
        truly a (inr (inr (inl e))) = rw e tt
        truly a (inr (inr (inr e))) = absurd e

    -- What commit does with it: it goes through, or it meets a failing step.
    failing : ((commit (rotation b) image_room).number ≡ 14) ⊎ ((commit (rotation b) image_room).number ≡ 15) →
        (commit (rotation b) image_room).image ≡ encode (settled (rotating s).tree)
    failing c = (kinds_failing (rotation b) (rotating s) ops suits truth marked c).0

    gives : (n out : ℕ) → In (commit (rotation b) image_room).number (0 ∷ 1 ∷ 2 ∷ 4 ∷ 14 ∷ 15 ∷ []) → hands_back (commit (rotation b) image_room).number ≡ true →
        CutGives (rotation b) (rotating s) n out
    gives n out (inl c) h = kinds_rule (rotation b) (rotating s) ops n out suits truth marked c
    gives n out (inr (inl c)) h = absurd (false≢true (sym (ap hands_back c) ∙ h))
    gives n out (inr (inr (inl c))) h = absurd (false≢true (sym (ap hands_back c) ∙ h))
    gives n out (inr (inr (inr (inl c)))) h = absurd (false≢true (sym (ap hands_back c) ∙ h))
    gives n out (inr (inr (inr (inr (inl c))))) h = (kinds_failing (rotation b) (rotating s) ops suits truth marked (inl c)).1 n out
    gives n out (inr (inr (inr (inr (inr (inl c)))))) h = (kinds_failing (rotation b) (rotating s) ops suits truth marked (inr c)).1 n out
    gives n out (inr (inr (inr (inr (inr (inr c)))))) h = absurd c

    again : (n : ℕ) (ms : List ℕ) (out : ℕ) → hands_back (commit (rotation b) image_room).number ≡ true → (commit_step n (rotation b) image_room step_room).number ≡ 0 →
        InPlans ms (cut_at n (rotation b)) → recover (cut_recoveries ms (cut_at n (rotation b))) out ≡ recover (cut_at n (rotation b)) out
    again n ms out h e i =
        kinds_again (rotation b) (rotating s) ops n ms out suits truth marked (λ z. false≢true (sym (ap hands_back z) ∙ h)) e i

pub rotation_rule : RotationRule
rotation_rule b s n ms out d N c e i l =
    let same = again b s R N n ms out committed e i in
    same ∙ gives b s R N n out (commit-answers (rotation b) image_room).numbers committed e (λ z. l (ap (λ (a : Answer). a.number) same ∙ z))
    ∙ λ j. record {
      number = 0;
      image = (if has_tag 0x13 (cut_at n (rotation b)) then encode (settled (rotating-tree s j)) else (sym (rotate-is b s R) j).image);
      step = [];
    }
  where
    R : Rotates b s
    R = carried_rotates b s d c

    committed : hands_back (commit (rotation b) image_room).number ≡ true
    committed = ap (λ (a : Answer). hands_back a.number) (sym (rotate-is b s R)) ∙ c

pub rotation-refused : RotationRefused
rotation-refused b s d N c =
    ap (λ (a : Answer). a.image) (rotate-is b s R)
    ∙ failing b s R N (subst (λ (a : Answer). (a.number ≡ 14) ⊎ (a.number ≡ 15)) (rotate-is b s R) c) ∙ ap (λ (t : Map). encode (settled t)) (rotating-tree s)
  where
    hands : (x : ℕ) → (x ≡ 14) ⊎ (x ≡ 15) → hands_back x ≡ true
    hands x (inl p) = ap hands_back p
    hands x (inr p) = ap hands_back p

    R : Rotates b s
    R = carried_rotates b s d (hands (rotate b image_room).number c)
