-- Extensions, backup names and their originals.
use Rattle.std.specs.Prelude.{◌≡◌, refl, ℕ, ◌+◌, ◌-◌, ◌<◌, Bool, true, false, ◌&&◌, length, take, drop, ltb, eqb, if◌then◌else◌}
use Rattle.std.proofs.Common.{sym, ◌∙◌, ap, arith, length-append, take-append-drop, length-take-le, ltb-true, lt-ltb}
use mathlib.Core.List.{[], ◌∷◌, ◌++◌, cons≢nil}
use Rattle.std.proofs.Math.Option.{Option, none, some}
use Rattle.std.proofs.lemmas.Bool.{false≢true}
use Rattle.std.proofs.Math.Seq.{drop-append_seam}
use Rattle.basics.specs.Order.{Name, Key}
use Rattle.basics.specs.Base.{case_option, is_some, same_bytes}
use Rattle.basics.specs.Name.{last_dot, extension, strip_extension, backup_extension, backup_name, original_name, is_backup, staging_extension, strip_tmp, is_tmp}
use Rattle.basic_laws.specs.MapLaws.{none≢some, some_inj}
use Rattle.basic_laws.specs.Tests.{eqb-eq, same-eq, same_refl, nil≢cons, and_both, and_made}

-- The last dot of a name that ends in a dot and bytes without one.
pub last_dot_append : (a b : Name) → last_dot b ≡ none → last_dot (a ++ 46 ∷ b) ≡ some (a, b)
unfolding last_dot
last_dot_append [] b h = rw h
last_dot_append (x ∷ xs) b h = rw (last_dot_append xs b h)

last_dot-some : (n : Name) (q : Name × Name) → last_dot n ≡ some q → n ≡ q.0 ++ 46 ∷ q.1
unfolding last_dot
last_dot-some [] q p = none≢some p
last_dot-some (y ∷ ys) q p = go (last_dot ys) (λ r e. last_dot-some ys r e) (eqb y 46) refl p
  where
    go : (o : Option (Name × Name)) → ((r : Name × Name) → o ≡ some r → ys ≡ r.0 ++ 46 ∷ r.1) → (t : Bool) → eqb y 46 ≡ t →
        case_option o (if t then some ([], ys) else none) (λ p. some (y ∷ p.0, p.1)) ≡ some q → y ∷ ys ≡ q.0 ++ 46 ∷ q.1
    go none ih true e p = rw (← (some_inj p)) (ap (◌∷ ys) (eqb-eq y 46 e))
    go none ih false e p = none≢some p
    go (some r) ih t e p = rw (← (some_inj p)) (ap (y ∷◌) (ih r refl))

-- A name with an extension has something before its dot, and ends in it.
pub strip_shape : (e n g : Name) → strip_extension e n ≡ some g → (x : ℕ) × (xs : Name) × (g ≡ x ∷ xs) × (n ≡ x ∷ xs ++ 46 ∷ e)
unfolding strip_extension extension
strip_shape e [] g p = none≢some p
strip_shape e (x ∷ xs) g p = go (last_dot xs) (λ r h. last_dot-some xs r h) p
  where
    at : (r : Name × Name) → xs ≡ r.0 ++ 46 ∷ r.1 → (t : Bool) → same_bytes r.1 e ≡ t → (if t then some (x ∷ r.0) else none) ≡ some g → (y : ℕ) × (ys : Name) × (g ≡ y ∷ ys) × (x ∷ xs ≡ y ∷ ys ++ 46 ∷ e)
    at r h true q p = (x, r.0, sym (some_inj p), ap (x ∷◌) (rw (← (same-eq r.1 e q)) h))
    at r h false q p = none≢some p

    go : (o : Option (Name × Name)) → ((r : Name × Name) → o ≡ some r → xs ≡ r.0 ++ 46 ∷ r.1) →
        case_option {A = Name × Name} (case_option o none (λ p. some (x ∷ p.0, p.1))) none (λ p. if same_bytes p.1 e then some p.0 else none) ≡ some g → (y : ℕ) × (ys : Name) × (g ≡ y ∷ ys) × (x ∷ xs ≡ y ∷ ys ++ 46 ∷ e)
    go none h p = none≢some p
    go (some r) h p = at r (h r refl) (same_bytes r.1 e) refl p

pub strip_some : (e n g : Name) → strip_extension e n ≡ some g → n ≡ g ++ 46 ∷ e
strip_some e n g p = let h = strip_shape e n g p in rw h.2 h.3

-- An extension without a dot comes off again.
strip_append : (e f : Name) → last_dot e ≡ none → (f ≡ [] → ⊥) → strip_extension e (f ++ 46 ∷ e) ≡ some f
unfolding strip_extension extension
strip_append e [] d h = absurd (h refl)
strip_append e (x ∷ xs) d h = rw (last_dot_append xs e d, same_refl e)

-- The original of a backup name is the name itself.
pub original-backup : (f : Name) → (f ≡ [] → ⊥) → original_name (backup_name f) ≡ some f
unfolding original_name backup_name
original-backup f h = strip_append backup_extension f (unfold last_dot backup_extension in refl) h

-- What has an original is its backup name, and the original is no empty name.
pub original-some : (n g : Name) → original_name n ≡ some g → n ≡ backup_name g
unfolding original_name backup_name
original-some n g p = strip_some backup_extension n g p

pub original-named : (n g : Name) → original_name n ≡ some g → g ≡ [] → ⊥
unfolding original_name
original-named n g p q = nil≢cons (sym q ∙ (strip_shape backup_extension n g p).2)

pub original-nil : original_name [] ≡ none
unfolding original_name strip_extension extension
original-nil = refl

-- A backup's key is no plain key.
pub key_apart : (d c f n g : Name) → original_name f ≡ none → original_name n ≡ some g → ◌≡◌ {A = Key} (d, f) (c, n) → ⊥
key_apart d c f n g p q e = none≢some (sym p ∙ ap (λ (k : Key). original_name k.1) e ∙ q)

-- A name ends in some bytes, and has others before them.
unfoldable pub ends_in : Name → Name → Bool
ends_in d n = ltb (length d) (length n) && same_bytes (drop (length n - length d) n) d

ends_append : (f d : Name) → (f ≡ [] → ⊥) → ends_in d (f ++ d) ≡ true
unfolding ends_in
ends_append [] d h = absurd (h refl)
ends_append (x ∷ f) d h =
    let l : length (x ∷ f ++ d) ≡ length (x ∷ f) + length d = length-append (x ∷ f) d in
    let k : length (x ∷ f ++ d) - length d ≡ length (x ∷ f) = omega arith in
    and_made _ _ (lt-ltb (length d) (length (x ∷ f ++ d)) (omega arith)) (rw (k, drop-append_seam (x ∷ f) d) (same_refl d))

ends-shape : (d n : Name) → ends_in d n ≡ true → (n ≡ take (length n - length d) n ++ d) × (take (length n - length d) n ≡ [] → ⊥)
unfolding ends_in
ends-shape d n e =
    let h = and_both (ltb (length d) (length n)) _ e in
    let k : ℕ = length n - length d in
    let l : length d < length n = ltb-true (length d) (length n) h.0 in
    let t : length (take k n) ≡ k = length-take-le k n (omega arith) in
    (sym (take-append-drop k n) ∙ ap (take k n ++◌) (same-eq (drop k n) d h.1), λ q. omega (arith, ap length q))

-- A name has an extension without a dot exactly if it ends in a dot and that extension. Before it stands the rest.
pub extension-ends : (e n : Name) → last_dot e ≡ none → strip_extension e n ≡ (if ends_in (0x2E ∷ e) n then some (take (length n - length (0x2E ∷ e)) n) else none)
extension-ends e n d = go (ends_in (0x2E ∷ e) n) refl
  where
    go : (b : Bool) → ends_in (0x2E ∷ e) n ≡ b → strip_extension e n ≡ (if b then some (take (length n - length (0x2E ∷ e)) n) else none)
    go true p = let s = ends-shape (0x2E ∷ e) n p in ap (strip_extension e) s.0 ∙ strip_append e (take (length n - length (0x2E ∷ e)) n) d s.1
    go false p = at (strip_extension e n) refl
      where
        at : (o : Option Name) → strip_extension e n ≡ o → o ≡ none
        at none q = refl
        at (some f) q =
            let h = strip_shape e n f q in
            absurd (false≢true (sym p ∙ rw h.3 (ends_append (h.0 ∷ h.1) (0x2E ∷ e) cons≢nil)))

-- 01, Corners, paths.rs: "a.bak" is a backup, ".bak" isn't: at least five bytes, of which the last four are ".bak". The same for ".tmp".
pub backup-test : (n : Name) → original_name n ≡ (if ends_in (0x2E ∷ 0x62 ∷ 0x61 ∷ 0x6B ∷ []) n then some (take (length n - 4) n) else none)
unfolding original_name backup_extension
backup-test n = extension-ends backup_extension n (unfold last_dot in refl)

pub tmp_test : (n : Name) → strip_tmp n ≡ (if ends_in (0x2E ∷ 0x74 ∷ 0x6D ∷ 0x70 ∷ []) n then some (take (length n - 4) n) else none)
unfolding strip_tmp staging_extension
tmp_test n = extension-ends staging_extension n (unfold last_dot in refl)

-- Whether there is an answer: the test that gives it.
test-some : {A : Type 0} (t : Bool) (a : A) → is_some (if t then some a else none) ≡ t
test-some true a = refl
test-some false a = refl

pub backup-ends : (n : Name) → is_backup n ≡ ends_in (0x2E ∷ 0x62 ∷ 0x61 ∷ 0x6B ∷ []) n
backup-ends n = ap is_some (backup-test n) ∙ test-some (ends_in (0x2E ∷ 0x62 ∷ 0x61 ∷ 0x6B ∷ []) n) _

pub tmp_ends : (n : Name) → is_tmp n ≡ ends_in (0x2E ∷ 0x74 ∷ 0x6D ∷ 0x70 ∷ []) n
tmp_ends n = ap is_some (tmp_test n) ∙ test-some (ends_in (0x2E ∷ 0x74 ∷ 0x6D ∷ 0x70 ∷ []) n) _
