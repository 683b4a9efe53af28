-- Backup names of spans, and their originals.
use Rattle.std.specs.Prelude.{Some}
use mathlib.Core.Path.{◌≡◌, refl, sym, ap, ◌∙◌}
use mathlib.Core.List.{[], ◌∷◌, ◌++◌, append-nil}
use mathlib.Core.Bool.{true, false, ◌&&◌, and-true, and-false}
use mathlib.Core.Option.{none, some}
use Prim.Native.Nat.{ℕ, suc, ◌+◌, ◌-◌, ◌≤◌, ◌<◌, compare, Ordering}
use native.Mathlib.Numerals.{add-one}
use native.Mathlib.Omega.{arith}
use lib.Dec.{ltb, eqb, compare_is_eq}
use lib.ListN.{length, get_or, take, drop, length-append, drop_of_length-le}
use lib.Seq.{drop-cons, drop-append_seam, take-take, take-append_seam}
use borrow.Author.Tests.{ltb-true, lt-ltb, le-ltb}
use Rattle.std.proofs.lemmas.List.{nil_from_length}
use Rattle.basics.specs.Limits.{name_limit}
use Rattle.basics.specs.Order.{case_cmp, then_cmp, of_ordering, Name, cmp_name}
use Rattle.basics.specs.Base.{Bytes, same_bytes}
use Rattle.basics.specs.Name.{backup_name, backup_extension, original_name, is_backup, staging_extension, is_tmp}
use Rattle.basic_laws.specs.NameLaws.{ends_in, backup-test, backup-ends, tmp_ends}
use Rattle.basic_laws.specs.Tests.{and_both, same_refl}
use Rattle.spans.specs.Spans.{backups, name_of, length_of, Sound, Names, Original}
use Rattle.spans.specs.declared.NameRef.{NameRef}
use Rattle.spans.proofs.Parts.{dot_bak, length-backup, length-name}

module _ {src : Bytes} {r : NameRef} (s : Sound src r) where
  -- One ".bak" more.
  pub one_more : length_of r + 4 ≤ name_limit → Names src (record { start = r.start; len = r.len; baks = r.baks + 1 }) (backup_name (name_of src r))
  unfolding name_of
  one_more h = record { sound = record { inside = s.inside; room = omega arith }; same = rw (add-one r.baks) }

  pub too_long : name_limit < length_of r + 4 → name_limit < length (backup_name (name_of src r))
  too_long h = omega (arith, length-name s, length-backup (name_of src r))

-- `ends_in`: fewer than five bytes, or the four bytes that are read.
same-cons : (a b : ℕ) (l m : Name) → same_bytes (a ∷ l) (b ∷ m) ≡ (eqb a b && same_bytes l m)
same-cons a b l m = go (compare a b)
  where
    go : (o : Ordering) → case_cmp (then_cmp (of_ordering o) (cmp_name l m)) false true false ≡ (compare_is_eq o && same_bytes l m)
    go Ordering.lt = refl
    go Ordering.eq = refl
    go Ordering.gt = refl

same-four : (a b c d w x y z : ℕ) → same_bytes (a ∷ b ∷ c ∷ d ∷ []) (w ∷ x ∷ y ∷ z ∷ []) ≡ (eqb a w && (eqb b x && (eqb c y && eqb d z)))
same-four a b c d w x y z =
    same-cons a w (b ∷ c ∷ d ∷ []) (x ∷ y ∷ z ∷ []) ∙ ap (eqb a w &&◌) (same-cons b x (c ∷ d ∷ []) (y ∷ z ∷ []) ∙ ap (eqb b x &&◌) (same-cons c y (d ∷ []) (z ∷ []) ∙ ap (eqb c y &&◌) (same-cons d z [] [] ∙ and-true (eqb d z))))

four-behind : (n : Name) (k i j l : ℕ) → length n ≡ k + 4 → i ≡ suc k → j ≡ suc (suc k) → l ≡ suc (suc (suc k)) → drop k n ≡ get_or n k 0 ∷ get_or n i 0 ∷ get_or n j 0 ∷ get_or n l 0 ∷ []
four-behind n k i j l e p q r =
    let a : k < length n = omega arith in
    let b : suc k < length n = omega arith in
    let c : suc (suc k) < length n = omega arith in
    let d : suc (suc (suc k)) < length n = omega arith in
    let z : length n ≤ suc (suc (suc (suc k))) = omega arith in
    rw (p, q, r, drop-cons n k 0, drop-cons n (suc k) 0, drop-cons n (suc (suc k)) 0, drop-cons n (suc (suc (suc k))) 0, drop_of_length-le n z)

module _ {src : Bytes} {r : NameRef} (s : Sound src r) (x y z : ℕ) where
  pub short : length_of r ≤ 4 → false ≡ ends_in (0x2E ∷ x ∷ y ∷ z ∷ []) (name_of src r)
  unfolding ends_in
  short h = sym (rw (le-ltb 4 (length (name_of src r)) (omega (arith, length-name s))))

  pub long : {a b c d : ℕ} (n : ℕ) → n ≡ length_of r → 4 < n
      → a ≡ get_or (name_of src r) (n - 4) 0 → b ≡ get_or (name_of src r) (n - 3) 0 → c ≡ get_or (name_of src r) (n - 2) 0 → d ≡ get_or (name_of src r) (n - 1) 0
      → (eqb a 0x2E && (eqb b x && (eqb c y && eqb d z))) ≡ ends_in (0x2E ∷ x ∷ y ∷ z ∷ []) (name_of src r)
  unfolding ends_in
  long {a} {b} {c} {d} n q h p₁ p₂ p₃ p₄ =
      let e : length (name_of src r) ≡ n = length-name s ∙ sym q in
      let four : drop (n - 4) (name_of src r) ≡ a ∷ b ∷ c ∷ d ∷ [] = four-behind (name_of src r) (n - 4) (n - 3) (n - 2) (n - 1) (omega arith) (omega arith) (omega arith) (omega arith) ∙ λ i. sym p₁ i ∷ sym p₂ i ∷ sym p₃ i ∷ sym p₄ i ∷ [] in
      rw (e, lt-ltb 4 n h) (sym (ap (λ (l : Name). same_bytes l (0x2E ∷ x ∷ y ∷ z ∷ [])) four ∙ same-four a b c d 0x2E x y z))

-- A name with ".bak" behind it ends in that; one without is its span.
last-four : (n : Name) → drop (length (backup_name n) - 4) (backup_name n) ≡ dot_bak
unfolding backup_name backup_extension
last-four n =
    let e : length (backup_name n) - 4 ≡ length n = omega (arith, length-backup n) in
    rw e (drop-append_seam n dot_bak)

module _ {src : Bytes} {r : NameRef} (s : Sound src r) where
  behind-ends : (d : Name) → length d ≡ 4 → 0 < r.baks → ends_in d (name_of src r) ≡ (ltb 4 (length_of r) && same_bytes dot_bak d)
  unfolding ends_in name_of
  behind-ends d e b =
      let k : r.baks ≡ suc (r.baks - 1) = omega arith in
      let f : drop (length (name_of src r) - 4) (name_of src r) ≡ dot_bak = ap (λ (j : ℕ). drop (length (backups j (take r.len (drop r.start src))) - 4) (backups j (take r.len (drop r.start src)))) k ∙ last-four (backups (r.baks - 1) (take r.len (drop r.start src))) in
      rw (e, f, length-name s)

  pub behind_backup : (n : ℕ) → n ≡ length_of r → 0 < r.baks → ltb 4 n ≡ is_backup (name_of src r)
  behind_backup n e b = sym (backup-ends (name_of src r) ∙ behind-ends dot_bak refl b ∙ rw (e, same_refl dot_bak) (and-true (ltb 4 (length_of r))))

  pub behind-no_tmp : 0 < r.baks → false ≡ is_tmp (name_of src r)
  unfolding staging_extension
  behind-no_tmp b = sym (tmp_ends (name_of src r) ∙ behind-ends (0x2E ∷ staging_extension) refl b ∙ and-false (ltb 4 (length_of r)))

  pub only_span : (a b : Bytes) → a ++ b ≡ name_of src r → length a ≡ r.len → r.baks ≡ 0 → a ≡ name_of src r
  only_span a b e l z = sym (append-nil a) ∙ ap (a ++◌) (sym (nil_from_length b (omega (arith, ap length e, length-append a b, length-name s)))) ∙ e

-- What `is_backup` found.
pub no-original : (n : Name) → is_backup n ≡ false → original_name n ≡ none
no-original n h = backup-test n ∙ rw (sym (backup-ends n) ∙ h)

-- A backup has at least five bytes, and its original all but the last four.
pub backup-long : (n : Name) → is_backup n ≡ true → 5 ≤ length n
unfolding ends_in
backup-long n h = ltb-true 4 (length n) (and_both (ltb 4 (length n)) _ (sym (backup-ends n) ∙ h)).0

original-take : (n : Name) → is_backup n ≡ true → original_name n ≡ some (take (length n - 4) n)
original-take n h = backup-test n ∙ rw (sym (backup-ends n) ∙ h)

take-backup : (n : Name) → take (length (backup_name n) - 4) (backup_name n) ≡ n
unfolding backup_name backup_extension
take-backup n =
    let e : length (backup_name n) - 4 ≡ length n = omega (arith, length-backup n) in
    rw e (take-append_seam n dot_bak)

module _ {src : Bytes} {r : NameRef} (s : Sound src r) (h : is_backup (name_of src r) ≡ true) where
  -- One ".bak" less.
  pub one_less : 0 < r.baks → Original src r (Some (record { start = r.start; len = r.len; baks = r.baks - 1 }))
  unfolding name_of
  one_less b =
      let e : r.baks ≡ suc (r.baks - 1) = omega arith in (
        record { inside = s.inside; room = omega (arith, s.room) },
        original-take (name_of src r) h ∙ ap some (ap (λ (k : ℕ). take (length (backups k (take r.len (drop r.start src))) - 4) (backups k (take r.len (drop r.start src)))) e ∙ take-backup (backups (r.baks - 1) (take r.len (drop r.start src)))),
      )

  pub enough : r.baks ≡ 0 → 4 ≤ r.len
  enough e = omega (arith, backup-long (name_of src r) h, length-name s)

  -- Four bytes of the span less.
  pub shorter : r.baks ≡ 0 → Original src r (Some (record { start = r.start; len = r.len - 4; baks = r.baks }))
  unfolding name_of
  shorter e =
      let l : length (name_of src r) ≡ r.len = length-name s ∙ omega arith in
      let part : name_of src r ≡ take r.len (drop r.start src) = rw e in (
        record { inside = omega (arith, s.inside); room = omega (arith, s.room) },
        original-take (name_of src r) h ∙ ap some (rw (l, part, e) (take-take (r.len - 4) r.len (drop r.start src) (omega arith))),
      )
