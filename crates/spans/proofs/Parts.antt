-- The length and the bytes of what a `NameRef` stands for.
use mathlib.Core.Path.{◌≡◌, refl, sym, ap, ◌∙◌}
use mathlib.Core.List.{[], ◌∷◌, ◌++◌, append_assoc, append-nil}
use mathlib.Core.Bool.{true, ◌&&◌}
use Prim.Native.Nat.{ℕ, zero, suc, ◌+◌, ◌*◌, ◌-◌, ◌≤◌, ◌<◌}
use native.Mathlib.Omega.{arith}
use lib.ListN.{length, take, drop, get_or, length-append, length-drop, get_or-append}
use lib.Dec.{eqb}
use lib.Seq.{length-take-le, take_all, take-take, take-append-le, drop-append-le, drop-append_seam, get_or-take, get_or-drop, drop-drop}
use borrow.Author.Tests.{eqb-true}
use Rattle.basics.specs.Order.{Name}
use Rattle.basics.specs.Base.{Bytes, same_bytes}
use Rattle.basics.specs.Name.{backup_name, backup_extension}
use Rattle.basic_laws.specs.ListLaws.{drop-take}
use Rattle.basic_laws.specs.Tests.{and_both, same_refl}
use Rattle.spans.specs.Spans.{backups, name_of, length_of, Sound, Names}
use Rattle.spans.specs.declared.NameRef.{NameRef}

abbrev pub dot_bak : Name
dot_bak = 0x2E ∷ 0x62 ∷ 0x61 ∷ 0x6B ∷ []

pub length-backup : (n : Name) → length (backup_name n) ≡ length n + 4
unfolding backup_name backup_extension
length-backup n = length-append n dot_bak

length-backups : (k : ℕ) (n : Name) → length (backups k n) ≡ length n + k * 4
length-backups zero n = omega arith
length-backups (suc k) n = length-backup (backups k n) ∙ omega (arith, length-backups k n)

first-bytes : (k : ℕ) (n : Name) (i : ℕ) → i < length n → get_or (backups k n) i 0 ≡ get_or n i 0
unfolding backup_name backup_extension
first-bytes zero n i h = refl
first-bytes (suc k) n i h =
    let l : length (backups k n) ≡ length n + k * 4 = length-backups k n in
    get_or-append (backups k n) dot_bak 0 i (omega arith) ∙ first-bytes k n i h

take-backups : (k : ℕ) (n : Name) (i : ℕ) → i ≤ length n → take i (backups k n) ≡ take i n
unfolding backup_name backup_extension
take-backups zero n i h = refl
take-backups (suc k) n i h = take-append-le i (backups k n) dot_bak (omega (arith, length-backups k n)) ∙ take-backups k n i h

-- What stands behind a name, as bytes of its own: the first bytes of the longest.
behind : (k : ℕ) (n : Name) → backups k n ≡ n ++ backups k []
unfolding backup_name backup_extension
behind zero n = sym (append-nil n)
behind (suc k) n = ap (λ (l : Name). backup_name l) (behind k n) ∙ append_assoc n (backups k []) dot_bak

again : (j k : ℕ) (n : Name) → backups (j + k) n ≡ backups j (backups k n)
again zero k n =
    let z : 0 + k ≡ k = omega arith in
    ap (λ (m : ℕ). backups m n) z
again (suc j) k n =
    let z : suc j + k ≡ suc (j + k) = omega arith in
    ap (λ (m : ℕ). backups m n) z ∙ ap backup_name (again j k n)

pub taken : (n k : ℕ) → k ≡ n → n ≤ 16 → take (k * 4) (backups 16 []) ≡ backups n []
taken n k e h =
    let z : 16 ≡ 16 - n + n = omega arith in
    let l : length (backups n []) ≡ n * 4 = length-backups n [] ∙ omega arith in
    rw e (ap (λ (m : ℕ). take (n * 4) (backups m [])) z ∙ ap (take (n * 4)) (again (16 - n) n []) ∙ take-backups (16 - n) (backups n []) (n * 4) (omega arith) ∙ take_all (n * 4) (backups n []) (omega arith))

module _ {src : Bytes} {r : NameRef} (s : Sound src r) where
  span : length (take r.len (drop r.start src)) ≡ r.len
  span =
      let e : length (drop r.start src) ≡ length src - r.start = length-drop r.start src in
      let h : r.start + r.len ≤ length src = s.inside in
      length-take-le r.len (drop r.start src) (omega arith)

  pub length-name : length (name_of src r) ≡ length_of r
  unfolding name_of
  length-name = length-backups r.baks (take r.len (drop r.start src)) ∙ omega (arith, span)

  pub in_span : (p i : ℕ) → p ≡ r.start → i < r.len → get_or src (p + i) 0 ≡ get_or (name_of src r) i 0
  unfolding name_of
  in_span p i e h =
      let l : length (take r.len (drop r.start src)) ≡ r.len = span in
      rw e (sym (first-bytes r.baks (take r.len (drop r.start src)) i (omega arith) ∙ get_or-take r.len (drop r.start src) i 0 h ∙ get_or-drop r.start src i 0))

  -- The q bytes from p on are the span, and b what stands behind it.
  module _ (p q : ℕ) (b : Bytes) (e : p ≡ r.start) (f : q ≡ r.len) (h : b ≡ backups r.baks []) where
    cut : take (p + q - p) (drop p src) ≡ take r.len (drop r.start src)
    cut = let z : r.start + r.len - r.start ≡ r.len = omega arith in rw (e, f, z)

    pub both : take (p + q - p) (drop p src) ++ b ≡ name_of src r
    unfolding name_of
    both = rw (cut, h) (sym (behind r.baks (take r.len (drop r.start src))))

    pub both-lengths : (length (take (p + q - p) (drop p src)) ≡ r.len) × (length b ≡ r.baks * 4)
    both-lengths = (ap length cut ∙ span, ap length h ∙ length-backups r.baks [] ∙ omega arith)

  -- What is left of both behind their first bytes.
  pub left : (a b : Bytes) (at : ℕ) → a ++ b ≡ name_of src r → length a ≡ r.len → at ≤ r.len → take (length a - at) (drop at a) ++ b ≡ drop at (name_of src r)
  left a b at e l h = rw (take_all (length a - at) (drop at a) (omega (arith, length-drop at a))) (sym (drop-append-le at a b (omega arith)) ∙ ap (drop at) e)

  -- What stands behind the span.
  pub past : (at : ℕ) → at ≡ r.len → drop at (name_of src r) ≡ backups r.baks []
  unfolding name_of
  past at e =
      let l : at ≡ length (take r.len (drop r.start src)) = e ∙ sym span in
      rw (behind r.baks (take r.len (drop r.start src)), l) (drop-append_seam (take r.len (drop r.start src)) (backups r.baks []))

  front : (i : ℕ) → i ≤ r.len → take i (name_of src r) ≡ take i (drop r.start src)
  unfolding name_of
  front i h = take-backups r.baks (take r.len (drop r.start src)) i (omega (arith, span)) ∙ take-take i r.len (drop r.start src) h

  -- A part of the name that lies in the span.
  pub part-in_span : (p i k : ℕ) → p ≡ r.start → i + k ≤ r.len → take k (drop i (name_of src r)) ≡ take k (drop (p + i) src)
  part-in_span p i k e h =
      let z : i + k - i ≡ k = omega arith in
      let cut : (l : Bytes) → drop i (take (i + k) l) ≡ take k (drop i l) = λ l. rw z at (drop-take i (i + k) l) in
      rw (e, ← (drop-drop i r.start src)) (sym (cut (name_of src r)) ∙ ap (drop i) (front (i + k) h) ∙ cut (drop r.start src))

-- What stands at one place is the same name.
pub same_place : (src : Bytes) (a b : NameRef) → (eqb a.start b.start && (eqb a.len b.len && eqb a.baks b.baks)) ≡ true → same_bytes (name_of src a) (name_of src b) ≡ true
unfolding name_of
same_place src a b h =
    let p = and_both (eqb a.start b.start) (eqb a.len b.len && eqb a.baks b.baks) h in
    let q = and_both (eqb a.len b.len) (eqb a.baks b.baks) p.1 in
    rw (eqb-true a.start b.start p.0, eqb-true a.len b.len q.0, eqb-true a.baks b.baks q.1) (same_refl (name_of src b))

-- The empty name, at any bytes.
pub empty-name : (src : Bytes) → Names src (record { start = 0; len = 0; baks = 0 }) []
unfolding name_of
empty-name src = record { sound = record { inside = omega arith; room = omega arith }; same = refl }
