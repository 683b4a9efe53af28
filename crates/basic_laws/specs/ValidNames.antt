-- Valid names, and the names that restoring their backups makes.
use Rattle.std.specs.Prelude.{◌≡◌, refl, ◌+◌, ◌≤◌, List, [], ◌∷◌, Bool, true, false, not, ◌&&◌, ◌⊎◌, length, leb}
use Rattle.std.proofs.Common.{sym, ◌∙◌, length-append}
use Rattle.std.proofs.Math.Path.{ap}
use native.Mathlib.Omega.{arith}
use Rattle.std.proofs.Math.Option.{Option, none, some}
use Rattle.std.proofs.lemmas.Bool.{false≢true}
use Rattle.std.proofs.Math.Logic.{inl, inr}
use Rattle.basics.specs.Limits.{name_limit}
use Rattle.basics.specs.Order.{Name}
use Rattle.basics.specs.Base.{all_of, is_in, In}
use Rattle.basics.specs.Name.{valid_name, is_name_byte, refused_names, last_dot, extension, strip_extension, backup_extension, backup_name, original_name}
use Rattle.basic_laws.specs.MapLaws.{none≢some, some_inj}
use Rattle.basic_laws.specs.Tests.{and_both, and_made, leb_le, le-leb, not-true, true-not, in_of, of_in, all-of_append, all-of-front, nil≢cons}
use Rattle.basic_laws.specs.NameLaws.{original-backup, original-some, original-named}

-- 1 to 64 bytes.
abbrev pub Sized : Name → Type 0
Sized n = (1 ≤ length n) × (length n ≤ 64)

abbrev pub Valid : Name → Type 0
Valid n = valid_name n ≡ true

-- "..bak" and "...bak", which the check refuses.
abbrev pub dot_bak : Name
dot_bak = 0x2E ∷ 0x2E ∷ backup_extension

abbrev pub dots_bak : Name
dots_bak = 0x2E ∷ 0x2E ∷ 0x2E ∷ backup_extension

abbrev pub DotBak : Name → Type 0
DotBak n = (n ≡ dot_bak) ⊎ (n ≡ dots_bak)

-- "..bak.bak" and "...bak.bak", the two valid backups whose originals are refused.
abbrev pub DotBakBak : Name → Type 0
DotBakBak n = (n ≡ backup_name dot_bak) ⊎ (n ≡ backup_name dots_bak)

-- The names that a store can have after a restore: the valid ones and these two.
abbrev pub Restored : Name → Type 0
Restored n = Valid n ⊎ DotBak n

-- The valid names whose originals are valid too.
abbrev pub Restorable : Name → Type 0
Restorable n = Valid n × (DotBakBak n → ⊥)

-- What is asked of a property of a store's names: 1 to 64 bytes, and a backup name that is not too long has it too.
pub record Naming (N : Name → Type 0) : Type 0 where
  pub sized : (n : Name) → N n → Sized n
  pub backups : (n : Name) → N n → length (backup_name n) ≤ 64 → N (backup_name n)

-- Where all names of a store have M, all have N after a restore.
pub record Restores (M N : Name → Type 0) : Type 0 where
  pub kept : (n : Name) → M n → N n
  pub original : (n g : Name) → M n → original_name n ≡ some g → N g

pub named : (n : Name) → Sized n → n ≡ [] → ⊥
named n v e = let h = v.0 in let z : length n ≡ 0 = ap length e in omega arith

-- What the check says, part by part.
abbrev dot : Name
dot = 0x2E ∷ []

abbrev dots : Name
dots = 0x2E ∷ 0x2E ∷ []

abbrev refusals : List Name
refusals = dot ∷ dots ∷ dot_bak ∷ dots_bak ∷ []

record Parts (n : Name) : Type 0 where
  sized : Sized n
  bytes : all_of is_name_byte n ≡ true
  allowed : In n refusals → ⊥

parts : (n : Name) → Valid n → Parts n
unfolding valid_name refused_names
parts n v =
    let a = and_both (leb 1 (length n) && leb (length n) name_limit && all_of is_name_byte n) (not (is_in n refused_names)) v in
    let b = and_both (leb 1 (length n) && leb (length n) name_limit) (all_of is_name_byte n) a.0 in
    let c = and_both (leb 1 (length n)) (leb (length n) name_limit) b.0 in
    record { sized = (leb_le 1 (length n) c.0, leb_le (length n) 64 c.1); bytes = b.1; allowed = λ i. true-not (is_in n refused_names) a.1 (of_in n refused_names i) }

of_parts : (n : Name) → Parts n → Valid n
unfolding valid_name refused_names
of_parts n p =
    and_made (leb 1 (length n) && leb (length n) name_limit && all_of is_name_byte n) (not (is_in n refused_names))
    (and_made (leb 1 (length n) && leb (length n) name_limit) (all_of is_name_byte n) (and_made (leb 1 (length n)) (leb (length n) name_limit) (le-leb 1 (length n) p.sized.0) (le-leb (length n) 64 p.sized.1)) p.bytes)
    (not-true (is_in n refused_names) (λ e. p.allowed (in_of n refused_names e)))

pub valid-length : (n : Name) → Valid n → Sized n
valid-length n v = (parts n v).sized

pub valid-bytes : (n : Name) → Valid n → all_of is_name_byte n ≡ true
valid-bytes n v = (parts n v).bytes

pub valid-named : (n : Name) → Valid n → n ≡ [] → ⊥
valid-named n v = named n (valid-length n v)

pub valid-no-dot : (n : Name) → Valid n → DotBak n → ⊥
valid-no-dot n v (inl e) = (parts n v).allowed (inr (inr (inl e)))
valid-no-dot n v (inr e) = (parts n v).allowed (inr (inr (inr (inl e))))

-- The originals of the four refused names.
dot-plain : original_name dot ≡ none
unfolding original_name strip_extension extension last_dot
dot-plain = refl

dots-plain : original_name dots ≡ none
unfolding original_name strip_extension extension last_dot backup_extension
dots-plain = refl

dot-original : original_name dot_bak ≡ some dot
unfolding original_name strip_extension extension last_dot backup_extension
dot-original = refl

dots-original : original_name dots_bak ≡ some dots
unfolding original_name strip_extension extension last_dot backup_extension
dots-original = refl

-- The length and the bytes of a backup name.
backup-length : (k : Name) → length (backup_name k) ≡ length k + 4
unfolding backup_name backup_extension
backup-length k = length-append k (0x2E ∷ backup_extension)

pub backup-named : (k : Name) → backup_name k ≡ [] → ⊥
backup-named k e = let h = backup-length k in let z : length (backup_name k) ≡ 0 = ap length e in omega arith

pub backup-apart : (k : Name) → k ≡ backup_name k → ⊥
backup-apart k e = let h = backup-length k in let z : length k ≡ length (backup_name k) = ap length e in omega arith

backup-bytes : (k : Name) → all_of is_name_byte k ≡ true → all_of is_name_byte (backup_name k) ≡ true
unfolding backup_name
backup-bytes k h = all-of_append is_name_byte k (0x2E ∷ backup_extension) h (unfold is_name_byte backup_extension in refl)

front_bytes : (k : Name) → all_of is_name_byte (backup_name k) ≡ true → all_of is_name_byte k ≡ true
unfolding backup_name
front_bytes k h = all-of-front is_name_byte k (0x2E ∷ backup_extension) h

-- A backup name that is not too long is valid.
pub valid-backup : (k : Name) → Valid k → length (backup_name k) ≤ 64 → Valid (backup_name k)
valid-backup k v l = of_parts (backup_name k) record { sized = ((let h = backup-length k in omega arith), l); bytes = backup-bytes k (valid-bytes k v); allowed = allowed }
  where
    of : (r : Name) (q : Option Name) → original_name r ≡ q → backup_name k ≡ r → q ≡ some k
    of r q p e = sym p ∙ ap original_name (sym e) ∙ original-backup k (valid-named k v)

    allowed : In (backup_name k) refusals → ⊥
    allowed (inl e) = none≢some (of dot none dot-plain e)
    allowed (inr (inl e)) = none≢some (of dots none dots-plain e)
    allowed (inr (inr (inl e))) = (parts k v).allowed (inl (sym (some_inj (of dot_bak (some dot) dot-original e))))
    allowed (inr (inr (inr (inl e)))) = (parts k v).allowed (inr (inl (sym (some_inj (of dots_bak (some dots) dots-original e)))))
    allowed (inr (inr (inr (inr e)))) = e

-- The original of a valid backup is valid, or one of the two.
pub original_restored : (n g : Name) → Valid n → original_name n ≡ some g → Restored g
original_restored n g v e = go (is_in g refusals) refl
  where
    b : n ≡ backup_name g
    b = original-some n g e

    plain : (In g refusals → ⊥) → Valid g
    plain h = of_parts g record {
      sized = (nonempty g (original-named n g e), (let l = (valid-length n v).1 in let m : length n ≡ length (backup_name g) = ap length b in let k = backup-length g in omega arith));
      bytes = front_bytes g (rw b at (valid-bytes n v));
      allowed = h;
    }
      where
        nonempty : (l : Name) → (l ≡ [] → ⊥) → 1 ≤ length l
        nonempty [] h = absurd (h refl)
        nonempty (x ∷ l) h = omega arith

    two : In g refusals → Restored g
    two (inl z) = absurd (valid-no-dot n v (inl (b ∙ ap backup_name z ∙ unfold backup_name in refl)))
    two (inr (inl z)) = absurd (valid-no-dot n v (inr (b ∙ ap backup_name z ∙ unfold backup_name in refl)))
    two (inr (inr (inl z))) = inr (inl z)
    two (inr (inr (inr (inl z)))) = inr (inr z)
    two (inr (inr (inr (inr z)))) = absurd z

    go : (t : Bool) → is_in g refusals ≡ t → Restored g
    go true p = two (in_of g refusals p)
    go false p = inl (plain (λ i. false≢true (sym p ∙ of_in g refusals i)))

-- It is one of the two only where the backup is one of the other two.
pub original-valid : (n g : Name) → Restorable n → original_name n ≡ some g → Valid g
original-valid n g v e = go (original_restored n g v.0 e)
  where
    go : Restored g → Valid g
    go (inl w) = w
    go (inr (inl z)) = absurd (v.1 (inl (original-some n g e ∙ ap backup_name z)))
    go (inr (inr z)) = absurd (v.1 (inr (original-some n g e ∙ ap backup_name z)))

-- The three properties.
pub valid_naming : Naming Valid
valid_naming = record { sized = valid-length; backups = valid-backup }

pub restored_naming : Naming Restored
restored_naming = record { sized = sized; backups = backups }
  where
    sized : (n : Name) → Restored n → Sized n
    sized n (inl v) = valid-length n v
    sized n (inr (inl e)) = rw e (unfold backup_extension in (omega arith, omega arith))
    sized n (inr (inr e)) = rw e (unfold backup_extension in (omega arith, omega arith))

    backups : (n : Name) → Restored n → length (backup_name n) ≤ 64 → Restored (backup_name n)
    backups n (inl v) l = inl (valid-backup n v l)
    backups n (inr (inl e)) l = inl (rw e (unfold valid_name is_name_byte refused_names backup_name backup_extension in refl))
    backups n (inr (inr e)) l = inl (rw e (unfold valid_name is_name_byte refused_names backup_name backup_extension in refl))

pub restorable_naming : Naming Restorable
restorable_naming = record { sized = λ n v. valid-length n v.0; backups = λ n v l. (valid-backup n v.0 l, λ z. twice n v.0 z) }
  where
    inj : (n r : Name) → Valid n → (r ≡ [] → ⊥) → backup_name n ≡ backup_name r → n ≡ r
    inj n r v h e = some_inj (sym (original-backup n (valid-named n v)) ∙ ap original_name e ∙ original-backup r h)

    twice : (n : Name) → Valid n → DotBakBak (backup_name n) → ⊥
    twice n v (inl e) = valid-no-dot n v (inl (inj n dot_bak v (λ z. nil≢cons (sym z)) e))
    twice n v (inr e) = valid-no-dot n v (inr (inj n dots_bak v (λ z. nil≢cons (sym z)) e))

pub valid_restores : Restores Valid Restored
valid_restores = record { kept = λ n v. inl v; original = original_restored }

pub restorable_restores : Restores Restorable Valid
restorable_restores = record { kept = λ n v. v.0; original = original-valid }
