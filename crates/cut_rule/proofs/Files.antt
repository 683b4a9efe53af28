-- The files of one directory, by name, while what was done can be undone: they differ from the old ones only at plain names, each with its old number in a
-- backup, or new at a name of R.
use Rattle.std.specs.Prelude.{◌≡◌, refl, ℕ, [], ◌⊎◌}
use Rattle.std.proofs.Common.{sym, ◌∙◌, ap, subst, inl, inr}
use Rattle.std.proofs.Math.Option.{Option, none, some}
use Rattle.basics.specs.Order.{Name, Key}
use Rattle.basics.specs.Name.{backup_name, original_name}
use Rattle.basic_laws.specs.MapLaws.{none≢some, some_inj}
use Rattle.basic_laws.specs.NameLaws.{original-backup}
use Rattle.laws.specs.StoreLaws.{name_dec}

abbrev pub Contents : Type 0
Contents = Name → Option ℕ

abbrev pub Stands : Option ℕ → Type 0
Stands q = (x : ℕ) × (q ≡ some x)

-- A plain name is as it was; or it is new; or its old number stands under its backup's name.
pub data FileState (o : Contents) (R : Name → Type 0) (t : Contents) (f : Name) : Type 0 where
  kept : t f ≡ o f → FileState o R t f
  new : R f → o f ≡ none → FileState o R t f
  backed : (f ≡ [] → ⊥) → Stands (o f) → t (backup_name f) ≡ o f → FileState o R t f

-- A backup n of g is missing, or holds the old number of a plain name.
abbrev pub BackupState : Contents → Contents → Name → Name → Type 0
BackupState o t n g = (t n ≡ none) ⊎ ((original_name g ≡ none) × (t n ≡ o g))

pub record Files (o : Contents) (R : Name → Type 0) (t : Contents) : Type 0 where
  pub plain : (f : Name) → original_name f ≡ none → FileState o R t f
  pub backups : (n g : Name) → original_name n ≡ some g → BackupState o t n g

-- Equal keys of a tree have equal directories and files.
pub dir-eq : {j k : Key} → j ≡ k → j.0 ≡ k.0
dir-eq e = ap (λ (j : Key). j.0) e

pub file-eq : {j k : Key} → j ≡ k → j.1 ≡ k.1
file-eq e = ap (λ (j : Key). j.1) e

-- A plain name is no backup.
pub name-apart : {f n g : Name} → original_name f ≡ none → original_name n ≡ some g → f ≡ n → ⊥
name-apart p q e = none≢some (sym p ∙ ap original_name e ∙ q)

-- Equal contents, with more that may be new; the old contents themselves.
pub files-like : {o : Contents} {R S : Name → Type 0} {t v : Contents} → ((f : Name) → v f ≡ t f) → ((f : Name) → R f → S f) → Files o R t → Files o S v
files-like {o} {R} {S} {t} {v} e m h = record { plain = λ f p. go f (h.plain f p); backups = λ n g p. at n g (h.backups n g p) }
  where
    go : (f : Name) → FileState o R t f → FileState o S v f
    go f (kept q) = kept (e f ∙ q)
    go f (new r q) = new (m f r) q
    go f (backed n a q) = backed n a (e (backup_name f) ∙ q)

    at : (n g : Name) → BackupState o t n g → BackupState o v n g
    at n g (inl q) = inl (e n ∙ q)
    at n g (inr q) = inr (q.0, e n ∙ q.1)

pub files-same : {o : Contents} {R : Name → Type 0} {v : Contents} → ((f : Name) → v f ≡ o f) → ((n g : Name) → original_name n ≡ some g → o n ≡ none) →
    Files o R v
files-same e z = record { plain = λ f p. kept (e f); backups = λ n g p. inl (e n ∙ z n g p) }

-- A change at a plain name k and at its backup alone.
record Touched (o : Contents) (R S : Name → Type 0) (t v : Contents) (k : Name) : Type 0 where
  agrees : (j : Name) → (j ≡ k → ⊥) → (j ≡ backup_name k → ⊥) → v j ≡ t j
  still : (j : Name) → (j ≡ k → ⊥) → R j → S j
  at_key : FileState o S v k
  at_backup : (v (backup_name k) ≡ none) ⊎ (v (backup_name k) ≡ o k)

module _ {o : Contents} {R : Name → Type 0} {t : Contents} {k : Name} (plainKey : original_name k ≡ none) (named : k ≡ [] → ⊥) (h : Files o R t) where
  touch : {S : Name → Type 0} {v : Contents} → Touched o R S t v k → Files o S v
  touch {S} {v} w = record { plain = λ f p. plain f p (name_dec f k) (h.plain f p); backups = λ n g p. baks n g p (name_dec n (backup_name k)) }
    where
      plain : (f : Name) → original_name f ≡ none → Dec (f ≡ k) → FileState o R t f → FileState o S v f
      plain f p (yes e) q = subst (FileState o S v) (sym e) w.at_key
      plain f p (no e) (kept q) = kept (w.agrees f e (name-apart p (original-backup k named)) ∙ q)
      plain f p (no e) (new r q) = new (w.still f e r) q
      plain f p (no e) (backed m a q) = backed m a (
          w.agrees (backup_name f) (λ z. name-apart plainKey (original-backup f m) (sym z))
          (λ z. e (some_inj (sym (original-backup f m) ∙ ap original_name z ∙ original-backup k named))) ∙ q)

      baks : (n g : Name) → original_name n ≡ some g → Dec (n ≡ backup_name k) → BackupState o v n g
      baks n g p (yes e) = go w.at_backup
        where
          a : g ≡ k
          a = some_inj (sym p ∙ ap original_name e ∙ original-backup k named)

          go : (v (backup_name k) ≡ none) ⊎ (v (backup_name k) ≡ o k) → BackupState o v n g
          go (inl q) = inl (ap v e ∙ q)
          go (inr q) = inr (ap original_name a ∙ plainKey, ap v e ∙ q ∙ sym (ap o a))
      baks n g p (no e) = go (h.backups n g p)
        where
          s : v n ≡ t n
          s = w.agrees n (λ z. name-apart plainKey p (sym z)) e

          go : BackupState o t n g → BackupState o v n g
          go (inl q) = inl (s ∙ q)
          go (inr q) = inr (q.0, s ∙ q.1)

  old-backup : (t (backup_name k) ≡ none) ⊎ (t (backup_name k) ≡ o k)
  old-backup = go (h.backups (backup_name k) k (original-backup k named))
    where
      go : BackupState o t (backup_name k) k → (t (backup_name k) ≡ none) ⊎ (t (backup_name k) ≡ o k)
      go (inl q) = inl q
      go (inr q) = inr q.1

  backup≢key : backup_name k ≡ k → ⊥
  backup≢key e = name-apart plainKey (original-backup k named) (sym e)

  -- A change at the plain name alone.
  touch-key : {S : Name → Type 0} {v : Contents} → ((j : Name) → (j ≡ k → ⊥) → v j ≡ t j) → ((j : Name) → (j ≡ k → ⊥) → R j → S j) → FileState o S v k →
      Files o S v
  touch-key {S} {v} a m s = touch record { agrees = λ j p q. a j p; still = m; at_key = s; at_backup = go old-backup }
    where
      e : v (backup_name k) ≡ t (backup_name k)
      e = a (backup_name k) backup≢key

      go : (t (backup_name k) ≡ none) ⊎ (t (backup_name k) ≡ o k) → (v (backup_name k) ≡ none) ⊎ (v (backup_name k) ≡ o k)
      go (inl q) = inl (e ∙ q)
      go (inr q) = inr (e ∙ q)

  -- The old file becomes the backup.
  pub files-rename : {v : Contents} → ((j : Name) → (j ≡ k → ⊥) → (j ≡ backup_name k → ⊥) → v j ≡ t j) → Stands (o k) → v (backup_name k) ≡ o k → Files o R v
  files-rename a s e = touch record { agrees = a; still = λ j p r. r; at_key = backed named s e; at_backup = inr e }

  -- A backup is put back.
  pub files_restore : {v : Contents} → ((j : Name) → (j ≡ k → ⊥) → (j ≡ backup_name k → ⊥) → v j ≡ t j) → v k ≡ o k → v (backup_name k) ≡ none → Files o R v
  files_restore a e z = touch record { agrees = a; still = λ j p r. r; at_key = kept e; at_backup = inl z }

  -- The new file comes into place.
  pub files-move : {v : Contents} → ((j : Name) → (j ≡ k → ⊥) → v j ≡ t j) → R k → (Stands (o k) → t (backup_name k) ≡ o k) → Files o R v
  files-move {v} a r b = touch-key a (λ j p r. r) (at (o k) refl)
    where
      at : (q : Option ℕ) → o k ≡ q → FileState o R v k
      at none e = new r e
      at (some y) e = backed named (y, e) (a (backup_name k) backup≢key ∙ b (y, e))

  -- A new file is taken away.
  pub files-undo : {S : Name → Type 0} {v : Contents} → ((j : Name) → (j ≡ k → ⊥) → R j → S j) → ((j : Name) → (j ≡ k → ⊥) → v j ≡ t j) →
      v k ≡ none → o k ≡ none → Files o S v
  files-undo m a e z = touch-key a m (kept (e ∙ sym z))

  -- The new file, whose old one has a backup, is taken away.
  pub files-drop : {v : Contents} → ((j : Name) → (j ≡ k → ⊥) → v j ≡ t j) → Stands (t (backup_name k)) → Files o R v
  files-drop a z = touch-key a (λ j p r. r) (backed named (z.0, sym (held old-backup) ∙ z.1) (a (backup_name k) backup≢key ∙ held old-backup))
    where
      held : (t (backup_name k) ≡ none) ⊎ (t (backup_name k) ≡ o k) → t (backup_name k) ≡ o k
      held (inl q) = none≢some (sym q ∙ z.1)
      held (inr q) = q

  -- Nothing is to be undone: the target is missing, or it has a backup, or it is known that it stood.
  pub files-leave : {S : Name → Type 0} → ((j : Name) → (j ≡ k → ⊥) → R j → S j) → (t k ≡ none) ⊎ (Stands (t (backup_name k)) ⊎ Stands (o k)) → Files o S t
  files-leave {S} m z = touch-key (λ j p. refl) m (at (h.plain k plainKey) z)
    where
      at : FileState o R t k → (t k ≡ none) ⊎ (Stands (t (backup_name k)) ⊎ Stands (o k)) → FileState o S t k
      at (kept q) z = kept q
      at (backed m a q) z = backed m a q
      at (new r q) (inl p) = kept (p ∙ sym q)
      at (new r q) (inr (inr p)) = none≢some (sym q ∙ p.1)
      at (new r q) (inr (inl p)) = go old-backup
        where
          go : (t (backup_name k) ≡ none) ⊎ (t (backup_name k) ≡ o k) → FileState o S t k
          go (inl b) = none≢some (sym b ∙ p.1)
          go (inr b) = none≢some (sym q ∙ sym b ∙ p.1)
