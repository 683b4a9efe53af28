-- Every step of a recovery and of a commit is ready in its turn, so that on disk its calls succeed and do what the step does.
use Rattle.std.proofs.Math.Path.{◌≡◌, sym}
use Rattle.std.specs.Prelude.{refl, ℕ, Bool, true, false, if◌then◌else◌}
use Rattle.std.proofs.Common.{◌∙◌, ap, subst, inl, inr}
use mathlib.Core.List.{List, [], ◌∷◌, ◌++◌, map, reverse}
use Rattle.std.proofs.Math.Option.{Option, none, some}
use Rattle.basics.specs.Order.{lt, Name, Key, cmp_name}
use Rattle.basics.specs.Map.{Map, look, Has}
use Rattle.basics.specs.Base.{Bytes, In, case_option, if_empty, if_present, if_missing}
use Rattle.basics.specs.Name.{backup_name, original_name, strip_tmp}
use Rattle.model.specs.Operation.{Op, Write, write, delete, delete_all, create_collection, delete_collection, copy_collection, target, backup, stood}
use Rattle.model.specs.Log.{Journal, absent, recording, committing, journal, ops_of, whole, truncated, undecodable, too_many, held}
use Rattle.model.specs.Store.{Store, staging_key, dirs, files, staging_names}
use Rattle.model.specs.Step.{Step, rewrite_header, sync_staging, sync_log, remove_log, sync_journal, make_directory, rename_file, move_staged, rename_directory, copy_file, remove_file, remove_directory, remove_staging, sync_directory, apply, apply_all, Fault, fails, name_too_long, new_file, step_fault, hold_header}
use Rattle.model.specs.Plan.{in_turn, in_sequence, op_steps, undo_steps, restore_file, restore_directory, restore_backups, remove_backup_file, remove_backups_in, remove_backups, remove_staging_files, collection_of, first_namings, sync_existing, steps_before_fault, operation_steps, commit_fault, commit_parts, commit_plan, remove_standing_log, recover_parts, recover_plan, plan_ending, commit_end, hold_end, hold_plan, unheld, revert_plan, keep_plan}
use Rattle.basic_laws.specs.OrderLaws.{name_laws, key_laws, lt≢eq}
use Rattle.basic_laws.specs.MapLaws.{Sorted, none≢some, look-del-other, look-tail, look-head}
use Rattle.basic_laws.specs.Tests.{All, all_in}
use Rattle.basic_laws.specs.NameLaws.{original-some, original-named}
use Rattle.basic_laws.specs.ValidNames.{valid-named, backup-named, backup-apart}
use Rattle.laws.specs.OperationLaws.{ValidOp, journal-valid}
use Rattle.laws.specs.StoreLaws.{name_dec, look-drop-same, look-drop-other, look-move-other}
use Rattle.laws.specs.Listings.{any_unreverse, dirs_in, files_in, files-named}
use Rattle.laws.specs.StepLaws.{make-stands, copy_stands}
use Rattle.posix_laws.specs.PosixLaws.{other_lt}
use Rattle.posix_laws.specs.ReadySteps.{Fair, AllReady, Going, GoingOn, fair_step, going_fair, going-log, going-ready, on_append, on-going, on-before, going-walk, Ascend, dirs-ascend, files-ascend, backup-above, missing-empty, moved-away, removed-other, renamed-other, renamed-to}
use Rattle.posix_laws.specs.Ready.{IsName, LogStands, DirectoryStands, FileStands, StagedStands, Ready}
use Rattle.laws.specs.PlanLaws.{unheld-valid}

-- Keys apart.
in_other : (d : Name) {f g : Name} → (f ≡ g → ⊥) → ◌≡◌ {A = Key} (d, f) (d, g) → ⊥
in_other d h e = h (ap (λ (k : Key). k.1) e)

own-apart : {c d f : Name} → IsName f → ◌≡◌ {A = Key} (c, []) (d, f) → ⊥
own-apart h e = h (sym (ap (λ (k : Key). k.1) e))

has-by : {o p : Option ℕ} → p ≡ o → (x : ℕ) × (o ≡ some x) → (x : ℕ) × (p ≡ some x)
has-by e i = (i.0, e ∙ i.1)

above_apart : {a b : Name} → cmp_name a b ≡ lt → b ≡ a → ⊥
above_apart e p = other_lt e (sym p)

-- Undoing.
undo-goes : (o : Op) → ValidOp o → (s : Store) → Going (undo_steps o s) s
unfolding undo_steps
undo-goes (write w) v s = unless (stood w)
  where
    go : (a : Option ℕ) → look (target w) s.tree ≡ a → (b : Option ℕ) → Going (if_present a (if_missing b (remove_file w.collection w.key ∷ []))) s
    go none e b = tt
    go (some x) e none = ((valid-named w.key v.1, (x, e)), tt, tt)
    go (some x) e (some y) = tt

    unless : (t : Bool) → Going (if◌then◌else◌ t [] (if_present (look (target w) s.tree) (if_missing (look (backup w) s.tree) (remove_file w.collection w.key ∷ [])))) s
    unless true = tt
    unless false = go (look (target w) s.tree) refl (look (backup w) s.tree)
undo-goes (delete c f) v s = tt
undo-goes (delete_all c) v s = tt
undo-goes (create_collection c) v s = go (look (c, []) s.tree) refl (files c s.tree)
  where
    go : (a : Option ℕ) → look (c, []) s.tree ≡ a → (l : List Name) → Going (if_present a (if_empty l (remove_directory c ∷ []) [])) s
    go none e l = tt
    go (some x) e [] = ((x, e), tt, tt)
    go (some x) e (f ∷ l) = tt
undo-goes (delete_collection c) v s = tt
undo-goes (copy_collection a b existed) v s = go existed (look (b, []) s.tree) refl (look (backup_name b, []) s.tree)
  where
    go : (t : Bool) (p : Option ℕ) → look (b, []) s.tree ≡ p → (q : Option ℕ) → Going (if◌then◌else◌ t [] (if_present p (if_missing q (remove_directory b ∷ [])))) s
    go true p e q = tt
    go false none e q = tt
    go false (some x) e none = ((x, e), tt, tt)
    go false (some x) e (some y) = tt

pub undo-all-goes : (ops : List Op) → All ValidOp ops → (s : Store) → Fair s → Going (in_turn undo_steps (reverse ops) s) s
undo-all-goes ops v s f =
    (going-walk undo_steps (λ l u. (o : Op) → In o l → ValidOp o) (λ o l u g h. (undo-goes o (h o (inl refl)) u, λ p i. h p (inr i)))
    (reverse ops) s f (λ o i. all_in ValidOp ops v o (any_unreverse (λ b. o ≡ b) ops i))).0

-- The files of directory d that a walk has still to visit stand, and the directories are those of the tree t.
record FilesLeft (d : Name) (t : Map) (l : List Name) (s : Store) : Type 0 where
  ascend : Ascend l
  stand : (f : Name) → In f l → FileStands d f s
  others : (c : Name) → look (c, []) s.tree ≡ look (c, []) t

files-left : (d : Name) (s : Store) → Fair s → FilesLeft d s.tree (files d s.tree) s
files-left d s f = record { ascend = files-ascend d s.tree f.sorted; stand = λ g i. (files-named d s.tree g i, files_in d g s.tree i); others = λ c. refl }

-- The directories that a walk has still to visit stand.
record DirsLeft (l : List Name) (s : Store) : Type 0 where
  ascend : Ascend l
  stand : (d : Name) → In d l → DirectoryStands d s

dirs-left : (s : Store) → Fair s → DirsLeft (dirs s.tree) s
dirs-left s f = record { ascend = dirs-ascend s.tree f.sorted; stand = λ d i. dirs_in d s.tree i }

-- After steps in a directory that is not left any more.
dirs-after : (d : Name) (l : List Name) (s u : Store) → DirsLeft (d ∷ l) s → ((c : Name) → look (c, []) u.tree ≡ look (c, []) s.tree) → DirsLeft l u
dirs-after d l s u h e = record { ascend = h.ascend.1; stand = λ c i. has-by (e c) (h.stand c (inr i)) }

-- A file removed, which is the one visited or stands before it.
module _ (d f : Name) (t : Map) (l : List Name) (s : Store) (h : FilesLeft d t (f ∷ l) s) where
  left-removed : FilesLeft d t l (apply (remove_file d f) s)
  left-removed = record {
    ascend = h.ascend.1;
    stand = λ g i. let k = h.stand g (inr i) in (k.0, has-by (removed-other d f s (d, g) (in_other d (above_apart (h.ascend.0 g i)))) k.1);
    others = λ c. removed-other d f s (c, []) (own-apart (h.stand f (inl refl)).0) ∙ h.others c;
  }

  left-original : (g : Name) → IsName g → cmp_name g f ≡ lt → FilesLeft d t (f ∷ l) (apply (remove_file d g) s)
  left-original g z e = record {
    ascend = h.ascend;
    stand = λ k i. let j = h.stand k i in (j.0, has-by (removed-other d g s (d, k) (in_other d (above_apart (below k i)))) j.1);
    others = λ c. removed-other d g s (c, []) (own-apart z) ∙ h.others c;
  }
    where
      below : (k : Name) → In k (f ∷ l) → cmp_name g k ≡ lt
      below k (inl p) = rw p e
      below k (inr i) = name_laws.trans g f k e (h.ascend.0 k i)

  left-renamed : (g : Name) → IsName g → cmp_name g f ≡ lt → FilesLeft d t l (apply (rename_file d f g) s)
  left-renamed g z e = record {
    ascend = h.ascend.1;
    stand = λ k i. let j = h.stand k (inr i) in
        (j.0, has-by (renamed-other d f g s (d, k) (in_other d (above_apart (h.ascend.0 k i))) (in_other d (above_apart (name_laws.trans g f k e (h.ascend.0 k i))))) j.1);
    others = λ c. renamed-other d f g s (c, []) (own-apart (h.stand f (inl refl)).0) (own-apart z) ∙ h.others c;
  }

below-backup : (f g : Name) → original_name f ≡ some g → cmp_name g f ≡ lt
below-backup f g e = rw (original-some f g e) (backup-above g)

-- Restoring.
restore_file-goes : (d f : Name) (t : Map) (l : List Name) (s : Store) → FilesLeft d t (f ∷ l) s → Going (restore_file d f s) s × FilesLeft d t l (apply_all (restore_file d f s) s)
unfolding restore_file
restore_file-goes d f t l s h = go (original_name f) refl (strip_tmp f)
  where
    back : (g : Name) → IsName g → cmp_name g f ≡ lt → (o : Option ℕ) → look (d, g) s.tree ≡ o →
        Going (if_present o (remove_file d g ∷ []) ++ rename_file d f g ∷ []) s × FilesLeft d t l (apply_all (if_present o (remove_file d g ∷ []) ++ rename_file d f g ∷ []) s)
    back g z e none p = ((((h.stand f (inl refl)), z), tt, tt), left-renamed d f t l s h g z e)
    back g z e (some x) p =
        let k = left-original d f t l s h g z e in
        (((z, (x, p)), tt, ((k.stand f (inl refl), z), tt, tt)), left-renamed d f t l (apply (remove_file d g) s) k g z e)

    skip : FilesLeft d t l s
    skip = record { ascend = h.ascend.1; stand = λ g i. h.stand g (inr i); others = h.others }

    go : (q : Option Name) → original_name f ≡ q → (p : Option Name) →
        let xs : List Step = case_option q (if_present p (remove_file d f ∷ [])) λ g. if_present (look (d, g) s.tree) (remove_file d g ∷ []) ++ rename_file d f g ∷ [] in
        Going xs s × FilesLeft d t l (apply_all xs s)
    go none e none = (tt, skip)
    go none e (some g) = ((h.stand f (inl refl), tt, tt), left-removed d f t l s h)
    go (some g) e p = back g (original-named f g e) (below-backup f g e) (look (d, g) s.tree) refl

restore_directory-goes : (d : Name) (l : List Name) (s : Store) → Fair s → DirsLeft (d ∷ l) s → Going (restore_directory d s) s × DirsLeft l (apply_all (restore_directory d s) s)
unfolding restore_directory
restore_directory-goes d l s f h = go (original_name d) refl
  where
    inner : Going (in_turn (restore_file d) (files d s.tree) s) s × DirsLeft l (apply_all (in_turn (restore_file d) (files d s.tree) s) s)
    inner =
        let w = going-walk (restore_file d) (FilesLeft d s.tree) (λ g m u fu k. restore_file-goes d g s.tree m u k) (files d s.tree) s f (files-left d s f) in
        (w.0, dirs-after d l s _ h (λ c. w.1.others c))

    -- The backup takes the place of its original, which does not stand in v.
    onto : (g : Name) → original_name d ≡ some g → (v : Store) → Fair v → look (g, []) v.tree ≡ none → ((c : Name) → (c ≡ g → ⊥) → look (c, []) v.tree ≡ look (c, []) s.tree) →
        Ready (rename_directory d g) v × DirsLeft l (apply (rename_directory d g) v)
    onto g e v fv m same = (
      (has-by (same d (above_apart b)) (h.stand d (inl refl)), missing-empty g v.tree fv.inside m, above_apart b),
      record {
        ascend = h.ascend.1;
        stand = λ c i. unfold apply in
            (has-by (look-move-other d g (above_apart b) c [] v.tree v.tree (above_apart (h.ascend.0 c i)) (above_apart (up c i)))
            (has-by (same c (above_apart (up c i))) (h.stand c (inr i))));
      },
    )
      where
        b : cmp_name g d ≡ lt
        b = below-backup d g e

        up : (c : Name) → In c l → cmp_name g c ≡ lt
        up c i = name_laws.trans g d c b (h.ascend.0 c i)

    outer : (g : Name) → original_name d ≡ some g → (o : Option ℕ) → look (g, []) s.tree ≡ o →
        Going (if_present o (remove_directory g ∷ []) ++ rename_directory d g ∷ []) s × DirsLeft l (apply_all (if_present o (remove_directory g ∷ []) ++ rename_directory d g ∷ []) s)
    outer g e none p = let k = onto g e s f p (λ c z. refl) in ((k.0, tt, tt), k.1)
    outer g e (some x) p =
        let k = onto g e (apply (remove_directory g) s) (fair_step (remove_directory g) s (x, p) f)
        (unfold apply in (look-drop-same g (g, []) s.tree refl)) (λ c z. unfold apply in (look-drop-other g (c, []) s.tree (λ q. z (sym q)))) in
        (((x, p), tt, (k.0, tt, tt)), k.1)

    go : (q : Option Name) → original_name d ≡ q →
        let xs : List Step = case_option q (in_turn (restore_file d) (files d s.tree) s) λ g. if_present (look (g, []) s.tree) (remove_directory g ∷ []) ++ rename_directory d g ∷ [] in
        Going xs s × DirsLeft l (apply_all xs s)
    go none e = inner
    go (some g) e = outer g e (look (g, []) s.tree) refl

pub restore_goes : (s : Store) → Fair s → Going (restore_backups s) s
restore_goes s f = (going-walk restore_directory DirsLeft restore_directory-goes (dirs s.tree) s f (dirs-left s f)).0

-- Removing the backups.
remove_backup-goes : (d f : Name) (t : Map) (l : List Name) (s : Store) → FilesLeft d t (f ∷ l) s → Going (remove_backup_file d f s) s × FilesLeft d t l (apply_all (remove_backup_file d f s) s)
unfolding remove_backup_file
remove_backup-goes d f t l s h = go (original_name f)
  where
    go : (q : Option Name) → Going (if_present q (remove_file d f ∷ [])) s × FilesLeft d t l (apply_all (if_present q (remove_file d f ∷ [])) s)
    go none = (tt, record { ascend = h.ascend.1; stand = λ g i. h.stand g (inr i); others = h.others })
    go (some g) = ((h.stand f (inl refl), tt, tt), left-removed d f t l s h)

remove_in_goes : (d : Name) (l : List Name) (s : Store) → Fair s → DirsLeft (d ∷ l) s → Going (remove_backups_in d s) s × DirsLeft l (apply_all (remove_backups_in d s) s)
unfolding remove_backups_in
remove_in_goes d l s f h = go (original_name d)
  where
    inner : Going (in_turn (remove_backup_file d) (files d s.tree) s) s × DirsLeft l (apply_all (in_turn (remove_backup_file d) (files d s.tree) s) s)
    inner =
        let w = going-walk (remove_backup_file d) (FilesLeft d s.tree) (λ g m u fu k. remove_backup-goes d g s.tree m u k) (files d s.tree) s f (files-left d s f) in
        (w.0, dirs-after d l s _ h (λ c. w.1.others c))

    go : (q : Option Name) → let xs : List Step = case_option q (in_turn (remove_backup_file d) (files d s.tree) s) (λ g. remove_directory d ∷ []) in Going xs s × DirsLeft l (apply_all xs s)
    go none = inner
    go (some g) = (
      (h.stand d (inl refl), tt, tt),
      record { ascend = h.ascend.1; stand = λ c i. unfold apply in (has-by (look-drop-other d (c, []) s.tree (other_lt (h.ascend.0 c i))) (h.stand c (inr i))) },
    )

pub backups-go : (s : Store) → Fair s → Going (remove_backups s) s
backups-go s f = (going-walk remove_backups_in DirsLeft remove_in_goes (dirs s.tree) s f (dirs-left s f)).0

-- Removing the staging files.
pub staging-goes : (s : Store) → Fair s → Going (remove_staging_files s) s
staging-goes s f = all s.staging f.staging.sorted (λ k x e. (f.staging.node k x e).bare) s (λ k x e. (x, e))
  where
    all : (m : Map) → Sorted m → ((k : Key) (x : ℕ) → look k m ≡ some x → k.0 ≡ []) →
        (s : Store) → ((k : Key) (x : ℕ) → look k m ≡ some x → Has k s.staging) → Going (map remove_staging (staging_names m)) s
    all [] r b s h = tt
    all (n ∷ m) r b s h = (
      subst (λ (k : Key). Has k s.staging) e (h n.0 n.1 (look-head n m)),
      tt,
      all m r.1 (λ k x p. b k x (up k x p)) (apply (remove_staging n.0.1) s)
          (λ k x p. unfold apply in (has-by (look-del-other (staging_key n.0.1) k s.staging (λ q. off k x p (q ∙ sym e))) (h k x (up k x p)))),
    )
      where
        e : ◌≡◌ {A = Key} n.0 (staging_key n.0.1)
        e = λ i. (b n.0 n.1 (look-head n m) i, n.0.1)

        off : (k : Key) (x : ℕ) → look k m ≡ some x → k ≡ n.0 → ⊥
        off k x p q = lt≢eq (sym (r.0 k x p) ∙ rw q (key_laws.reflexive n.0))

        up : (k : Key) (x : ℕ) → look k m ≡ some x → look k (n ∷ m) ≡ some x
        up k x p = look-tail k n m (off k x p) ∙ p

-- Recovery.
pub staging-last : (s : Store) → Fair s → AllReady (remove_staging_files s ++ []) s
staging-last s f = going-ready (remove_staging_files s) [] s (staging-goes s f) tt

-- The log goes, then the staging files.
unlogged : (s : Store) → Fair s → LogStands s → AllReady (remove_log ∷ remove_staging_files (apply remove_log s) ++ []) s
unlogged s f l = (l, staging-last (apply remove_log s) (fair_step remove_log s l f))

-- A part, and those behind it.
pub part : (p : Store → List Step) (ps : List (Store → List Step)) (s : Store) → Going (p s) s → AllReady (in_sequence ps (apply_all (p s) s)) (apply_all (p s) s) → AllReady (in_sequence (p ∷ ps) s) s
part p ps s g h = going-ready (p s) (in_sequence ps (apply_all (p s) s)) s g h

-- A log that is not absent stands.
abbrev pub Present : Journal → Type 0
Present absent = ⊥
Present (recording o e) = Unit {0}
Present (committing o e) = Unit {0}
Present (held o e) = Unit {0}

pub log-there : (o : Option Bytes) (j : Journal) → journal o ≡ j → Present j → (l : Bytes) × (o ≡ some l)
log-there none j e h = absurd (subst Present (sym e) h)
log-there (some l) j e h = (l, refl)

-- Recovery, by what the log is taken for.
journal-ready : (s : Store) → Fair s → (j : Journal) → All ValidOp (ops_of j) → (Present j → LogStands s) → AllReady (in_sequence (recover_parts j) s) s
journal-ready s f j v h = go j v h
  where
    discard : LogStands s → AllReady (in_sequence ((λ s. remove_log ∷ []) ∷ remove_staging_files ∷ []) s) s
    discard l = unlogged s f l

    standing : (u : Store) → Fair u → (o : Option Bytes) → u.log ≡ o → AllReady (in_sequence ((λ s. if_present o (remove_log ∷ [])) ∷ remove_staging_files ∷ []) u) u
    standing u g none e = staging-last u g
    standing u g (some l) e = unlogged u g (l, e)

    go : (j : Journal) → All ValidOp (ops_of j) → (Present j → LogStands s) → AllReady (in_sequence (recover_parts j) s) s
    go absent v h =
        let g = backups-go s f in
        let u : Store = apply_all (remove_backups s) s in
        part remove_backups (remove_standing_log ∷ remove_staging_files ∷ []) s g (standing u (going_fair (remove_backups s) s g f) u.log refl)
    go (recording ops x) v h = discard (h tt)
    go (committing ops whole) v h =
        let l = h tt in
        let xs : List Step = in_turn undo_steps (reverse ops) s in
        let g = undo-all-goes ops v s f in
        let u : Store = apply_all xs s in
        let fu = going_fair xs s g f in
        let r = restore_goes u fu in
        part (in_turn undo_steps (reverse ops)) (restore_backups ∷ (λ s. remove_log ∷ []) ∷ remove_staging_files ∷ []) s g
        (part restore_backups ((λ s. remove_log ∷ []) ∷ remove_staging_files ∷ []) u r
        (unlogged (apply_all (restore_backups u) u) (going_fair (restore_backups u) u r fu) (going-log (restore_backups u) u r (going-log xs s g l))))
    go (committing ops (truncated c)) v h = discard (h tt)
    go (committing ops undecodable) v h = discard (h tt)
    go (committing ops too_many) v h = discard (h tt)
    go (held ops x) v h = staging-last s f

pub recover-ready : (s : Store) → Fair s → AllReady (recover_plan s) s
unfolding recover_plan
recover-ready s f = journal-ready s f (journal s.log) (journal-valid s.log) (log-there s.log (journal s.log) refl)

-- Revert, which takes a Held log for a Committing one.
pub revert-ready : (s : Store) → Fair s → AllReady (revert_plan s) s
unfolding revert_plan
revert-ready s f =
    let j : Journal = journal s.log in
    journal-ready s f (unheld j) (unheld-valid j (journal-valid s.log)) (λ h. log-there s.log j refl (there j h))
  where
    there : (j : Journal) → Present (unheld j) → Present j
    there absent h = h
    there (recording o e) h = h
    there (committing o e) h = h
    there (held o e) h = h

-- Keep.
pub keep-ready : (s : Store) → Fair s → LogStands s → AllReady (keep_plan s) s
unfolding keep_plan
keep-ready s f l =
    let u : Store = apply sync_journal (apply remove_log s) in
    (l, (tt, part remove_backups [] u (backups-go u (fair_step sync_journal (apply remove_log s) tt (fair_step remove_log s l f))) tt))

-- What a step that does not fail says.
staged-there : (f d k : Name) (s : Store) → step_fault (move_staged f d k) s ≡ none → StagedStands f s
unfolding step_fault
staged-there f d k s e = go (look (staging_key f) s.staging) refl e
  where
    go : (q : Option ℕ) → look (staging_key f) s.staging ≡ q → case_option q (some fails) (λ x. new_file (d, k) s.tree) ≡ none → StagedStands f s
    go none p e = none≢some (sym e)
    go (some x) p e = (x, p)

source-there : (a b f : Name) (s : Store) → step_fault (copy_file a b f) s ≡ none → Has (a, f) s.tree
unfolding step_fault
source-there a b f s e = go (look (a, f) s.tree) refl e
  where
    go : (q : Option ℕ) → look (a, f) s.tree ≡ q → case_option q (some fails) (λ x. new_file (b, f) s.tree) ≡ none → Has (a, f) s.tree
    go none p e = none≢some (sym e)
    go (some x) p e = (x, p)

target-empty : (a b : Name) (s : Store) → step_fault (rename_directory a b) s ≡ none → files b s.tree ≡ []
unfolding step_fault
target-empty a b s e = go (name_too_long b) (files b s.tree) e
  where
    go : (q : Option Fault) (l : List Name) → case_option q (if_empty l none (some fails)) some ≡ none → l ≡ []
    go none [] e = refl
    go none (f ∷ l) e = none≢some (sym e)
    go (some x) l e = none≢some (sym e)

-- The operations.
write_goes : (w : Write) → ValidOp (write w) → (s : Store) → Fair s → GoingOn (op_steps (write w) s) s
unfolding op_steps
write_goes w v s f = go (look (w.collection, []) s.tree) refl (look (target w) s.tree) refl
  where
    hk : IsName w.key
    hk = valid-named w.key v.1

    aside : Step
    aside = rename_file w.collection w.key (backup_name w.key)

    last : (u : Store) → Has (w.collection, []) u.tree → GoingOn (move_staged w.staged w.collection w.key ∷ []) u
    last u i e = ((staged-there w.staged w.collection w.key u e, i, hk), tt, tt)

    go : (a : Option ℕ) → look (w.collection, []) s.tree ≡ a → (b : Option ℕ) → look (target w) s.tree ≡ b →
        GoingOn (if_missing a (make_directory w.collection ∷ []) ++ if_present b (rename_file w.collection w.key (backup_name w.key) ∷ [])
        ++ move_staged w.staged w.collection w.key ∷ []) s
    go none p none q = λ e. ((λ i. none≢some (sym p ∙ i.1)), tt, last (apply (make_directory w.collection) s) (make-stands w.collection s))
    go none p (some x) q = none≢some (sym p ∙ (f.inside w.collection w.key (x, q) hk).1)
    go (some y) p none q = last s (y, p)
    go (some y) p (some x) q = λ e. (
      ((hk, (x, q)), backup-named w.key),
      tt,
      last (apply aside s) (has-by (renamed-other w.collection w.key (backup_name w.key) s (w.collection, []) (own-apart hk) (own-apart (backup-named w.key))) (y, p)),
    )

back-up-goes : (c : Name) (l : List Name) → Ascend l → (s : Store) → ((f : Name) → In f l → FileStands c f s) → GoingOn (map (λ f. rename_file c f (backup_name f)) l) s
back-up-goes c [] a s h = tt
back-up-goes c (f ∷ l) a s h =
    λ e. (
      (h f (inl refl), backup-named f),
      tt,
      back-up-goes c l a.1 (apply (rename_file c f (backup_name f)) s) (λ g i. ((h g (inr i)).0, at g i (name_dec g (backup_name f)))),
    )
  where
    at : (g : Name) → In g l → Dec (g ≡ backup_name f) → Has (c, g) (apply (rename_file c f (backup_name f)) s).tree
    at g i (yes p) = subst (λ (k : Name). Has (c, k) (apply (rename_file c f (backup_name f)) s).tree) (sym p) (renamed-to c f (backup_name f) s (h f (inl refl)).1)
    at g i (no p) = has-by (renamed-other c f (backup_name f) s (c, g) (in_other c (above_apart (a.0 g i))) (in_other c p)) (h g (inr i)).1

copies-go : (a b : Name) (l : List Name) → ((f : Name) → In f l → IsName f) → (s : Store) → Has (b, []) s.tree → GoingOn (map (copy_file a b) l) s
copies-go a b [] h s i = tt
copies-go a b (f ∷ l) h s i = λ e. (((h f (inl refl), source-there a b f s e), i), tt, copies-go a b l (λ g j. h g (inr j)) (apply (copy_file a b f) s) (copy_stands a b f s (h f (inl refl)) i))

gone-away : (a b : Name) (s : Store) → (a ≡ b → ⊥) → Has (a, []) (apply (rename_directory a b) s).tree → ⊥
unfolding apply
gone-away a b s apart i = none≢some (sym (moved-away a b [] s.tree apart) ∙ i.1)

op-goes : (o : Op) → ValidOp o → (s : Store) → Fair s → GoingOn (op_steps o s) s
unfolding op_steps
op-goes (write w) v s f = write_goes w v s f
op-goes (delete c k) v s f = go (look (c, k) s.tree) refl
  where
    go : (q : Option ℕ) → look (c, k) s.tree ≡ q → GoingOn (if_present q (rename_file c k (backup_name k) ∷ [])) s
    go none e = tt
    go (some x) e = λ p. (((valid-named k v.1, (x, e)), backup-named k), tt, tt)
op-goes (delete_all c) v s f = back-up-goes c (files c s.tree) (files-ascend c s.tree f.sorted) s (λ g i. (files-named c s.tree g i, files_in c g s.tree i))
op-goes (create_collection c) v s f = go (look (c, []) s.tree) refl
  where
    go : (q : Option ℕ) → look (c, []) s.tree ≡ q → GoingOn (if_missing q (make_directory c ∷ [])) s
    go none e = λ p. ((λ i. none≢some (sym e ∙ i.1)), tt, tt)
    go (some x) e = tt
op-goes (delete_collection c) v s f = go (look (c, []) s.tree) refl
  where
    go : (q : Option ℕ) → look (c, []) s.tree ≡ q → GoingOn (if_present q (rename_directory c (backup_name c) ∷ [])) s
    go none e = tt
    go (some x) e = λ p. (((x, e), target-empty c (backup_name c) s p, backup-apart c), tt, tt)
op-goes (copy_collection a b existed) v s f =
    on_append xs (ys (look (a, []) u.tree) ++ []) s (first (look (b, []) s.tree) refl)
    (λ g. on_append (ys (look (a, []) u.tree)) [] u (copies (look (a, []) u.tree) refl) (λ h. tt))
  where
    xs : List Step
    xs = if_present (look (b, []) s.tree) (rename_directory b (backup_name b) ∷ []) ++ make_directory b ∷ []

    u : Store
    u = apply_all xs s

    ys : Option ℕ → List Step
    ys q = case_option q (copy_file a b [] ∷ []) (λ n. map (copy_file a b) (files a u.tree))

    first : (q : Option ℕ) → look (b, []) s.tree ≡ q → GoingOn (if_present q (rename_directory b (backup_name b) ∷ []) ++ make_directory b ∷ []) s
    first none e = λ p. ((λ i. none≢some (sym e ∙ i.1)), tt, tt)
    first (some x) e = λ p. (((x, e), target-empty b (backup_name b) s p, backup-apart b), tt, λ r. (gone-away b (backup_name b) s (backup-apart b), tt, tt))

    made : (q : Option ℕ) → Has (b, []) (apply_all (if_present q (rename_directory b (backup_name b) ∷ []) ++ make_directory b ∷ []) s).tree
    made none = make-stands b s
    made (some x) = make-stands b (apply (rename_directory b (backup_name b)) s)

    copies : (q : Option ℕ) → look (a, []) u.tree ≡ q → GoingOn (ys q) u
    copies none p = λ e. none≢some (sym p ∙ (source-there a b [] u e).1)
    copies (some n) p = copies-go a b (files a u.tree) (files-named a u.tree) u (made (look (b, []) s.tree))

pub ops-go : (ops : List Op) → All ValidOp ops → (s : Store) → Fair s → GoingOn (operation_steps ops s) s
ops-go [] v s f = tt
ops-go (o ∷ ops) v s f =
    on_append (op_steps o s) (operation_steps ops (apply_all (op_steps o s) s)) s (op-goes o v.0 s f)
    (λ g. ops-go ops v.1 (apply_all (op_steps o s) s) (going_fair (op_steps o s) s g f))

-- Syncs of directories.
pub syncs-go : (l : List Name) (s : Store) → Fair s → Going (in_turn sync_existing l s) s
unfolding sync_existing
syncs-go l s f = (going-walk sync_existing (λ l u. Unit {0}) (λ d l u g h. (go d u (look (d, []) u.tree) refl, tt)) l s f tt).0
  where
    go : (d : Name) (u : Store) (q : Option ℕ) → look (d, []) u.tree ≡ q → Going (if_present q (sync_directory d ∷ [])) u
    go d u none e = tt
    go d u (some x) e = ((x, e), tt, tt)

-- How a commit ends whose operations are all applied: the syncs of collections and journal about the log's removal, the backups, the staging files; a
-- held one: the header, its sync, the staging files.
abbrev EndReady : List (Store → List Step) → Type 0
EndReady ends = (w : Store) → Fair w → LogStands w → AllReady (in_sequence ends w) w

commit-end-ready : EndReady commit_end
unfolding apply
commit-end-ready w fw lw =
    let z : Store = apply sync_journal (apply remove_log w) in
    let fz = fair_step sync_journal (apply remove_log w) tt (fair_step remove_log w lw fw) in
    let g = backups-go z fz in
    (tt, (lw, (tt, part remove_backups (remove_staging_files ∷ []) z g (staging-last (apply_all (remove_backups z) z) (going_fair (remove_backups z) z g fz)))))

hold-end-ready : EndReady hold_end
unfolding apply
hold-end-ready w fw lw =
    let z : Store = apply hold_header w in
    (tt, (lw, (going-log (hold_header ∷ []) w (lw, tt, tt) lw, staging-last z (fair_step hold_header w lw fw))))

-- A commit with such an end.
ending-ready : (ends : List (Store → List Step)) → EndReady ends → (s : Store) → Fair s → LogStands s → AllReady (plan_ending ends s) s
unfolding plan_ending commit_fault apply
ending-ready ends ended s f l = (l, all (commit_fault s) refl)
  where
    ops : List Op
    ops = ops_of (journal s.log)

    v : All ValidOp ops
    v = journal-valid s.log

    u : Store
    u = apply rewrite_header s

    fu : Fair u
    fu = fair_step rewrite_header s l f

    lu : LogStands u
    lu = going-log (rewrite_header ∷ []) s (l, tt, tt) l

    starts : Going (sync_staging ∷ sync_log ∷ []) u
    starts = (tt, tt, (lu, tt, tt))

    goes : GoingOn (operation_steps ops u) u
    goes = ops-go ops v u fu

    last : List (Store → List Step)
    last = in_turn sync_existing (first_namings [] (map collection_of ops)) ∷ ends

    back : List (Store → List Step)
    back = in_turn undo_steps (reverse ops) ∷ restore_backups ∷ (λ s. remove_log ∷ sync_journal ∷ []) ∷ remove_staging_files ∷ []

    -- Behind the operations: the syncs of directories, the end.
    behind : (w : Store) → Fair w → LogStands w → AllReady (in_sequence last w) w
    behind w fw lw =
        let xs : List Step = in_turn sync_existing (first_namings [] (map collection_of ops)) w in
        let g = syncs-go (first_namings [] (map collection_of ops)) w fw in
        part (in_turn sync_existing (first_namings [] (map collection_of ops))) ends w g (ended (apply_all xs w) (going_fair xs w g fw) (going-log xs w g lw))

    -- Behind a failing step: the rollback, the log, the staging files.
    rollback : (w : Store) → Fair w → LogStands w → AllReady (in_sequence back w) w
    rollback w fw lw =
        let xs : List Step = in_turn undo_steps (reverse ops) w in
        let g = undo-all-goes ops v w fw in
        let z : Store = apply_all xs w in
        let fz = going_fair xs w g fw in
        let r = restore_goes z fz in
        let y : Store = apply_all (restore_backups z) z in
        let fy = going_fair (restore_backups z) z r fz in
        let ly = going-log (restore_backups z) z r (going-log xs w g lw) in
        let f₁ = fair_step remove_log y ly fy in
        part (in_turn undo_steps (reverse ops)) (restore_backups ∷ (λ s. remove_log ∷ sync_journal ∷ []) ∷ remove_staging_files ∷ []) w g
        (part restore_backups ((λ s. remove_log ∷ sync_journal ∷ []) ∷ remove_staging_files ∷ []) z r
        (ly, (tt, staging-last (apply sync_journal (apply remove_log y)) (fair_step sync_journal (apply remove_log y) tt f₁))))

    all : (q : Option Fault) → commit_fault s ≡ q → AllReady (in_sequence (commit_parts ends ops q) u) u
    all none e =
        let xs : List Step = operation_steps ops u in
        let g = on-going xs u goes e in
        part (λ s. sync_staging ∷ sync_log ∷ []) (operation_steps ops ∷ last) u starts
        (part (operation_steps ops) last u g (behind (apply_all xs u) (going_fair xs u g fu) (going-log xs u g lu)))
    all (some x) e =
        let xs : List Step = steps_before_fault (operation_steps ops u) u in
        let g = on-before (operation_steps ops u) u goes in
        part (λ s. sync_staging ∷ sync_log ∷ []) ((λ s. steps_before_fault (operation_steps ops s) s) ∷ back) u starts
        (part (λ s. steps_before_fault (operation_steps ops s) s) back u g (rollback (apply_all xs u) (going_fair xs u g fu) (going-log xs u g lu)))

pub commit-ready : (s : Store) → Fair s → LogStands s → AllReady (commit_plan s) s
commit-ready = ending-ready commit_end commit-end-ready

pub hold-ready : (s : Store) → Fair s → LogStands s → AllReady (hold_plan s) s
hold-ready = ending-ready hold_end hold-end-ready
