-- A step that fails with 14 cannot be done: a name of it has over 64 bytes, which is 01's own limit, or POSIX refuses a call of it. A commit that
-- stops with 14 stops at such a step.
use Rattle.std.specs.Prelude.{◌≡◌, ℕ, ◌<◌, Bool, ◌⊎◌, length, get_or, ltb, eqb, if◌then◌else◌}
use Rattle.std.proofs.Math.Path.{refl, ap}
use Rattle.std.proofs.Common.{sym, ◌∙◌, subst, arith}
use mathlib.Core.List.{List, [], ◌∷◌, ◌++◌, map}
use Rattle.std.proofs.Math.Option.{Option, none, some}
use Rattle.std.proofs.Math.Bool.{true, false}
use Rattle.std.proofs.lemmas.Bool.{false≢true}
use Rattle.std.proofs.Math.Logic.{inl, inr}
use Rattle.basics.specs.Limits.{name_limit, file_limit}
use Rattle.basics.specs.Order.{Name, Key}
use Rattle.basics.specs.Map.{Map, look, Has}
use Rattle.basics.specs.Base.{Bytes, In, case_option, if_empty, if_present, if_missing}
use Rattle.basics.specs.Name.{backup_name}
use Rattle.model.specs.Operation.{Op, write, delete, delete_all, create_collection, delete_collection, copy_collection, target}
use Rattle.model.specs.Log.{journal, ops_of}
use Rattle.model.specs.Store.{Store, staging_key, dirs, files, file_count}
use Rattle.model.specs.Image.{decode}
use Rattle.model.specs.Step.{Step, rewrite_header, sync_staging, sync_log, remove_log, sync_journal, sync_collections, make_directory, rename_file, move_staged, rename_directory, copy_file, remove_file, remove_directory, remove_staging, sync_directory, apply, apply_all, tag_and_names, Fault, fails, full, name_too_long, new_file, step_fault, hold_header}
use Rattle.model.specs.Plan.{op_steps, operation_steps, first_fault, steps_before_fault, commit_fault}
use Rattle.posix.specs.Posix.{directory, Directory, empty, entry, find, Path, Errno, ENOENT, ENOTEMPTY, ok, error, inside, resolve, replaces, rename, call, calls}
use Rattle.basics.specs.Worked.{text}
use Rattle.posix.specs.Disk.{collections_name, journal_name, staging_name, log_name, directory_path, file_path, staged_path, folder, folders, root, disk, step_calls}
use Rattle.basic_laws.specs.MapLaws.{none≢some, some_inj}
use Rattle.basic_laws.specs.Tests.{leb_le, All, all_append, all_every, all_map, all_imp}
use Rattle.laws.specs.ImageLaws.{decode-only}
use Rattle.basic_laws.specs.ValidNames.{Valid, valid_naming, backup-apart}
use Rattle.laws.specs.OperationLaws.{made-valid, journal-valid}
use Rattle.laws.specs.StoreLaws.{Good, good, name_dec}
use Rattle.laws.specs.Listings.{files_in, files-named}
use Rattle.laws.specs.Runs.{runs_end}
use Rattle.laws.specs.StepLaws.{Sound, keep-mark}
use Rattle.laws.specs.PartLaws.{before-fault-keeps}
use Rattle.posix_laws.specs.Ready.{IsName}
use Rattle.posix_laws.specs.CallLaws.{begins-directory, refuse-directory, resolve-directory}
use Rattle.posix_laws.specs.FolderLaws.{find_absent, find-folders}
use Rattle.posix_laws.specs.DiskLaws.{find-standing, find-missing, find-file, inside_of}

-- A name of the step has over 64 bytes.
abbrev pub TooLong : Step → Type 0
TooLong x = (n : Name) × In n (tag_and_names x).1 × (64 < length n)

-- A directory is renamed to its own name: 01 has it fail if the directory is not empty, and POSIX does nothing (DiskExceptions). No plan has it.
abbrev pub OntoItself : Step → Type 0
OntoItself x = (a : Name) × (x ≡ rename_directory a a)

rename-nothing : (p q : Path) (t : Directory) → resolve p t ≡ error ENOENT → calls (rename p q ∷ []) t ≡ error ENOENT
unfolding call
rename-nothing p q t e = rw e

full≢fails : {A : Type 0} → full ≡ fails → A
full≢fails p = let z : ◌≡◌ {A = ℕ} 0 1 = cc in absurd (omega arith)

new-file : {A : Type 0} (k : Key) (t : Map) → new_file k t ≡ some fails → A
new-file {A} k t e = go (look k t) (ltb (file_count t) file_limit) e
  where
    go : (q : Option ℕ) (t : Bool) → case_option q (if◌then◌else◌ t none (some full)) (λ x. none) ≡ some fails → A
    go none true e = none≢some e
    go none false e = full≢fails (some_inj e)
    go (some x) t e = none≢some e

too_long : (n : Name) → name_too_long n ≡ some fails → 64 < length n
too_long n e = go (ltb name_limit (length n)) refl e
  where
    go : (t : Bool) → ltb name_limit (length n) ≡ t → if◌then◌else◌ t (some fails) none ≡ some fails → 64 < length n
    go true p e = leb_le 65 (length n) p
    go false p e = none≢some e

module _ (bytes : ℕ → Bytes) where
  -- A call of the step is refused with this error.
  abbrev pub Refused : Step → Errno → Store → Type 0
  Refused x e s = calls (step_calls x (disk bytes s)) (disk bytes s) ≡ error e

  -- Why a step cannot be done.
  abbrev pub Impossible : Step → Store → Type 0
  Impossible x s = TooLong x ⊎ ((e : Errno) × Refused x e s)

  module _ {N : Name → Type 0} (s : Store) (w : Good N s) where
    abbrev C : Directory
    C = folders bytes s.tree (dirs s.tree)

    abbrev G : Directory
    G = folder bytes [] s.staging

    -- The staging file is missing, the copy's source, the directory; the directory's target is not empty.
    pub refused-staged : (f d k : Name) → look (staging_key f) s.staging ≡ none → Refused (move_staged f d k) ENOENT s
    unfolding step_calls disk
    refused-staged f d k e =
        rename-nothing (staged_path f) (file_path d k) (root C G s.log)
        (unfold resolve root find text collections_name journal_name staging_name log_name in (rw (find_absent bytes [] f s.staging e)))

    resolve-nothing : (a f : Name) → look (a, f) s.tree ≡ none → resolve (file_path a f) (root C G s.log) ≡ error ENOENT
    unfolding resolve root find text collections_name journal_name staging_name log_name
    resolve-nothing a f e = rw (find-folders bytes s.tree a s.tree) (at (look (a, []) s.tree))
      where
        at : (o : Option ℕ) → inside (case_option o none (λ x. some (directory (folder bytes a s.tree)))) (λ t. case_option (find f t) (error ENOENT) ok) ≡ error ENOENT
        at none = refl
        at (some x) = rw (find_absent bytes a f s.tree e)

    pub refused-source : (a b f : Name) → look (a, f) s.tree ≡ none → Refused (copy_file a b f) ENOENT s
    unfolding step_calls disk call
    refused-source a b f e = rw (resolve-nothing a f e)

    pub refused-directory : (a b : Name) → look (a, []) s.tree ≡ none → Refused (rename_directory a b) ENOENT s
    unfolding step_calls disk
    refused-directory a b e =
        rename-nothing (directory_path a) (directory_path b) (root C G s.log)
        (unfold resolve root find text collections_name journal_name staging_name log_name in (rw (find-missing bytes s w a e)))

    pub refused-target : (a b f : Name) (l : List Name) → Has (a, []) s.tree → (a ≡ b → ⊥) → files b s.tree ≡ f ∷ l → Refused (rename_directory a b) ENOTEMPTY s
    unfolding step_calls disk call
    refused-target a b f l h apart e =
        rw (resolve-directory C G s.log a (directory F) (find-standing bytes s w a h), begins-directory collections_name a b apart)
        (rw (refuse-directory (replaces (directory F)) C G s.log b ENOTEMPTY (ap (replaces (directory F)) (find-standing bytes s w b stands) ∙ full (folder bytes b s.tree) refl)))
      where
        F : Directory
        F = folder bytes a s.tree

        i : In f (files b s.tree)
        i = subst (In f) (sym e) (inl refl)

        named : IsName f
        named = files-named b s.tree f i

        stands : Has (b, []) s.tree
        stands = inside_of bytes s w b f (files_in b f s.tree i) named

        full : (t : Directory) → folder bytes b s.tree ≡ t → replaces (directory F) (some (directory t)) ≡ error ENOTEMPTY
        full empty p = unfold find in (none≢some (ap (find f) (sym p) ∙ find-file bytes s w b f (files_in b f s.tree i) named))
        full (entry n x r) p = refl

    pub fails-refused : (x : Step) → step_fault x s ≡ some fails → OntoItself x ⊎ Impossible x s
    unfolding step_fault tag_and_names
    fails-refused rewrite_header e = none≢some e
    fails-refused hold_header e = none≢some e
    fails-refused sync_staging e = none≢some e
    fails-refused sync_log e = none≢some e
    fails-refused remove_log e = none≢some e
    fails-refused sync_journal e = none≢some e
    fails-refused sync_collections e = none≢some e
    fails-refused (make_directory d) e = go (ltb (length (dirs s.tree)) 16) e
      where
        go : (t : Bool) → if◌then◌else◌ t none (some full) ≡ some fails → OntoItself (make_directory d) ⊎ Impossible (make_directory d) s
        go true e = none≢some e
        go false e = full≢fails (some_inj e)
    fails-refused (rename_file d a b) e = inr (inl (b, inr (inr (inl refl)), too_long b e))
    fails-refused (move_staged f d k) e = go (look (staging_key f) s.staging) refl e
      where
        go : (q : Option ℕ) → look (staging_key f) s.staging ≡ q → case_option q (some fails) (λ x. new_file (d, k) s.tree) ≡ some fails →
            OntoItself (move_staged f d k) ⊎ Impossible (move_staged f d k) s
        go none p e = inr (inr (ENOENT, refused-staged f d k p))
        go (some x) p e = new-file (d, k) s.tree e
    fails-refused (rename_directory a b) e = go (name_too_long b) refl (files b s.tree) refl (look (a, []) s.tree) refl (name_dec a b) e
      where
        go : (q : Option Fault) → name_too_long b ≡ q → (l : List Name) → files b s.tree ≡ l → (h : Option ℕ) → look (a, []) s.tree ≡ h → Dec (a ≡ b) →
            case_option q (if_empty l none (some fails)) some ≡ some fails → OntoItself (rename_directory a b) ⊎ Impossible (rename_directory a b) s
        go (some z) p l q h r o e = inr (inl (b, inr (inl refl), too_long b (p ∙ e)))
        go none p [] q h r o e = none≢some e
        go none p (f ∷ l) q none r o e = inr (inr (ENOENT, refused-directory a b r))
        go none p (f ∷ l) q (some x) r (yes o) e = inl (b, ap (λ (c : Name). rename_directory c b) o)
        go none p (f ∷ l) q (some x) r (no o) e = inr (inr (ENOTEMPTY, refused-target a b f l (x, r) o q))
    fails-refused (copy_file a b f) e = go (look (a, f) s.tree) refl e
      where
        go : (q : Option ℕ) → look (a, f) s.tree ≡ q → case_option q (some fails) (λ x. new_file (b, f) s.tree) ≡ some fails →
            OntoItself (copy_file a b f) ⊎ Impossible (copy_file a b f) s
        go none p e = inr (inr (ENOENT, refused-source a b f p))
        go (some x) p e = new-file (b, f) s.tree e
    fails-refused (remove_file d f) e = none≢some e
    fails-refused (remove_directory d) e = none≢some e
    fails-refused (remove_staging f) e = none≢some e
    fails-refused (sync_directory d) e = none≢some e

-- The step at which a plan stops.
stopped-at : (P : Step → Type 0) (e : Fault) (xs : List Step) (s : Store) → All P xs → first_fault xs s ≡ some e → (x : Step) × P x × (step_fault x (apply_all (steps_before_fault xs s) s) ≡ some e)
stopped-at P e [] s h p = none≢some p
stopped-at P e (x ∷ xs) s h p = go (step_fault x s) refl p (λ q. stopped-at P e xs (apply x s) h.1 q)
  where
    go : (q : Option Fault) → step_fault x s ≡ q → case_option q (first_fault xs (apply x s)) some ≡ some e →
        (first_fault xs (apply x s) ≡ some e → (y : Step) × P y × (step_fault y (apply_all (steps_before_fault xs (apply x s)) (apply x s)) ≡ some e)) →
        (y : Step) × P y × (step_fault y (apply_all (case_option q (x ∷ steps_before_fault xs (apply x s)) (λ z. [])) s) ≡ some e)
    go none r p ih = ih p
    go (some f) r p ih = (x, h.0, r ∙ p)

-- A commit renames directories to their backup names alone.
abbrev Onto : Step → Type 0
Onto x = OntoItself x → ⊥

other_step : (x : Step) → eqb (tag_and_names x).0 0x26 ≡ false → Onto x
unfolding tag_and_names
other_step x e o = false≢true (sym e ∙ ap (λ (y : Step). eqb (tag_and_names y).0 0x26) o.1)

to-backup : (c : Name) → Onto (rename_directory c (backup_name c))
unfolding tag_and_names
to-backup c o = backup-apart c (ap (λ (y : Step). get_or (tag_and_names y).1 0 []) o.1 ∙ sym (ap (λ (y : Step). get_or (tag_and_names y).1 1 []) o.1))

present-all : {A : Type 0} (P : Step → Type 0) (q : Option A) (l : List Step) → All P l → All P (if_present q l)
present-all P none l h = tt
present-all P (some a) l h = h

missing-all : {A : Type 0} (P : Step → Type 0) (q : Option A) (l : List Step) → All P l → All P (if_missing q l)
missing-all P none l h = h
missing-all P (some a) l h = tt

made-onto : (c : Name) → All Onto (make_directory c ∷ [])
unfolding tag_and_names
made-onto c = (other_step (make_directory c) refl, tt)

aside-onto : (c k : Name) → All Onto (rename_file c k (backup_name k) ∷ [])
unfolding tag_and_names
aside-onto c k = (other_step (rename_file c k (backup_name k)) refl, tt)

op-onto : (o : Op) (s : Store) → All Onto (op_steps o s)
unfolding op_steps tag_and_names
op-onto (write w) s =
    all_append Onto (if_missing (look (w.collection, []) s.tree) (make_directory w.collection ∷ []) ++ if_present (look (target w) s.tree) aside) _
    (all_append Onto (if_missing (look (w.collection, []) s.tree) (make_directory w.collection ∷ [])) _
    (missing-all Onto (look (w.collection, []) s.tree) _ (made-onto w.collection))
    (present-all Onto (look (target w) s.tree) _ (aside-onto w.collection w.key)))
    (other_step (move_staged w.staged w.collection w.key) refl, tt)
  where
    aside : List Step
    aside = rename_file w.collection w.key (backup_name w.key) ∷ []
op-onto (delete c k) s = present-all Onto (look (c, k) s.tree) _ (aside-onto c k)
op-onto (delete_all c) s =
    all_map (λ f. Unit {0}) Onto (λ f. rename_file c f (backup_name f)) (λ f h. other_step (rename_file c f (backup_name f)) refl) (files c s.tree) (all_every (λ f. tt) (files c s.tree))
op-onto (create_collection c) s = missing-all Onto (look (c, []) s.tree) _ (made-onto c)
op-onto (delete_collection c) s = present-all Onto (look (c, []) s.tree) _ (to-backup c, tt)
op-onto (copy_collection a b existed) s = all_append Onto xs (ys (look (a, []) u.tree) ++ []) first (all_append Onto (ys (look (a, []) u.tree)) [] (copies (look (a, []) u.tree)) tt)
  where
    xs : List Step
    xs = if_present (look (b, []) s.tree) (rename_directory b (backup_name b) ∷ []) ++ make_directory b ∷ []

    u : Store
    u = apply_all xs s

    ys : Option ℕ → List Step
    ys q = case_option q (copy_file a b [] ∷ []) (λ n. map (copy_file a b) (files a u.tree))

    first : All Onto xs
    first = all_append Onto (if_present (look (b, []) s.tree) (rename_directory b (backup_name b) ∷ [])) _ (present-all Onto (look (b, []) s.tree) _ (to-backup b, tt)) (made-onto b)

    copies : (q : Option ℕ) → All Onto (ys q)
    copies none = (other_step (copy_file a b []) refl, tt)
    copies (some n) = all_map (λ f. Unit {0}) Onto (copy_file a b) (λ f h. other_step (copy_file a b f) refl) (files a u.tree) (all_every (λ f. tt) (files a u.tree))

ops-onto : (ops : List Op) (s : Store) → All Onto (operation_steps ops s)
ops-onto [] s = tt
ops-onto (o ∷ ops) s = all_append Onto (op_steps o s) (operation_steps ops (apply_all (op_steps o s) s)) (op-onto o s) (ops-onto ops (apply_all (op_steps o s) s))

-- The store that a commit which meets a failing step stops at.
unfoldable pub stopped_at : Store → Store
stopped_at s = let u : Store = apply rewrite_header s in apply_all (steps_before_fault (operation_steps (ops_of (journal s.log)) u) u) u

pub record CannotBeDone (bytes : ℕ → Bytes) (s : Store) : Type 0 where
  pub step : Step
  pub failing : step_fault step s ≡ some fails
  pub reason : Impossible bytes step s

pub commit-fails : (bytes : ℕ → Bytes) (b : Bytes) (s : Store) → decode b ≡ some s → commit_fault s ≡ some fails → CannotBeDone bytes (stopped_at s)
unfolding commit_fault stopped_at
commit-fails bytes b s d e = record { step = h.0; failing = h.2; reason = go (fails-refused bytes v end h.0 h.2) }
  where
    ops : List Op
    ops = ops_of (journal s.log)

    u : Store
    u = apply rewrite_header s

    v : Store
    v = apply_all (steps_before_fault (operation_steps ops u) u) u

    h : (x : Step) × Onto x × (step_fault x v ≡ some fails)
    h = stopped-at Onto fails (operation_steps ops u) u (ops-onto ops u) e

    start : Sound Valid [] s
    start = record { good = good s (decode-only b s d).1; fits = tt }

    end : Good Valid v
    end =
        (runs_end (Sound Valid) (rewrite_header ∷ []) (steps_before_fault (operation_steps ops u) u) u
        (before-fault-keeps valid_naming ops (journal-valid s.log) (all_imp made-valid ops (journal-valid s.log)) (rewrite_header ∷ []) u (keep-mark valid_naming [] s start))).good

    go : OntoItself h.0 ⊎ Impossible bytes h.0 v → Impossible bytes h.0 v
    go (inl o) = absurd (h.1 o)
    go (inr r) = r
