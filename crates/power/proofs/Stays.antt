-- Steps that change the files of some collections alone: they make, move and remove no other, and leave the log where it stands.
use Rattle.std.specs.Prelude.{◌≡◌, refl, ℕ, List, [], ◌∷◌, ◌++◌, map, reverse, Bool, true, false, if◌then◌else◌}
use Rattle.std.proofs.Common.{sym, ◌∙◌, subst, inl, inr}
use Rattle.std.proofs.Math.Option.{Option, none, some}
use Rattle.basics.specs.Order.{Name, Key}
use Rattle.basics.specs.Map.{Map, look, put, del}
use Rattle.basics.specs.Base.{In, case_option, if_present, if_missing}
use Rattle.basics.specs.Name.{backup_name, original_name, strip_tmp}
use Rattle.model.specs.Operation.{Op, write, delete, delete_all, create_collection, delete_collection, copy_collection, target, backup, stood}
use Rattle.model.specs.Store.{Store, dirs, files, staging_key}
use Rattle.model.specs.Step.{Step, rewrite_header, hold_header, sync_staging, sync_log, remove_log, sync_journal, sync_collections, make_directory, rename_file, move_staged}
use Rattle.model.specs.Step.{rename_directory, copy_file, remove_file, remove_directory, remove_staging, sync_directory, tag_and_names, apply, apply_all, step_fault}
use Rattle.model.specs.Plan.{in_turn, op_steps, undo_steps, restore_file, restore_directory, restore_backups, remove_backup_file, remove_backups_in, remove_backups}
use Rattle.model.specs.Plan.{collection_of, steps_before_fault}
use Rattle.basic_laws.specs.MapLaws.{none≢some, look-put-other, look-del-other}
use Rattle.basic_laws.specs.Tests.{All, all_append}
use Rattle.laws.specs.Listings.{dirs_in, any_unreverse}
use Rattle.cut_rule.proofs.Walk.{Through}
use Rattle.cut_rule.proofs.Files.{dir-eq}
use Rattle.power.specs.Loss.{removes_log, InPlace}
use Rattle.power.proofs.Synced.{Keeps}

abbrev pub StaysIn : (Name → Type 0) → Step → Type 0
StaysIn P rewrite_header = Unit {0}
StaysIn P hold_header = ⊥
StaysIn P sync_staging = Unit {0}
StaysIn P sync_log = Unit {0}
StaysIn P remove_log = ⊥
StaysIn P sync_journal = ⊥
StaysIn P sync_collections = Unit {0}
StaysIn P (make_directory d) = P d
StaysIn P (rename_file d a b) = P d
StaysIn P (move_staged f d k) = P d
StaysIn P (rename_directory a b) = ⊥
StaysIn P (copy_file a b f) = ⊥
StaysIn P (remove_file d f) = P d
StaysIn P (remove_directory d) = ⊥
StaysIn P (remove_staging f) = Unit {0}
StaysIn P (sync_directory d) = Unit {0}

pub stays-keeps : (P : Name → Type 0) (x : Step) → StaysIn P x → Keeps x
unfolding removes_log tag_and_names
stays-keeps P rewrite_header h = refl
stays-keeps P hold_header h = refl
stays-keeps P sync_staging h = refl
stays-keeps P sync_log h = refl
stays-keeps P remove_log h = absurd h
stays-keeps P sync_journal h = refl
stays-keeps P sync_collections h = refl
stays-keeps P (make_directory d) h = refl
stays-keeps P (rename_file d a b) h = refl
stays-keeps P (move_staged f d k) h = refl
stays-keeps P (rename_directory a b) h = refl
stays-keeps P (copy_file a b f) h = refl
stays-keeps P (remove_file d f) h = refl
stays-keeps P (remove_directory d) h = refl
stays-keeps P (remove_staging f) h = refl
stays-keeps P (sync_directory d) h = refl

-- Another collection is left as it is.
pub stays-other : (P : Name → Type 0) (x : Step) (u : Store) (d f : Name) → StaysIn P x → (P d → ⊥) → look (d, f) (apply x u).tree ≡ look (d, f) u.tree
unfolding apply
stays-other P rewrite_header u d f h n = refl
stays-other P hold_header u d f h n = refl
stays-other P sync_staging u d f h n = refl
stays-other P sync_log u d f h n = refl
stays-other P remove_log u d f h n = refl
stays-other P sync_journal u d f h n = refl
stays-other P sync_collections u d f h n = refl
stays-other P (make_directory c) u d f h n = look-put-other (c, []) (d, f) 0 u.tree (λ e. n (subst P (sym (dir-eq e)) h))
stays-other P (rename_file c a b) u d f h n = go (look (c, a) u.tree)
  where
    off : (g : Name) → ◌≡◌ {A = Key} (d, f) (c, g) → ⊥
    off g e = n (subst P (sym (dir-eq e)) h)

    go : (q : Option ℕ) → look (d, f) (case_option q u.tree (λ x. put (c, b) x (del (c, a) u.tree))) ≡ look (d, f) u.tree
    go none = refl
    go (some x) = look-put-other (c, b) (d, f) x (del (c, a) u.tree) (off b) ∙ look-del-other (c, a) (d, f) u.tree (off a)
stays-other P (move_staged g c k) u d f h n = go (look (staging_key g) u.staging)
  where
    go : (q : Option ℕ) → look (d, f) (case_option q u.tree (λ x. put (c, k) x u.tree)) ≡ look (d, f) u.tree
    go none = refl
    go (some x) = look-put-other (c, k) (d, f) x u.tree (λ e. n (subst P (sym (dir-eq e)) h))
stays-other P (rename_directory a b) u d f h n = absurd h
stays-other P (copy_file a b g) u d f h n = absurd h
stays-other P (remove_file c g) u d f h n = look-del-other (c, g) (d, f) u.tree (λ e. n (subst P (sym (dir-eq e)) h))
stays-other P (remove_directory c) u d f h n = absurd h
stays-other P (remove_staging g) u d f h n = refl
stays-other P (sync_directory c) u d f h n = refl

-- So what holds of all that P is not true of stays.
pub stays-through : (P : Name → Type 0) (I : Store → Type 0) →
    ((u v : Store) → ((d f : Name) → (P d → ⊥) → look (d, f) v.tree ≡ look (d, f) u.tree) → I u → I v) → (xs : List Step) (u : Store) →
    All (StaysIn P) xs → I u → Through I xs u
stays-through P I g [] u h i = i
stays-through P I g (x ∷ xs) u h i =
    (i, stays-through P I g xs (apply x u) h.1 (g u (apply x u) (λ d f n. stays-other P x u d f h.0 n) i))

-- No collection is a backup.
abbrev pub Flat : Map → Type 0
Flat t = (e f g : Name) → original_name e ≡ some g → look (e, f) t ≡ none

abbrev pub PlainName : Name → Type 0
PlainName d = original_name d ≡ none

pub flat-through : (xs : List Step) (u : Store) → All (StaysIn PlainName) xs → Flat u.tree → Through (λ v. Flat v.tree) xs u
flat-through xs u h i =
    stays-through PlainName (λ v. Flat v.tree) (λ u v a k e f g p. a e f (λ z. none≢some (sym z ∙ p)) ∙ k e f g p) xs u h i

-- The steps of a walk, of a test, of what is there.
pub turn-all : {A : Type 0} (G : Step → Type 0) (g : A → Store → List Step) (l : List A) → ((a : A) → In a l → (u : Store) → All G (g a u)) → (s : Store) →
    All G (in_turn g l s)
turn-all G g [] h s = tt
turn-all G g (a ∷ l) h s =
    all_append G (g a s) (in_turn g l (apply_all (g a s) s)) (h a (inl refl) s) (turn-all G g l (λ b i. h b (inr i)) (apply_all (g a s) s))

pub present-all : {A : Type 0} (G : Step → Type 0) (q : Option A) (xs : List Step) → All G xs → All G (if_present q xs)
present-all G none xs h = tt
present-all G (some x) xs h = h

missing-all : {A : Type 0} (G : Step → Type 0) (q : Option A) (xs : List Step) → All G xs → All G (if_missing q xs)
missing-all G none xs h = h
missing-all G (some x) xs h = tt

unless-all : (G : Step → Type 0) (b : Bool) (xs : List Step) → All G xs → All G (if◌then◌else◌ b [] xs)
unless-all G true xs h = tt
unless-all G false xs h = h

pub before-all : (G : Step → Type 0) (xs : List Step) (s : Store) → All G xs → All G (steps_before_fault xs s)
before-all G [] s h = tt
before-all G (x ∷ xs) s h = go (step_fault x s) (before-all G xs (apply x s) h.1)
  where
    go : {A : Type 0} (q : Option A) → All G (steps_before_fault xs (apply x s)) → All G (case_option q (x ∷ steps_before_fault xs (apply x s)) (λ e. []))
    go none k = (h.0, k)
    go (some e) k = tt

-- The operations that are in place, done and undone.
op-stays : (P : Name → Type 0) (a : Op) → InPlace a → P (collection_of a) → (u : Store) → All (StaysIn P) (op_steps a u)
unfolding op_steps
op-stays P (write w) p h u =
    all_append (StaysIn P) (if_missing (look (w.collection, []) u.tree) (make_directory w.collection ∷ []) ++ if_present (look (target w) u.tree) (r ∷ [])) (m ∷ [])
    (all_append (StaysIn P) (if_missing (look (w.collection, []) u.tree) (make_directory w.collection ∷ [])) (if_present (look (target w) u.tree) (r ∷ []))
    (missing-all (StaysIn P) (look (w.collection, []) u.tree) (make_directory w.collection ∷ []) (h, tt))
    (present-all (StaysIn P) (look (target w) u.tree) (r ∷ []) (h, tt)))
    (h, tt)
  where
    r : Step
    r = rename_file w.collection w.key (backup_name w.key)

    m : Step
    m = move_staged w.staged w.collection w.key
op-stays P (delete c k) p h u = present-all (StaysIn P) (look (c, k) u.tree) (rename_file c k (backup_name k) ∷ []) (h, tt)
op-stays P (delete_all c) p h u = all (files c u.tree)
  where
    all : (l : List Name) → All (StaysIn P) (map (λ f. rename_file c f (backup_name f)) l)
    all [] = tt
    all (f ∷ l) = (h, all l)
op-stays P (create_collection c) p h u = absurd p
op-stays P (delete_collection c) p h u = absurd p
op-stays P (copy_collection a b x) p h u = absurd p

undo-stays : (P : Name → Type 0) (a : Op) → InPlace a → P (collection_of a) → (u : Store) → All (StaysIn P) (undo_steps a u)
unfolding undo_steps
undo-stays P (write w) p h u =
    unless-all (StaysIn P) (stood w) _ (present-all (StaysIn P) (look (target w) u.tree) _
    (missing-all (StaysIn P) (look (backup w) u.tree) (remove_file w.collection w.key ∷ []) (h, tt)))
undo-stays P (delete c k) p h u = tt
undo-stays P (delete_all c) p h u = tt
undo-stays P (create_collection c) p h u = absurd p
undo-stays P (delete_collection c) p h u = absurd p
undo-stays P (copy_collection a b x) p h u = absurd p

module _ (P : Name → Type 0) (ops : List Op) (p : (a : Op) → In a ops → InPlace a) (h : (a : Op) → In a ops → P (collection_of a)) where
  pub ops-stay : (s : Store) → All (StaysIn P) (in_turn op_steps ops s)
  ops-stay s = turn-all (StaysIn P) op_steps ops (λ a i u. op-stays P a (p a i) (h a i) u) s

  pub undo-stay : (s : Store) → All (StaysIn P) (in_turn undo_steps (reverse ops) s)
  undo-stay s = turn-all (StaysIn P) undo_steps (reverse ops) (λ a i u. let j = any_unreverse (λ b. a ≡ b) ops i in undo-stays P a (p a j) (h a j) u) s

-- Backups that are put back, where no collection is one.
restore_file_lem : (d f : Name) (u : Store) → PlainName d → All (StaysIn PlainName) (restore_file d f u)
unfolding restore_file
restore_file_lem d f u h = go (original_name f)
  where
    go : (q : Option Name) →
        All (StaysIn PlainName) (case_option q (if_present (strip_tmp f) (remove_file d f ∷ [])) λ g. if_present (look (d, g) u.tree) (remove_file d g ∷ []) ++ rename_file d f g ∷ [])
    go none = present-all (StaysIn PlainName) (strip_tmp f) (remove_file d f ∷ []) (h, tt)
    go (some g) =
        all_append (StaysIn PlainName) (if_present (look (d, g) u.tree) (remove_file d g ∷ [])) (rename_file d f g ∷ [])
        (present-all (StaysIn PlainName) (look (d, g) u.tree) (remove_file d g ∷ []) (h, tt)) (h, tt)

restore_dir : (d : Name) (u : Store) → PlainName d → All (StaysIn PlainName) (restore_directory d u)
unfolding restore_directory
restore_dir d u h = rw h (turn-all (StaysIn PlainName) (restore_file d) (files d u.tree) (λ f i v. restore_file_lem d f v h) u)

flat-dir : (t : Map) (d : Name) → Flat t → In d (dirs t) → PlainName d
flat-dir t d h i = go (original_name d) refl
  where
    go : (q : Option Name) → original_name d ≡ q → original_name d ≡ none
    go none e = e
    go (some g) e = none≢some (sym (h d [] g e) ∙ (dirs_in d t i).1)

pub restore_stays : (s : Store) → Flat s.tree → All (StaysIn PlainName) (restore_backups s)
restore_stays s h = turn-all (StaysIn PlainName) restore_directory (dirs s.tree) (λ d i u. restore_dir d u (flat-dir s.tree d h i)) s

-- The removal of backups and of staging files has no 0x2B.
clean-keeps : (d : Name) (u : Store) → All Keeps (remove_backups_in d u)
unfolding remove_backups_in remove_backup_file removes_log tag_and_names
clean-keeps d u = go (original_name d)
  where
    go : (q : Option Name) → All Keeps (case_option q (in_turn (remove_backup_file d) (files d u.tree) u) (λ g. remove_directory d ∷ []))
    go none = turn-all Keeps (remove_backup_file d) (files d u.tree) (λ f i v. present-all Keeps (original_name f) (remove_file d f ∷ []) (refl, tt)) u
    go (some g) = (refl, tt)

pub removal_keeps : (s : Store) → All Keeps (remove_backups s)
removal_keeps s = turn-all Keeps remove_backups_in (dirs s.tree) (λ d i u. clean-keeps d u) s

pub unstage_keeps : (l : List Name) → All Keeps (map remove_staging l)
unfolding removes_log tag_and_names
unstage_keeps [] = tt
unstage_keeps (f ∷ l) = (refl, unstage_keeps l)
