-- Steps that are ready, one behind the other: what they keep of a store, and walks of them.
use Rattle.std.specs.Prelude.{◌≡◌, refl, ℕ, List, [], ◌∷◌, ◌++◌}
use Rattle.std.proofs.Common.{sym, ◌∙◌, ap, subst, inl, inr}
use Rattle.std.proofs.Math.Option.{Option, none, some}
use Rattle.basics.specs.Order.{Cmp, lt, eq, gt, Name, Key, cmp_name, case_cmp}
use Rattle.basics.specs.Map.{Map, look, put, del, Has}
use Rattle.basics.specs.Base.{In, case_option, if_empty}
use Rattle.basics.specs.Name.{backup_name, backup_extension}
use Rattle.model.specs.Store.{Store, staging_key, dirs, files}
use Rattle.model.specs.Step.{Step, rewrite_header, sync_staging, sync_log, remove_log, sync_journal, sync_collections, make_directory, rename_file, move_staged, rename_directory, copy_file, remove_file, remove_directory, remove_staging, sync_directory, remove_dir, rename_dir, marked, apply, apply_all, Fault, step_fault, hold_header, marked_held}
use Rattle.model.specs.Plan.{in_turn, first_fault, steps_before_fault}
use Rattle.basic_laws.specs.OrderLaws.{nat_same, name_laws}
use Rattle.basic_laws.specs.MapLaws.{Sorted, key_dec, none≢some, look-put-same, look-put-other, look-del-other, look-del-some, sorted-put, sorted-del}
use Rattle.laws.specs.StoreLaws.{Good, Staging, staging-del, name_dec, sorted-drop, look-drop-same, look-drop-other, look-drop-some, look-move-other, look-move-from, look-move-to, sorted-move}
use Rattle.laws.specs.Listings.{dirs_in, files_in, files-named}
use Rattle.laws.specs.Runs.{apply_all_append, fault-head}
use Rattle.posix_laws.specs.FolderLaws.{first_lt, second_lt}
use Rattle.posix_laws.specs.Ready.{IsName, LogStands, Ready}

-- What the steps of a plan need of a store: it is sorted, and no file stands without its directory.
abbrev pub Inside : Map → Type 0
Inside t = (d f : Name) → Has (d, f) t → IsName f → Has (d, []) t

pub record Fair (s : Store) : Type 0 where
  pub sorted : Sorted s.tree
  pub inside : Inside s.tree
  pub staging : Staging s.staging

pub good_fair : {N : Name → Type 0} (s : Store) → Good N s → Fair s
good_fair s g = record { sorted = g.tree.sorted; inside = λ d f i z. (g.tree.node d f i.0 i.1).inside z; staging = g.staging }

inside-put : (d f : Name) (x : ℕ) (t : Map) → Inside t → Has (d, []) (put (d, f) x t) → Inside (put (d, f) x t)
inside-put d f x t h i c k j z = at (key_dec (c, k) (d, f))
  where
    keep : Has (c, []) t → Dec (◌≡◌ {A = Key} (c, []) (d, f)) → Has (c, []) (put (d, f) x t)
    keep w (yes p) = (x, rw p (look-put-same (d, f) x t))
    keep w (no p) = (w.0, look-put-other (d, f) (c, []) x t p ∙ w.1)

    at : Dec (◌≡◌ {A = Key} (c, k) (d, f)) → Has (c, []) (put (d, f) x t)
    at (yes p) = subst (λ (c : Name). Has (c, []) (put (d, f) x t)) (sym (ap (λ (j : Key). j.0) p)) i
    at (no p) = keep (h c k (j.0, sym (look-put-other (d, f) (c, k) x t p) ∙ j.1) z) (key_dec (c, []) (d, f))

inside-del : (d f : Name) (t : Map) → IsName f → Inside t → Inside (del (d, f) t)
inside-del d f t y h c k j z = let w = h c k (j.0, look-del-some (d, f) (c, k) t j.0 j.1) z in (w.0, look-del-other (d, f) (c, []) t (λ p. y (sym (ap (λ (j : Key). j.1) p))) ∙ w.1)

inside-drop : (d : Name) (t : Map) → Inside t → Inside (remove_dir d t)
inside-drop d t h c k j z = at (name_dec d c)
  where
    at : Dec (d ≡ c) → Has (c, []) (remove_dir d t)
    at (yes p) = none≢some (sym (look-drop-same d (c, k) t p) ∙ j.1)
    at (no p) = let w = h c k (j.0, look-drop-some d (c, k) t j.0 j.1) z in (w.0, look-drop-other d (c, []) t p ∙ w.1)

pub moved-away : (a b f : Name) (t : Map) → (a ≡ b → ⊥) → look (a, f) (rename_dir a b t t) ≡ none
moved-away a b f t apart = go (look (a, f) t) refl
  where
    go : (o : Option ℕ) → look (a, f) t ≡ o → look (a, f) (rename_dir a b t t) ≡ none
    go none e = look-move-from a b apart f t t (inl e)
    go (some x) e = look-move-from a b apart f t t (inr (x, e))

inside-move : (a b : Name) (t : Map) → (a ≡ b → ⊥) → Sorted t → Has (a, []) t → Inside t → Inside (rename_dir a b t t)
inside-move a b t apart s i h c k j z = at (name_dec c a) (name_dec c b)
  where
    at : Dec (c ≡ a) → Dec (c ≡ b) → Has (c, []) (rename_dir a b t t)
    at (yes p) q = none≢some (sym (moved-away a b k t apart) ∙ ap (λ (d : Name). look (d, k) (rename_dir a b t t)) (sym p) ∙ j.1)
    at (no p) (yes q) = (i.0, ap (λ (d : Name). look (d, []) (rename_dir a b t t)) q ∙ look-move-to a b apart [] t t s ∙ rw i.1)
    at (no p) (no q) = let w = h c k (j.0, sym (look-move-other a b apart c k t t p q) ∙ j.1) z in (w.0, look-move-other a b apart c [] t t p q ∙ w.1)

-- A ready step keeps it.
pub fair_step : (x : Step) (s : Store) → Ready x s → Fair s → Fair (apply x s)
unfolding apply
fair_step rewrite_header s h f = record { sorted = f.sorted; inside = f.inside; staging = f.staging }
fair_step hold_header s h f = record { sorted = f.sorted; inside = f.inside; staging = f.staging }
fair_step sync_staging s h f = f
fair_step sync_log s h f = f
fair_step remove_log s h f = record { sorted = f.sorted; inside = f.inside; staging = f.staging }
fair_step sync_journal s h f = f
fair_step sync_collections s h f = f
fair_step (make_directory d) s h f = record {
  sorted = sorted-put (d, []) 0 s.tree f.sorted;
  inside = inside-put d [] 0 s.tree f.inside (0, look-put-same (d, []) 0 s.tree);
  staging = f.staging;
}
fair_step (rename_file d a b) s h f = rw h.0.1.1 record {
  sorted = sorted-put (d, b) _ _ (sorted-del (d, a) s.tree f.sorted);
  inside = inside-put d b _ _ (inside-del d a s.tree h.0.0 f.inside) (let w = f.inside d a h.0.1 h.0.0 in (
    w.0,
    look-put-other (d, b) (d, []) _ _ (λ p. h.1 (sym (ap (λ (j : Key). j.1) p))) ∙ look-del-other (d, a) (d, []) s.tree (λ p. h.0.0 (sym (ap (λ (j : Key). j.1) p))) ∙ w.1,
  ));
  staging = f.staging;
}
fair_step (move_staged g d k) s h f = rw h.0.1 record {
  sorted = sorted-put (d, k) _ s.tree f.sorted;
  inside = inside-put d k _ s.tree f.inside (h.1.0, look-put-other (d, k) (d, []) _ s.tree (λ p. h.2 (sym (ap (λ (j : Key). j.1) p))) ∙ h.1.1);
  staging = staging-del s.staging (staging_key g) f.staging;
}
fair_step (rename_directory a b) s h f = record {
  sorted = sorted-move a b h.2 s.tree s.tree f.sorted;
  inside = inside-move a b s.tree h.2 f.sorted h.0 f.inside;
  staging = f.staging;
}
fair_step (copy_file a b g) s h f = rw h.0.1.1 record {
  sorted = sorted-put (b, g) _ s.tree f.sorted;
  inside = inside-put b g _ s.tree f.inside (h.1.0, look-put-other (b, g) (b, []) _ s.tree (λ p. h.0.0 (sym (ap (λ (j : Key). j.1) p))) ∙ h.1.1);
  staging = f.staging;
}
fair_step (remove_file d g) s h f = record { sorted = sorted-del (d, g) s.tree f.sorted; inside = inside-del d g s.tree h.0 f.inside; staging = f.staging }
fair_step (remove_directory d) s h f = record { sorted = sorted-drop d s.tree f.sorted; inside = inside-drop d s.tree f.inside; staging = f.staging }
fair_step (remove_staging g) s h f = record { sorted = f.sorted; inside = f.inside; staging = staging-del s.staging (staging_key g) f.staging }
fair_step (sync_directory d) s h f = f

-- Every step of a plan is ready in its turn.
abbrev pub AllReady : List Step → Store → Type 0
AllReady [] s = Unit {0}
AllReady (x ∷ xs) s = Ready x s × AllReady xs (apply x s)

-- The same, and none removes the log.
abbrev pub Leaves : Step → Type 0
Leaves rewrite_header = Unit {0}
Leaves hold_header = Unit {0}
Leaves sync_staging = Unit {0}
Leaves sync_log = Unit {0}
Leaves remove_log = ⊥
Leaves sync_journal = Unit {0}
Leaves sync_collections = Unit {0}
Leaves (make_directory d) = Unit {0}
Leaves (rename_file d a b) = Unit {0}
Leaves (move_staged f d k) = Unit {0}
Leaves (rename_directory a b) = Unit {0}
Leaves (copy_file a b f) = Unit {0}
Leaves (remove_file d f) = Unit {0}
Leaves (remove_directory d) = Unit {0}
Leaves (remove_staging f) = Unit {0}
Leaves (sync_directory d) = Unit {0}

abbrev pub Going : List Step → Store → Type 0
Going [] s = Unit {0}
Going (x ∷ xs) s = Ready x s × Leaves x × Going xs (apply x s)

-- The same up to the first step that fails.
abbrev pub GoingOn : List Step → Store → Type 0
GoingOn [] s = Unit {0}
GoingOn (x ∷ xs) s = step_fault x s ≡ none → Ready x s × Leaves x × GoingOn xs (apply x s)

log-step : (x : Step) (s : Store) → Leaves x → LogStands s → LogStands (apply x s)
unfolding apply
log-step rewrite_header s h l = (_, ap marked l.1)
log-step hold_header s h l = (_, ap marked_held l.1)
log-step sync_staging s h l = l
log-step sync_log s h l = l
log-step remove_log s h l = absurd h
log-step sync_journal s h l = l
log-step sync_collections s h l = l
log-step (make_directory d) s h l = l
log-step (rename_file d a b) s h l = l
log-step (move_staged f d k) s h l = l
log-step (rename_directory a b) s h l = l
log-step (copy_file a b f) s h l = l
log-step (remove_file d f) s h l = l
log-step (remove_directory d) s h l = l
log-step (remove_staging f) s h l = l
log-step (sync_directory d) s h l = l

pub going_fair : (xs : List Step) (s : Store) → Going xs s → Fair s → Fair (apply_all xs s)
going_fair [] s h f = f
going_fair (x ∷ xs) s h f = going_fair xs (apply x s) h.2 (fair_step x s h.0 f)

pub going-log : (xs : List Step) (s : Store) → Going xs s → LogStands s → LogStands (apply_all xs s)
going-log [] s h l = l
going-log (x ∷ xs) s h l = going-log xs (apply x s) h.2 (log-step x s h.1 l)

pub going-ready : (xs ys : List Step) (s : Store) → Going xs s → AllReady ys (apply_all xs s) → AllReady (xs ++ ys) s
going-ready [] ys s h k = k
going-ready (x ∷ xs) ys s h k = (h.0, going-ready xs ys (apply x s) h.2 k)

pub going_append : (xs ys : List Step) (s : Store) → Going xs s → Going ys (apply_all xs s) → Going (xs ++ ys) s
going_append [] ys s h k = k
going_append (x ∷ xs) ys s h k = (h.0, h.1, going_append xs ys (apply x s) h.2 k)

pub on_append : (xs ys : List Step) (s : Store) → GoingOn xs s → (Going xs s → GoingOn ys (apply_all xs s)) → GoingOn (xs ++ ys) s
on_append [] ys s h k = k tt
on_append (x ∷ xs) ys s h k = λ e. let g = h e in (g.0, g.1, on_append xs ys (apply x s) g.2 (λ r. k (g.0, g.1, r)))

pub on-going : (xs : List Step) (s : Store) → GoingOn xs s → first_fault xs s ≡ none → Going xs s
on-going [] s h e = tt
on-going (x ∷ xs) s h e = let f = fault-head x xs s e in let g = h f.0 in (g.0, g.1, on-going xs (apply x s) g.2 f.1)

pub on-before : (xs : List Step) (s : Store) → GoingOn xs s → Going (steps_before_fault xs s) s
on-before [] s h = tt
on-before (x ∷ xs) s h = go (step_fault x s) refl (λ g. on-before xs (apply x s) g)
  where
    go : (q : Option Fault) → step_fault x s ≡ q → (GoingOn xs (apply x s) → Going (steps_before_fault xs (apply x s)) (apply x s)) →
        Going (case_option q (x ∷ steps_before_fault xs (apply x s)) (λ e. [])) s
    go none e ih = let g = h e in (g.0, g.1, ih g.2)
    go (some f) e ih = tt

-- A walk over a list, with what holds of the elements that are left.
module _ {A : Type 0} (g : A → Store → List Step) (Left : List A → Store → Type 0)
    (each : (a : A) (l : List A) (s : Store) → Fair s → Left (a ∷ l) s → Going (g a s) s × Left l (apply_all (g a s) s)) where
  pub going-walk : (l : List A) (s : Store) → Fair s → Left l s → Going (in_turn g l s) s × Left [] (apply_all (in_turn g l s) s)
  going-walk [] s f h = (tt, h)
  going-walk (a ∷ l) s f h =
      let k : Going (g a s) s × Left l (apply_all (g a s) s) = each a l s f h in
      let r : Going (in_turn g l (apply_all (g a s) s)) (apply_all (g a s) s) × Left [] (apply_all (in_turn g l (apply_all (g a s) s)) (apply_all (g a s) s)) =
      going-walk l (apply_all (g a s) s) (going_fair (g a s) s k.0 f) k.1 in
      (going_append (g a s) (in_turn g l (apply_all (g a s) s)) s k.0 r.0, subst (Left []) (sym (apply_all_append (g a s) (in_turn g l (apply_all (g a s) s)) s)) r.1)

-- Names that ascend.
abbrev pub Ascend : List Name → Type 0
Ascend [] = Unit {0}
Ascend (a ∷ l) = ((b : Name) → In b l → cmp_name a b ≡ lt) × Ascend l

pub dirs-ascend : (t : Map) → Sorted t → Ascend (dirs t)
unfolding dirs
dirs-ascend [] s = tt
dirs-ascend (n ∷ r) s = go (dirs-ascend r s.1) n.0.1 refl
  where
    go : Ascend (dirs r) → (g : Name) → n.0.1 ≡ g → Ascend (if_empty g (n.0.0 ∷ dirs r) (dirs r))
    go ih [] e = (λ b i. let h = dirs_in b r i in let k : ◌≡◌ {A = Key} n.0 (n.0.0, []) = λ j. (n.0.0, e j) in first_lt n.0.0 b (rw k at (s.0 (b, []) h.0 h.1)), ih)
    go ih (y ∷ ys) e = ih

pub files-ascend : (d : Name) (t : Map) → Sorted t → Ascend (files d t)
unfolding files
files-ascend d [] s = tt
files-ascend d (n ∷ r) s = go (files-ascend d r s.1) (cmp_name d n.0.0) refl n.0.1 refl
  where
    go : Ascend (files d r) → (c : Cmp) → cmp_name d n.0.0 ≡ c → (g : Name) → n.0.1 ≡ g → Ascend (case_cmp c (files d r) (if_empty g (files d r) (g ∷ files d r)) (files d r))
    go ih lt p g e = ih
    go ih eq p [] e = ih
    go ih eq p (y ∷ ys) e = (above, ih)
      where
        above : (b : Name) → In b (files d r) → cmp_name (y ∷ ys) b ≡ lt
        above b i =
            let h = files_in d b r i in
            let k : ◌≡◌ {A = Key} n.0 (d, y ∷ ys) = λ j. (sym (name_laws.equal d n.0.0 p) j, e j) in
            second_lt d (y ∷ ys) b (rw k at (s.0 (d, b) h.0 h.1))
    go ih gt p g e = ih

-- A name stands before its backup name.
pub backup-above : (g : Name) → cmp_name g (backup_name g) ≡ lt
unfolding backup_name
backup-above g = go g
  where
    go : (g : Name) → cmp_name g (g ++ 0x2E ∷ backup_extension) ≡ lt
    go [] = refl
    go (x ∷ xs) = rw (nat_same x) (go xs)

-- A directory that is missing has no files.
pub missing-empty : (d : Name) (t : Map) → Inside t → look (d, []) t ≡ none → files d t ≡ []
missing-empty d t h e = go (files d t) refl
  where
    go : (l : List Name) → files d t ≡ l → l ≡ []
    go [] p = refl
    go (f ∷ l) p =
        let i : In f (files d t) = subst (In f) (sym p) (inl refl) in
        none≢some (sym e ∙ (h d f (files_in d f t i) (files-named d t f i)).1)

-- What a step leaves as it was.
pub removed-other : (d f : Name) (s : Store) (k : Key) → (k ≡ (d, f) → ⊥) → look k (apply (remove_file d f) s).tree ≡ look k s.tree
unfolding apply
removed-other d f s k p = look-del-other (d, f) k s.tree p

pub renamed-other : (d a b : Name) (s : Store) (k : Key) → (k ≡ (d, a) → ⊥) → (k ≡ (d, b) → ⊥) → look k (apply (rename_file d a b) s).tree ≡ look k s.tree
unfolding apply
renamed-other d a b s k p q = go (look (d, a) s.tree)
  where
    go : (o : Option ℕ) → look k (case_option o s.tree (λ x. put (d, b) x (del (d, a) s.tree))) ≡ look k s.tree
    go none = refl
    go (some x) = look-put-other (d, b) k x (del (d, a) s.tree) q ∙ look-del-other (d, a) k s.tree p

pub renamed-to : (d a b : Name) (s : Store) → Has (d, a) s.tree → Has (d, b) (apply (rename_file d a b) s).tree
unfolding apply
renamed-to d a b s i = (i.0, rw i.1 (look-put-same (d, b) i.0 (del (d, a) s.tree)))
