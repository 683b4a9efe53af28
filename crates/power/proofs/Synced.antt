-- The added syncs: they change nothing, and nothing else is added.
use Rattle.std.specs.Prelude.{◌≡◌, refl, List, [], ◌∷◌, ◌++◌, Bool, true, false}
use Rattle.std.proofs.Common.{sym, ◌∙◌, ap, ap₂, subst, append_assoc}
use Rattle.std.proofs.Math.Option.{Option, none, some}
use Rattle.basics.specs.Order.{Name}
use Rattle.basics.specs.Base.{case_option, if_missing}
use Rattle.model.specs.Store.{Store}
use Rattle.model.specs.Step.{Step, sync_journal, apply, apply_all, Fault}
use Rattle.model.specs.Plan.{commit_fault, commit_plan, recover_plan}
use Rattle.answers.specs.Answers.{commit_step, recover_step}
use Rattle.basic_laws.specs.Tests.{All, all_append}
use Rattle.laws.specs.Runs.{apply_all_append}
use Rattle.power.specs.Loss.{Area, collections_area, journal_area, log_area, files_area, sync_of, removes_log, standing, sync_all, around, with_syncs, synced_first, synced_plan}
use Rattle.power.specs.Loss.{synced_commit, SyncsPutIn, end, step, sync, OnlySyncs, Told}
use Rattle.power.proofs.Could.{Idles, idles-end}

pub sync-idles : (a : Area) → Idles (sync_of a)
unfolding apply
sync-idles collections_area u = refl
sync-idles journal_area u = refl
sync-idles log_area u = refl
sync-idles (files_area d) u = refl

pub sync-all : (G : Step → Type 0) → ((a : Area) → G (sync_of a)) → (l : List Name) → All G (sync_all l)
sync-all G g [] = (g collections_area, tt)
sync-all G g (d ∷ l) = (g (files_area d), sync-all G g l)

-- A plan without 0x2B is left as it is.
abbrev pub Keeps : Step → Type 0
Keeps x = removes_log x ≡ false

pub with_same : (xs : List Step) (s : Store) → All Keeps xs → with_syncs xs s ≡ xs
with_same [] s h = refl
with_same (x ∷ xs) s h = ap₂ (λ (b : Bool) (ys : List Step). around b x s ++ ys) h.0 (with_same xs (apply x s) h.1)

around-end : (b : Bool) (x : Step) (s : Store) → apply_all (around b x s) s ≡ apply x s
around-end false x s = refl
around-end true x s =
    apply_all_append (sync_all (standing s)) (x ∷ sync_journal ∷ []) s ∙ sync-idles journal_area (apply x (apply_all (sync_all (standing s)) s))
    ∙ ap (apply x) (idles-end (sync_all (standing s)) s (sync-all Idles sync-idles (standing s)))

pub with_end : (xs : List Step) (s : Store) → apply_all (with_syncs xs s) s ≡ apply_all xs s
with_end [] s = refl
with_end (x ∷ xs) s =
    apply_all_append (around (removes_log x) x s) (with_syncs xs (apply x s)) s ∙ ap (apply_all (with_syncs xs (apply x s))) (around-end (removes_log x) x s)
    ∙ with_end xs (apply x s)

pub with_append : (xs ys : List Step) (s : Store) → with_syncs (xs ++ ys) s ≡ with_syncs xs s ++ with_syncs ys (apply_all xs s)
with_append [] ys s = refl
with_append (x ∷ xs) ys s =
    ap (λ (zs : List Step). around (removes_log x) x s ++ zs) (with_append xs ys (apply x s))
    ∙ sym (append_assoc (around (removes_log x) x s) (with_syncs xs (apply x s)) (with_syncs ys (apply_all xs (apply x s))))

-- What holds of a plan's steps and of every sync holds of all that is carried out.
pub with_all : (G : Step → Type 0) → ((a : Area) → G (sync_of a)) → (xs : List Step) (s : Store) → All G xs → All G (with_syncs xs s)
with_all G g [] s h = tt
with_all G g (x ∷ xs) s h =
    all_append G (around (removes_log x) x s) (with_syncs xs (apply x s)) (go (removes_log x)) (with_all G g xs (apply x s) h.1)
  where
    go : (b : Bool) → All G (around b x s)
    go false = (h.0, tt)
    go true = all_append G (sync_all (standing s)) (x ∷ sync_journal ∷ []) (sync-all G g (standing s)) (h.0, (g journal_area, tt))

-- Nothing else is added.
same_in : (xs : List Step) → SyncsPutIn xs xs
same_in [] = end
same_in (x ∷ xs) = step x xs xs (same_in xs)

with_in : (xs : List Step) (s : Store) → SyncsPutIn xs (with_syncs xs s)
with_in [] s = end
with_in (x ∷ xs) s = go (removes_log x) (with_in xs (apply x s))
  where
    zs : List Step
    zs = with_syncs xs (apply x s)

    one : SyncsPutIn xs zs → SyncsPutIn (x ∷ xs) (x ∷ sync_journal ∷ zs)
    one h = step x xs (sync_journal ∷ zs) (sync journal_area xs zs h)

    all : (l : List Name) → SyncsPutIn xs zs → SyncsPutIn (x ∷ xs) (sync_all l ++ x ∷ sync_journal ∷ zs)
    all [] h = sync collections_area (x ∷ xs) (x ∷ sync_journal ∷ zs) (one h)
    all (d ∷ l) h = sync (files_area d) (x ∷ xs) (sync_all l ++ x ∷ sync_journal ∷ zs) (all l h)

    go : (b : Bool) → SyncsPutIn xs zs → SyncsPutIn (x ∷ xs) (around b x s ++ zs)
    go false h = step x xs zs h
    go true h = subst (SyncsPutIn (x ∷ xs)) (sym (append_assoc (sync_all (standing s)) (x ∷ sync_journal ∷ []) zs)) (all (standing s) h)

pub told : Told
unfolding recover_step commit_step
told c t n d = (λ e. rw (d, e), λ ops e. rw (d, e))

pub only-syncs : OnlySyncs
unfolding synced_plan synced_commit
only-syncs s = (first s.log, commits (commit_fault s), first-end s.log, commits-end (commit_fault s))
  where
    xs : List Step
    xs = with_syncs (recover_plan s) s

    first : {A : Type 0} (q : Option A) → SyncsPutIn (recover_plan s) (if_missing q (sync_of synced_first ∷ []) ++ xs)
    first none = sync synced_first (recover_plan s) xs (with_in (recover_plan s) s)
    first (some l) = with_in (recover_plan s) s

    first-end : {A : Type 0} (q : Option A) → apply_all (if_missing q (sync_of synced_first ∷ []) ++ xs) s ≡ apply_all (recover_plan s) s
    first-end none = ap (apply_all xs) (sync-idles synced_first s) ∙ with_end (recover_plan s) s
    first-end (some l) = with_end (recover_plan s) s

    commits : (q : Option Fault) → SyncsPutIn (commit_plan s) (case_option q (commit_plan s) (λ e. with_syncs (commit_plan s) s))
    commits none = same_in (commit_plan s)
    commits (some e) = with_in (commit_plan s) s

    commits-end : (q : Option Fault) → apply_all (case_option q (commit_plan s) (λ e. with_syncs (commit_plan s) s)) s ≡ apply_all (commit_plan s) s
    commits-end none = refl
    commits-end (some e) = with_end (commit_plan s) s
