-- No recovery looks at the open mark: its plan, with the added syncs, is the same with it and without it.
use Rattle.std.specs.Prelude.{◌≡◌, refl, List, [], ◌∷◌, ◌++◌, reverse}
use Rattle.std.proofs.Common.{◌∙◌, ap, inl, inr}
use Rattle.basics.specs.Map.{look}
use Rattle.basics.specs.Base.{In, case_option, if_present, if_missing}
use Rattle.basics.specs.Name.{original_name}
use Rattle.model.specs.Operation.{Op, write, delete, delete_all, create_collection, delete_collection, copy_collection}
use Rattle.model.specs.Log.{Journal, absent, recording, committing, held, journal, whole, truncated, undecodable, too_many}
use Rattle.model.specs.Store.{Store, dirs, files}
use Rattle.model.specs.Step.{Step, rewrite_header, hold_header, sync_staging, sync_log, remove_log, sync_journal, sync_collections, make_directory, rename_file, move_staged}
use Rattle.model.specs.Step.{rename_directory, copy_file, remove_file, remove_directory, remove_staging, sync_directory, apply, apply_all}
use Rattle.model.specs.Plan.{in_turn, run, undo_steps, restore_file, restore_directory, restore_backups, remove_backup_file, remove_backups_in, remove_backups}
use Rattle.model.specs.Plan.{recover_parts, recover_plan, without_mark}
use Rattle.basic_laws.specs.Tests.{All, all_in}
use Rattle.power.specs.Loss.{sync_of, removes_log, around, with_syncs, synced_first, synced_plan}

apply-unmarked : (x : Step) (s : Store) → apply x (without_mark s) ≡ without_mark (apply x s)
unfolding apply
apply-unmarked rewrite_header s = refl
apply-unmarked hold_header s = refl
apply-unmarked sync_staging s = refl
apply-unmarked sync_log s = refl
apply-unmarked remove_log s = refl
apply-unmarked sync_journal s = refl
apply-unmarked sync_collections s = refl
apply-unmarked (make_directory d) s = refl
apply-unmarked (rename_file d a b) s = refl
apply-unmarked (move_staged f d k) s = refl
apply-unmarked (rename_directory a b) s = refl
apply-unmarked (copy_file a b f) s = refl
apply-unmarked (remove_file d f) s = refl
apply-unmarked (remove_directory d) s = refl
apply-unmarked (remove_staging f) s = refl
apply-unmarked (sync_directory d) s = refl

all-unmarked : (xs : List Step) (s : Store) → apply_all xs (without_mark s) ≡ without_mark (apply_all xs s)
all-unmarked [] s = refl
all-unmarked (x ∷ xs) s = ap (apply_all xs) (apply-unmarked x s) ∙ all-unmarked xs (apply x s)

abbrev Blind : (Store → List Step) → Type 0
Blind p = (s : Store) → p (without_mark s) ≡ p s

turn_blind : {A : Type 0} (g : A → Store → List Step) (l : List A) → ((a : A) → In a l → Blind (g a)) → Blind (in_turn g l)
turn_blind g [] h s = refl
turn_blind g (a ∷ l) h s =
    ap (λ (xs : List Step). xs ++ in_turn g l (apply_all xs (without_mark s))) (h a (inl refl) s)
    ∙ ap (λ (u : Store). g a s ++ in_turn g l u) (all-unmarked (g a s) s)
    ∙ ap (λ (xs : List Step). g a s ++ xs) (turn_blind g l (λ b i. h b (inr i)) (apply_all (g a s) s))

undo_blind : (a : Op) → Blind (undo_steps a)
unfolding undo_steps
undo_blind (write w) s = refl
undo_blind (delete c k) s = refl
undo_blind (delete_all c) s = refl
undo_blind (create_collection c) s = refl
undo_blind (delete_collection c) s = refl
undo_blind (copy_collection a b x) s = refl

restore_blind : Blind restore_backups
unfolding restore_directory restore_file
restore_blind s =
    turn_blind restore_directory (dirs s.tree) (λ d i u.
    ap (λ (xs : List Step). case_option (original_name d) xs λ g. if_present (look (g, []) u.tree) (remove_directory g ∷ []) ++ rename_directory d g ∷ [])
    (turn_blind (restore_file d) (files d u.tree) (λ f j v. refl) u)) s

remove_blind : Blind remove_backups
unfolding remove_backups_in remove_backup_file
remove_blind s =
    turn_blind remove_backups_in (dirs s.tree) (λ d i u.
    ap (λ (xs : List Step). case_option (original_name d) xs λ g. remove_directory d ∷ []) (turn_blind (remove_backup_file d) (files d u.tree) (λ f j v. refl) u)) s

parts_blind : (j : Journal) → All Blind (recover_parts j)
parts_blind absent = (remove_blind, (λ u. refl, (λ u. refl, tt)))
parts_blind (recording ops e) = (λ u. refl, (λ u. refl, tt))
parts_blind (committing ops whole) = (turn_blind undo_steps (reverse ops) (λ a i. undo_blind a), (restore_blind, (λ u. refl, (λ u. refl, tt))))
parts_blind (committing ops (truncated c)) = (λ u. refl, (λ u. refl, tt))
parts_blind (committing ops undecodable) = (λ u. refl, (λ u. refl, tt))
parts_blind (committing ops too_many) = (λ u. refl, (λ u. refl, tt))
parts_blind (held ops e) = (λ u. refl, tt)

with_blind : (xs : List Step) → Blind (with_syncs xs)
with_blind [] s = refl
with_blind (x ∷ xs) s =
    ap (λ (ys : List Step). around (removes_log x) x s ++ ys) (ap (with_syncs xs) (apply-unmarked x s) ∙ with_blind xs (apply x s))

pub plan_blind : Blind synced_plan
unfolding synced_plan recover_plan
plan_blind s =
    ap (λ (xs : List Step). if_missing s.log (sync_of synced_first ∷ []) ++ xs)
    (ap (λ (xs : List Step). with_syncs xs (without_mark s)) (turn_blind run parts (all_in Blind parts (parts_blind (journal s.log))) s)
    ∙ with_blind (in_turn run parts s) s)
  where
    parts : List (Store → List Step)
    parts = recover_parts (journal s.log)
