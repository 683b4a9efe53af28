-- The plans of recovery's functions, by what the code finds.
use mathlib.Core.Path.{◌≡◌, refl, sym, ◌∙◌}
use mathlib.Core.List.{List, [], ◌∷◌}
use mathlib.Core.Option.{Option, none, some}
use mathlib.Core.Bool.{true, false, false≢true}
use Rattle.std.specs.Prelude as std
use Rattle.basics.specs.Order.{Name}
use Rattle.basics.specs.Map.{look}
use Rattle.basics.specs.Base.{Bytes, is_some, if_present, if_missing, if_empty}
use Rattle.basics.specs.Name.{backup_name, original_name, strip_tmp, is_backup, is_tmp}
use Rattle.model.specs.Store.{Store, files}
use Rattle.model.specs.Step.{remove_file, remove_directory, rename_file, rename_directory, remove_log, apply}
use Rattle.model.specs.Plan.{restore_file, restore_directory, remove_backup_file, remove_backups_in}
use Rattle.plans.specs.Machine.{single, seq}
use Rattle.store.specs.Stores.{log_bytes}
use Rattle.store.specs.declared.LogRef.{LogRef}
use Rattle.recovery.specs.Walks.{over_files, clear_file, clear_dir, undo_write, undo_create, undo_copy}

-- What stands, and what does not.
pub present : {A B : Type 0} (o : Option A) (l : List B) → is_some o ≡ true → if_present o l ≡ l
present none l e = absurd (false≢true e)
present (some a) l e = refl

pub absent : {A B : Type 0} (o : Option A) (l : List B) → is_some o ≡ false → if_present o l ≡ []
absent none l e = refl
absent (some a) l e = absurd (false≢true (sym e))

pub missing : {A B : Type 0} (o : Option A) (l : List B) → is_some o ≡ false → if_missing o l ≡ l
missing none l e = refl
missing (some a) l e = absurd (false≢true (sym e))

pub standing : {A B : Type 0} (o : Option A) (l : List B) → is_some o ≡ true → if_missing o l ≡ []
standing none l e = absurd (false≢true e)
standing (some a) l e = refl

-- What stands without its backup goes.
module _ {A B C : Type 0} (o : Option A) (p : Option B) (l : List C) where
  new-gone : is_some o ≡ true → is_some p ≡ false → if_present o (if_missing p l) ≡ l
  new-gone h k = present o (if_missing p l) h ∙ missing p l k

  new-kept : is_some o ≡ true → is_some p ≡ true → if_present o (if_missing p l) ≡ []
  new-kept h k = present o (if_missing p l) h ∙ standing p l k

module _ (c k : Name) (s : Store) where
  pub write-gone : is_some (look (c, k) s.tree) ≡ true → is_some (look (c, backup_name k) s.tree) ≡ false → remove_file c k ∷ [] ≡ undo_write c k s
  unfolding undo_write
  write-gone h b = sym (new-gone (look (c, k) s.tree) (look (c, backup_name k) s.tree) (remove_file c k ∷ []) h b)

  pub write_kept : is_some (look (c, k) s.tree) ≡ true → is_some (look (c, backup_name k) s.tree) ≡ true → undo_write c k s ≡ []
  unfolding undo_write
  write_kept h b = new-kept (look (c, k) s.tree) (look (c, backup_name k) s.tree) (remove_file c k ∷ []) h b

  pub write-none : is_some (look (c, k) s.tree) ≡ false → undo_write c k s ≡ []
  unfolding undo_write
  write-none h = absent (look (c, k) s.tree) _ h

  pub file_cleared : is_some (look (c, k) s.tree) ≡ true → remove_file c k ∷ [] ≡ clear_file c k s
  unfolding clear_file
  file_cleared h = sym (present (look (c, k) s.tree) _ h)

  pub no-file : is_some (look (c, k) s.tree) ≡ false → clear_file c k s ≡ []
  unfolding clear_file
  no-file h = absent (look (c, k) s.tree) _ h

module _ (d : Name) (s : Store) where
  pub copy_gone : is_some (look (d, []) s.tree) ≡ true → is_some (look (backup_name d, []) s.tree) ≡ false → remove_directory d ∷ [] ≡ undo_copy d s
  unfolding undo_copy
  copy_gone h b = sym (new-gone (look (d, []) s.tree) (look (backup_name d, []) s.tree) (remove_directory d ∷ []) h b)

  pub copy_kept : is_some (look (d, []) s.tree) ≡ true → is_some (look (backup_name d, []) s.tree) ≡ true → undo_copy d s ≡ []
  unfolding undo_copy
  copy_kept h b = new-kept (look (d, []) s.tree) (look (backup_name d, []) s.tree) (remove_directory d ∷ []) h b

  pub copy_none : is_some (look (d, []) s.tree) ≡ false → undo_copy d s ≡ []
  unfolding undo_copy
  copy_none h = absent (look (d, []) s.tree) _ h

  pub dir_cleared : is_some (look (d, []) s.tree) ≡ true → remove_directory d ∷ [] ≡ clear_dir d s
  unfolding clear_dir
  dir_cleared h = sym (present (look (d, []) s.tree) _ h)

  pub no-directory : is_some (look (d, []) s.tree) ≡ false → clear_dir d s ≡ []
  unfolding clear_dir
  no-directory h = absent (look (d, []) s.tree) _ h

  -- A directory that an operation made goes only if it is empty.
  pub create_gone : is_some (look (d, []) s.tree) ≡ true → if_empty (files d s.tree) true false ≡ true → remove_directory d ∷ [] ≡ undo_create d s
  unfolding undo_create
  create_gone h e = sym (present (look (d, []) s.tree) _ h ∙ go (files d s.tree) e)
    where
      go : (l : List Name) → if_empty l true false ≡ true → if_empty l (remove_directory d ∷ []) [] ≡ remove_directory d ∷ []
      go [] e = refl
      go (f ∷ l) e = absurd (false≢true e)

  pub create_kept : is_some (look (d, []) s.tree) ≡ true → if_empty (files d s.tree) true false ≡ false → undo_create d s ≡ []
  unfolding undo_create
  create_kept h e = present (look (d, []) s.tree) _ h ∙ go (files d s.tree) e
    where
      go : (l : List Name) → if_empty l true false ≡ false → if_empty l (remove_directory d ∷ []) [] ≡ []
      go [] e = absurd (false≢true (sym e))
      go (f ∷ l) e = refl

  pub create_none : is_some (look (d, []) s.tree) ≡ false → undo_create d s ≡ []
  unfolding undo_create
  create_none h = absent (look (d, []) s.tree) _ h

-- A file by its name, when backups are restored and when they are removed.
module _ (d f : Name) (s : Store) where
  pub restores : (g : Name) → original_name f ≡ some g → seq apply (clear_file d g) (single (rename_file d f g)) s ≡ restore_file d f s
  unfolding seq clear_file restore_file
  restores g e = rw e

  pub drops_tmp : original_name f ≡ none → is_tmp f ≡ true → remove_file d f ∷ [] ≡ restore_file d f s
  unfolding restore_file
  drops_tmp e t = rw e (sym (present (strip_tmp f) _ t))

  pub leaves : original_name f ≡ none → is_tmp f ≡ false → restore_file d f s ≡ []
  unfolding restore_file
  leaves e t = rw e (absent (strip_tmp f) _ t)

  pub drops-backup : is_backup f ≡ true → remove_file d f ∷ [] ≡ remove_backup_file d f s
  unfolding remove_backup_file
  drops-backup h = sym (present (original_name f) _ h)

  pub no-backup : is_backup f ≡ false → remove_backup_file d f s ≡ []
  unfolding remove_backup_file
  no-backup h = absent (original_name f) _ h

-- A directory by its name.
module _ (d : Name) (s : Store) where
  pub restores-dir : (g : Name) → original_name d ≡ some g → seq apply (clear_dir g) (single (rename_directory d g)) s ≡ restore_directory d s
  unfolding seq clear_dir restore_directory
  restores-dir g e = rw e

  pub restores-files : original_name d ≡ none → over_files restore_file d s ≡ restore_directory d s
  unfolding over_files restore_directory
  restores-files e = rw e

  pub drops-dir : is_backup d ≡ true → remove_directory d ∷ [] ≡ remove_backups_in d s
  unfolding remove_backups_in
  drops-dir h = go (original_name d) refl h
    where
      go : (o : Option Name) → original_name d ≡ o → is_some o ≡ true → remove_directory d ∷ [] ≡ remove_backups_in d s
      go none e h = absurd (false≢true h)
      go (some g) e h = rw e

  pub drops-files : is_backup d ≡ false → over_files remove_backup_file d s ≡ remove_backups_in d s
  unfolding over_files remove_backups_in
  drops-files h = go (original_name d) refl h
    where
      go : (o : Option Name) → original_name d ≡ o → is_some o ≡ false → over_files remove_backup_file d s ≡ remove_backups_in d s
      go none e h = rw e
      go (some g) e h = absurd (false≢true (sym h))

-- The log, by whether it stands.
module _ (src : Bytes) where
  pub log-told : (l : std.Option LogRef) → is_some (log_bytes src l) ≡ std.is_some l
  unfolding log_bytes
  log-told std.None = refl
  log-told (std.Some l) = refl

  pub log-gone : (l : std.Option LogRef) → std.is_some l ≡ true → remove_log ∷ [] ≡ if_present (log_bytes src l) (remove_log ∷ [])
  log-gone l h = sym (present (log_bytes src l) _ (log-told l ∙ h))

  pub no-log : (l : std.Option LogRef) → std.is_some l ≡ false → if_present (log_bytes src l) (remove_log ∷ []) ≡ []
  no-log l h = absent (log_bytes src l) _ (log-told l ∙ h)
