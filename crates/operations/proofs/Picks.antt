-- The plans of the small functions, by what the code finds.
use mathlib.Core.Path.{◌≡◌, refl, sym}
use mathlib.Core.List.{List, [], ◌∷◌, map}
use mathlib.Core.Option.{Option, none, some}
use mathlib.Core.Bool.{true, false, false≢true}
use Prim.Native.Nat.{ℕ}
use Rattle.basics.specs.Order.{Name}
use Rattle.basics.specs.Map.{look}
use Rattle.basics.specs.Base.{case_option, is_some}
use Rattle.basics.specs.Name.{backup_name}
use Rattle.model.specs.Store.{Store, files}
use Rattle.model.specs.Step.{Step, make_directory, rename_file, rename_directory, copy_file}
use Rattle.recovery.proofs.Picks.{present, absent, missing, standing}
use Rattle.operations.specs.Parts.{back_up_standing, back_up_standing_dir, make_missing, copy_all}

module _ (d f : Name) (s : Store) where
  pub file-kept : is_some (look (d, f) s.tree) ≡ true → rename_file d f (backup_name f) ∷ [] ≡ back_up_standing d f s
  unfolding back_up_standing
  file-kept h = sym (present (look (d, f) s.tree) _ h)

  pub no-file : is_some (look (d, f) s.tree) ≡ false → back_up_standing d f s ≡ []
  unfolding back_up_standing
  no-file h = absent (look (d, f) s.tree) _ h

module _ (d : Name) (s : Store) where
  pub dir-kept : is_some (look (d, []) s.tree) ≡ true → rename_directory d (backup_name d) ∷ [] ≡ back_up_standing_dir d s
  unfolding back_up_standing_dir
  dir-kept h = sym (present (look (d, []) s.tree) _ h)

  pub no-dir : is_some (look (d, []) s.tree) ≡ false → back_up_standing_dir d s ≡ []
  unfolding back_up_standing_dir
  no-dir h = absent (look (d, []) s.tree) _ h

  pub dir-made : is_some (look (d, []) s.tree) ≡ false → make_directory d ∷ [] ≡ make_missing d s
  unfolding make_missing
  dir-made h = sym (missing (look (d, []) s.tree) _ h)

  pub dir-stands : is_some (look (d, []) s.tree) ≡ true → make_missing d s ≡ []
  unfolding make_missing
  dir-stands h = standing (look (d, []) s.tree) _ h

-- What a copy does behind its destination: all files of its source, or its failing step.
unfoldable pub copy_source : Name → Name → Store → List Step
copy_source a b s = case_option (look (a, []) s.tree) (copy_file a b [] ∷ []) (λ x. map (copy_file a b) (files a s.tree))

module _ (a b : Name) (s : Store) where
  pub source-copied : is_some (look (a, []) s.tree) ≡ true → copy_all a b s ≡ copy_source a b s
  unfolding copy_all copy_source
  source-copied h = go (look (a, []) s.tree) h
    where
      go : (o : Option ℕ) → is_some o ≡ true → map (copy_file a b) (files a s.tree) ≡ case_option o (copy_file a b [] ∷ []) (λ x. map (copy_file a b) (files a s.tree))
      go none h = absurd (false≢true h)
      go (some x) h = refl

  pub source-gone : is_some (look (a, []) s.tree) ≡ false → copy_file a b [] ∷ [] ≡ copy_source a b s
  unfolding copy_source
  source-gone h = go (look (a, []) s.tree) h
    where
      go : (o : Option ℕ) → is_some o ≡ false → copy_file a b [] ∷ [] ≡ case_option o (copy_file a b [] ∷ []) (λ x. map (copy_file a b) (files a s.tree))
      go none h = refl
      go (some x) h = absurd (false≢true (sym h))
