-- What the small functions do, as plans. The model's plans of the operations are made of these.
use Rattle.std.specs.Prelude.{List, [], ◌∷◌, map}
use Rattle.basics.specs.Order.{Name}
use Rattle.basics.specs.Map.{look}
use Rattle.basics.specs.Base.{if_present, if_missing}
use Rattle.basics.specs.Name.{backup_name}
use Rattle.model.specs.Store.{Store, files}
use Rattle.model.specs.Step.{Step, make_directory, rename_file, rename_directory, copy_file}

unfoldable pub back_up_standing : Name → Name → Store → List Step
back_up_standing d f s = if_present (look (d, f) s.tree) (rename_file d f (backup_name f) ∷ [])

unfoldable pub back_up_standing_dir : Name → Store → List Step
back_up_standing_dir d s = if_present (look (d, []) s.tree) (rename_directory d (backup_name d) ∷ [])

unfoldable pub make_missing : Name → Store → List Step
make_missing d s = if_missing (look (d, []) s.tree) (make_directory d ∷ [])

unfoldable pub back_up_all : Name → Store → List Step
back_up_all d s = map (λ f. rename_file d f (backup_name f)) (files d s.tree)

unfoldable pub copy_all : Name → Name → Store → List Step
copy_all a b s = map (copy_file a b) (files a s.tree)
