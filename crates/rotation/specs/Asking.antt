-- Whether a collection of an image has a file, of any name.
use Rattle.std.specs.Prelude.{Bool, true, false, if◌then◌else◌}
use Rattle.basics.specs.Order.{Name}
use Rattle.basics.specs.Base.{Bytes, case_option, if_empty}
use Rattle.basics.specs.Name.{valid_name}
use Rattle.model.specs.Store.{Store, files}
use Rattle.model.specs.Image.{decode}

abbrev pub any_file : Name → Store → Bool
any_file d s = if valid_name d then if_empty (files d s.tree) false true else false

unfoldable pub has_file : Name → Bytes → Bool
has_file d b = case_option (decode b) false (any_file d)
