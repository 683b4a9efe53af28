-- `find_backup`: what the walk through the files met decides, else the walk through the directories' names.
use mathlib.Core.Path.{◌≡◌}
use Rattle.std.proofs.Common.{rules}
use Rattle.std.specs.Prelude.{option_map}
use Rattle.recovery.specs.declared.search.BackupHit.TheVariants as code
use Rattle.recovery.proofs.Seek.{file-hit, dir_or_none}
use Rattle.recovery.proofs.search.find_backup.Goals as goal

pub returns-in-Some : goal.returns-in-Some
returns-in-Some c = file-hit c.in-Some.ensures

pub returns : goal.returns
returns c =
    let e : c.map.result ≡ option_map (λ x. code.Directory x.dir) c.first_backup_directory.result = search rules in
    rw e (dir_or_none c.in_default.ensures c.first_backup_directory.result c.first_backup_directory.ensures)
