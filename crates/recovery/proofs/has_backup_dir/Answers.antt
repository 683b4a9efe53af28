-- `has_backup_dir`: a backup name of over 64 bytes stands nowhere.
use Rattle.std.proofs.Common.{rules}
use Rattle.recovery.proofs.Nodes.{backed-dir}
use Rattle.recovery.proofs.has_backup_dir.Goals as goal

pub returns : goal.returns
returns c = backed-dir c.requires.0 _ _ c.backup.ensures c.is_some_and.ensures (λ q s k. search rules)
