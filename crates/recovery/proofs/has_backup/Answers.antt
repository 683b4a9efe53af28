-- `has_backup`: a backup name of over 64 bytes stands nowhere.
use Rattle.std.proofs.Common.{rules}
use Rattle.recovery.proofs.Nodes.{backed-file}
use Rattle.recovery.proofs.has_backup.Goals as goal

pub returns : goal.returns
returns c = backed-file c.requires.0 _ _ _ c.backup.ensures c.is_some_and.ensures (λ q s k. search rules)
