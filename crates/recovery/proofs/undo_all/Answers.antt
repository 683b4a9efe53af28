-- `undo_all`: new artifacts, then backups.
use Rattle.recovery.proofs.Follow.{lawful, follows_then}
use Rattle.recovery.specs.Walks.{undo_all}
use Rattle.recovery.proofs.undo_all.Goals as goal

pub returns : goal.returns
unfolding undo_all
returns c = follows_then lawful c.remove_new_artifacts.ensures c.rollback_partial_commit.ensures
