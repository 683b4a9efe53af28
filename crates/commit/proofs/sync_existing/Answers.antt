-- `sync_existing` syncs a directory that stands.
use mathlib.Core.Path.{sym, ◌∙◌}
use Rattle.steps.specs.Steps.{step_of}
use Rattle.recovery.proofs.Follow.{lawful, stays, follows_as}
use Rattle.commit.proofs.Parts.{synced, not-synced}
use Rattle.commit.proofs.sync_existing.Goals as goal

pub advance-requires : goal.advance-requires
unfolding step_of
advance-requires c = ((c.requires.0, record { names = c.requires.1 }), tt)

pub returns-then-dir_exists : goal.returns-then-dir_exists
unfolding step_of
returns-then-dir_exists c = follows_as lawful c.advance.ensures (synced _ _ (sym c.dir_exists.ensures ∙ c.if-dir_exists.true))

pub returns-else-dir_exists : goal.returns-else-dir_exists
returns-else-dir_exists c = stays lawful c.requires.0 (not-synced _ _ (sym c.dir_exists.ensures ∙ c.if-dir_exists.false))
