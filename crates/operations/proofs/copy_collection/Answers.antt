-- `copy_collection`: its destination, then its source.
use mathlib.Core.Path.{sym, ◌∙◌}
use Rattle.steps.specs.Steps.{step_of}
use Rattle.recovery.proofs.Follow.{follows_as}
use Rattle.operations.proofs.Careful.{lawful, refused, no_source}
use Rattle.operations.proofs.Picks.{source-copied, source-gone}
use Rattle.operations.proofs.ByKind.{copied}
use Rattle.operations.proofs.copy_collection.Goals as goal

pub returns-then-dir_exists : goal.returns-then-dir_exists
unfolding step_of
returns-then-dir_exists c = copied _ _ c.back_up_standing_dir.ensures c.attempt.ensures (follows_as lawful c.copy_dir_contents.ensures (source-copied _ _ _ (sym c.dir_exists.ensures ∙ c.if-dir_exists.true)))

pub returns-else-dir_exists : goal.returns-else-dir_exists
unfolding step_of
returns-else-dir_exists c =
    let gone = sym c.dir_exists.ensures ∙ c.if-dir_exists.false in
    copied _ _ c.back_up_standing_dir.ensures c.attempt.ensures (follows_as lawful (refused c.attempt.ensures.sound (c.refuse.ensures _) _ (no_source _ _ _ gone)) (source-gone _ _ _ gone))
