-- `encode::node_size` meets its contract.
use mathlib.Core.Path.{sym, ◌∙◌}
use Rattle.encode.proofs.Counting.{staged-size, file-size, dir-size}
use Rattle.encode.proofs.node_size.Goals as goal
use Rattle.encode.proofs.node_size.Goals.{else-not-staged-via-then-not-staged+else-is_dir, else-not-staged-via-else-not-staged}

pub returns-then-is_dir : goal.returns-then-is_dir
returns-then-is_dir c = dir-size c.if-not-staged.true (sym c.is_dir.ensures.by_length ∙ c.if-is_dir.true) c.length_of.ensures.0

pub returns : goal.returns
returns c =
    elim c.else-not-staged.branch [
      | else-not-staged-via-then-not-staged+else-is_dir w ↦ file-size w.if-not-staged.true (sym w.is_dir.ensures.by_length ∙ w.if-is_dir.false) c.length_of-2.ensures.0
      | else-not-staged-via-else-not-staged w ↦ staged-size w.if-not-staged.false c.length_of-2.ensures.0
    ]
