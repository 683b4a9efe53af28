-- `decode::node_of` meets its contract, one lemma for each tag.
use mathlib.Core.Path.{sym, ◌∙◌}
use Rattle.decode.proofs.Choices.{nowhere, of-file}
use Rattle.decode.proofs.node_of.Goals as goal
use Rattle.decode.proofs.node_of.Goals.{else-x-eq17-via-then-x-eq17+else-length_of-eq0, else-x-eq17-via-else-x-eq17}

pub returns-then-length_of-eq0 : goal.returns-then-length_of-eq0
returns-then-length_of-eq0 c = nowhere c.args.staged c.requires.0 c.requires.1 c.if-x-eq17.true (sym c.length_of.ensures.0 ∙ c.if-length_of-eq0.true)

pub file_at-requires : goal.file_at-requires
file_at-requires c =
    of-file c.args.staged c.requires.0 c.requires.1 c.if-x-eq16.false (λ z l.
    elim c.else-x-eq17.branch [
      | else-x-eq17-via-then-x-eq17+else-length_of-eq0 w ↦ w.if-length_of-eq0.false (w.length_of.ensures.0 ∙ l)
      | else-x-eq17-via-else-x-eq17 w ↦ w.if-x-eq17.false z
    ])
