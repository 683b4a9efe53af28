-- `slices` gives the span, and what stands behind it.
use Rattle.spans.proofs.Parts.{both, both-lengths}
use Rattle.spans.proofs.slices.Goals as goal

pub returns-clause-whole : goal.returns-clause-whole
returns-clause-whole c = both c.requires _ _ _ c.from-start.ensures c.from.ensures c.baks.ensures

pub returns-clause-lengths : goal.returns-clause-lengths
returns-clause-lengths c = both-lengths c.requires _ _ _ c.from-start.ensures c.from.ensures c.baks.ensures
