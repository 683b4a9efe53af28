-- `changes`: by the collection's name.
use mathlib.Core.Path.{ap, ◌∙◌}
use Rattle.basics.specs.Base.{same_bytes}
use Rattle.spans.specs.Spans.{name_of}
use Rattle.commit.proofs.changes.Goals as goal

pub returns : goal.returns
returns c = c.same.ensures ∙ ap (same_bytes (name_of c.args.src.now c.args.dir)) (c.collection_of.ensures _ c.requires.0).same
