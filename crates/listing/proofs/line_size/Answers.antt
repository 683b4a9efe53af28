-- `line_size` meets its contract.
use Rattle.listing.proofs.Shapes.{dir-size, file-size}
use Rattle.listing.proofs.line_size.Goals as goal

pub returns-then-f-eq0 : goal.returns-then-f-eq0
returns-then-f-eq0 c = dir-size c.length_of-d.ensures.0 c.length_of-f.ensures.0 c.length_of-d.ensures.1 c.length_of-f.ensures.1 c.if-f-eq0.true

pub returns : goal.returns
returns c = file-size c.length_of-d.ensures.0 c.length_of-f.ensures.0 c.length_of-d.ensures.1 c.length_of-f.ensures.1 c.if-f-eq0.false c.number_size.ensures.0 c.number_size.ensures.1
