-- `encode::put_tree` meets its contract: the nodes, or the bytes that were kept.
use mathlib.Core.Path.{sym}
use lib.Seq.{length-take-le}
use Rattle.encode.proofs.Placing.{kept-copied}
use Rattle.encode.proofs.put_tree.Goals as goal

pub returns-then-kept-eq0 : goal.returns-then-kept-eq0
returns-then-kept-eq0 c = c.put_nodes.ensures

pub slice_bounds-put_bytes-end : goal.slice_bounds-put_bytes-end
slice_bounds-put_bytes-end c = sym (length-take-le _ _ c.requires.0.1.within)

pub returns : goal.returns
returns c = kept-copied _ c.requires.0.1 c.if-kept-eq0.false c.put_bytes.ensures
