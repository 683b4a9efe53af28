-- `put_quoted` meets its contract: a quote, both slices of the name, a quote.
use native.Mathlib.Omega.{arith}
use Rattle.inventory.proofs.Names.{quoted-put}
use Rattle.inventory.proofs.put_quoted.Goals as goal

pub returns : goal.returns
returns c =
    (quoted-put _ _ _ c.slices.ensures.whole c.put-p.ensures.0 c.put_part-q.ensures.0 c.put_part-r.ensures.0 c.put.ensures.0, omega (arith, c.put-p.ensures.0.next, c.put.ensures.0.next, c.requires.0.room))
