-- `decode::read_image` meets its contract: the four parts, one behind the other, and nothing behind them.
use Rattle.decode.proofs.Whole.{no_tree, no_staging, no_log, no_mark, decided}
use Rattle.decode.proofs.read_image.Goals as goal

pub returns-in_err-tree_end : goal.returns-in_err-tree_end
returns-in_err-tree_end c = rw c.from_residual.ensures (no_tree c.in_err-tree_end.ensures)

pub returns-in_err-staging_end : goal.returns-in_err-staging_end
returns-in_err-staging_end c = rw c.from_residual-in_err-staging_end.ensures (no_staging c.in_ok-tree_end.ensures c.in_err-staging_end.ensures)

pub returns-in_err-log : goal.returns-in_err-log
returns-in_err-log c = rw c.from_residual-in_err-log.ensures (no_log c.in_ok-tree_end.ensures c.in_ok-staging_end.ensures c.in_err-log.ensures)

pub returns-in_err-open_mark : goal.returns-in_err-open_mark
returns-in_err-open_mark c = rw c.from_residual-in_err-open_mark.ensures (no_mark c.in_ok-tree_end.ensures c.in_ok-staging_end.ensures c.in_ok-log.ensures c.in_err-open_mark.ensures)

pub returns : goal.returns
returns c = rw c.then_some.ensures (decided c.in_ok-tree_end.ensures c.in_ok-staging_end.ensures c.in_ok-log.ensures c.in_ok-open_mark.ensures)
