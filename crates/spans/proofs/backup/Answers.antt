-- `backup` appends ".bak" where the name has room for it.
use native.Mathlib.Omega.{arith}
use Rattle.spans.proofs.Backups.{one_more, too_long}
use Rattle.spans.proofs.backup.Goals as goal

pub returns-then-n-le-NAME_LIMIT : goal.returns-then-n-le-NAME_LIMIT
returns-then-n-le-NAME_LIMIT c = one_more c.requires (omega arith)

pub returns-else-n-le-NAME_LIMIT : goal.returns-else-n-le-NAME_LIMIT
returns-else-n-le-NAME_LIMIT c = too_long c.requires (omega arith)
