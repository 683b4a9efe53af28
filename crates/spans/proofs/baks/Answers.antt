-- `baks` takes the first bytes of the longest.
use Rattle.basics.specs.Name.{backup_name, backup_extension}
use Rattle.spans.proofs.Parts.{taken}
use Rattle.spans.proofs.baks.Goals as goal

pub returns : goal.returns
unfolding backup_name backup_extension
returns c = taken c.args.n c.from.result c.from.ensures c.requires
