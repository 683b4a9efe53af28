-- `ensure_normalized_on_disk` meets its contract.
use Rattle.local_collection.proofs.Renamed.{standing, not_there, renamed, found-named, can_rename}
use Rattle.local_collection.proofs.ensure_normalized_on_disk.Goals as goal

pub returns-then-exists : goal.returns-then-exists
returns-then-exists c = standing c.exists.ensures c.requires.0 c.if-exists.true

pub apply-requires : goal.apply-requires
apply-requires c = can_rename c.requires.0 c.requires.1.0 (found-named c.other_case.ensures c.in-Some.is) c.requires.1.1

pub returns-in-Some : goal.returns-in-Some
returns-in-Some c = renamed c.exists.ensures c.if-exists.false c.other_case.ensures c.in-Some.is c.apply.ensures

pub returns-in_default : goal.returns-in_default
returns-in_default c = not_there c.exists.ensures c.if-exists.false c.other_case.ensures c.requires.0 c.in_default.is
