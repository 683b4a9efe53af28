-- `list_keys` meets its contract: the model's key list is that of its tree.
use Rattle.local_collection.proofs.Listed.{keys-room, keys-listed}
use Rattle.local_collection.proofs.list_keys.Goals as goal

pub put_keys-requires : goal.put_keys-requires
put_keys-requires c = ((c.requires.0.0.tree, c.requires.0.1), keys-room _ _ c.requires.1)

pub returns : goal.returns
returns c = keys-listed _ _ c.put_keys.ensures
