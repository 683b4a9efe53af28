-- `rename_file`: what was found at the source, taken out, is put at the target.
use Rattle.steps.proofs.Found.{after-del, put_back}
use Rattle.steps.proofs.rename_file.Goals as goal

pub put_held-requires : goal.put_held-requires
put_held-requires c = ((c.del.ensures.sound, (c.requires.0.0.1, c.requires.0.1.1)), after-del _ _ c.del.ensures c.requires.1)

pub returns : goal.returns
returns c = put_back _ _ c.del.ensures _ c.requires.0.0.0.sorted c.look-held.ensures c.put_held.ensures
