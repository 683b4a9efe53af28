-- `encode::encode` meets its contract: each part is written behind the one before.
use Rattle.encode.proofs.Image.{tree-room, staging-room, log-room, mark-room, all-written}
use Rattle.encode.proofs.encode.Goals as goal

pub put_tree-a-requires : goal.put_tree-a-requires
put_tree-a-requires c =
    ((c.requires.0.0.tree, c.requires.1.0), tree-room _ c.args.tail c.args.store.now c.args.out.now c.requires.1.1)

pub put_nodes-b-requires : goal.put_nodes-b-requires
put_nodes-b-requires c =
    (c.requires.0.0.staging, staging-room _ c.args.tail c.args.store.now _ c.requires.1.1 c.put_tree-a.ensures)

pub put_tail-c-requires : goal.put_tail-c-requires
put_tail-c-requires c =
    (c.requires.0.0.log, (c.requires.0.1, log-room _ c.args.tail c.args.store.now _ c.requires.1.1 c.put_tree-a.ensures c.put_nodes-b.ensures))

pub put_mark-requires : goal.put_mark-requires
put_mark-requires c = mark-room _ c.args.tail c.args.store.now _ c.requires.1.1 c.put_tree-a.ensures c.put_nodes-b.ensures c.put_tail-c.ensures

pub returns : goal.returns
returns c = all-written _ c.args.tail c.args.store.now _ c.requires.1.1 c.put_tree-a.ensures c.put_nodes-b.ensures c.put_tail-c.ensures c.put_mark.ensures
