use Rattle.birth_index.proofs.Putting.{fresh_absent}
use Rattle.birth_index.proofs.pointers.exchange_nodes.Goals as goal

pub add_fresh-requires : goal.add_fresh-requires
add_fresh-requires c = fresh_absent c.args.births.now c.args.trees.now.items c.args.changes.now c.requires.index c.requires.changes

pub put_all-requires-clause-room : goal.put_all-requires-clause-room
put_all-requires-clause-room c = record { base = c.args.births.now; is = c.requires.index; taken = c.in_ok-add_fresh.ensures.ok }
