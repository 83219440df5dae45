-- The leaf covers all positions, so it is the whole of what the btree has by durable entries.
use Rattle.std.specs.Prelude.{option_copied}
use Rattle.btree_map.specs.Trees.{keys_in}
use Rattle.journal_writer.specs.Queues.{durable_keys}
use Rattle.node_writeback.specs.Durable.{changes_in_flight}
use Rattle.node_writeback.proofs.Leaves.{whole_ok}
use Rattle.node_writeback.proofs.durable.durable_leaf.Goals as goal

pub returns : goal.returns
returns c =
    let keys = keys_in c.args.map.now in
    let leaf = c.in_ok-leaf.ensures in
    whole_ok c.taken_back.result (durable_keys (changes_in_flight (option_copied c.args.flight)) c.args.queue.now.queue keys) c.args.btree c.in_ok-leaf.leaf leaf.least leaf.greatest c.taken_back.ensures.least c.taken_back.ensures.greatest
    (c.taken_back.ensures.keys keys leaf.keys leaf.part) (c.see_widths.ensures keys leaf.fit)
