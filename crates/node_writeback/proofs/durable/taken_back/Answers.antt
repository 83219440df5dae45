-- The entry in flight is taken back last.
use Rattle.std.proofs.Common.{Option, ap, subst, sym}
use Rattle.std.specs.Prelude.{IfOk, option_copied}
use Rattle.journal_writer.specs.Changes.{IsPartOf, undone}
use Rattle.journal_writer.specs.Queues.{durable_keys, waiting}
use Rattle.journal_writer.specs.declared.changes.Pending.{Pending}
use Rattle.node_writeback.specs.Durable.{changes_in_flight}
use Rattle.node_writeback.proofs.Leaves.{key_map-undone}
use Rattle.node_writeback.proofs.durable.taken_back.Goals as goal

pub returns-in-Some-clause-keys : goal.returns-in-Some-clause-keys
returns-in-Some-clause-keys c = λ keys is part.
    let queue = c.args.queue.now.queue in
    subst (λ (o : Option Pending). IfOk c.taken_back-in-Some.result (IsPartOf (durable_keys (changes_in_flight o) queue keys) c.args.btree)) (sym (ap option_copied c.in-Some.is))
    (c.taken_back-in-Some.ensures.keys (undone (waiting queue) keys) (key_map-undone (waiting queue) keys is) (c.in_ok-node.ensures.keys keys is part))
