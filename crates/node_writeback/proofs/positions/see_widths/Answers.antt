-- What waits keeps the widths, and so does the entry in flight.
use Rattle.std.proofs.Common.{List, Option, ap, subst, sym}
use Rattle.std.specs.Prelude.{All, option_copied}
use Rattle.journal_writer.specs.Changes.{undone}
use Rattle.journal_writer.specs.Queues.{durable_keys, waiting}
use Rattle.journal_writer.specs.declared.changes.Pending.{Pending}
use Rattle.vol_types.specs.declared.keys.Update.{Update}
use Rattle.node_writeback.specs.Durable.{changes_in_flight}
use Rattle.node_writeback.proofs.Wide.{HasWidths, IsWide, wide-taken_back}
use Rattle.node_writeback.proofs.positions.see_widths.Goals as goal

pub returns-in-None : goal.returns-in-None
returns-in-None c = λ keys all.
    subst (λ (o : Option Pending). HasWidths c.args.btree (durable_keys (changes_in_flight o) c.args.queue.now.queue keys)) (sym (ap option_copied c.in-None.is)) (c.see_queue.ensures keys all)

pub returns-in-Some : goal.returns-in-Some
returns-in-Some c = λ keys all.
    let changes = c.in-Some.entry.now.changes in
    subst (λ (o : Option Pending). HasWidths c.args.btree (durable_keys (changes_in_flight o) c.args.queue.now.queue keys)) (sym (ap option_copied c.in-Some.is))
    (wide-taken_back c.args.btree changes.updates changes.before (undone (waiting c.args.queue.now.queue) keys)
    (subst (λ (us : List Update). All IsWide us) c.as_slice.ensures c.see_updates.ensures) (c.see_queue.ensures keys all))
