-- The positions of what waits are seen, so what is taken back keeps the widths.
use Rattle.std.proofs.Common.{List, subst}
use Rattle.std.specs.Prelude.{All}
use Rattle.journal_writer.specs.declared.changes.Pending.{Pending}
use Rattle.vol_types.specs.declared.keys.Update.{Update}
use Rattle.node_writeback.proofs.Wide.{AreWide, IsWide, wide-waiting}
use Rattle.node_writeback.proofs.positions.see_queue.Goals as goal

pub returns : goal.returns
returns c = λ keys all.
    let queue = c.args.queue.now.queue in
    wide-waiting c.args.btree queue.closed queue.open_entry.changes keys
    (subst (λ (es : List Pending). All AreWide es) c.closed.ensures.exact c.see_entries.ensures)
    (subst (λ (us : List Update). All IsWide us) c.updates.ensures.exact c.see_updates.ensures) all
