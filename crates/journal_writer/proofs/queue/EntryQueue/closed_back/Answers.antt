use Rattle.std.proofs.Common.{◌≡◌, ◌-◌, ◌+◌, ◌∙◌, List, length, refl, ap, sym, subst, arith}
use Rattle.std.specs.Prelude.{drop}
use Rattle.journal_writer.specs.Changes.{IsPartOf, undone}
use Rattle.journal_writer.specs.Queues.{QueueRoom, closed_changes}
use Rattle.journal_writer.specs.declared.changes.Pending.{Pending}
use Rattle.journal_writer.proofs.Waiting.{entry_more}
use Rattle.journal_writer.proofs.queue.EntryQueue.closed_back.Goals as goal

pub loop-done-preserved : goal.loop-done-preserved
loop-done-preserved c = record {
  least = c.in_ok-node.ensures.least ∙ c.loop-done.invariant.least;
  greatest = c.in_ok-node.ensures.greatest ∙ c.loop-done.invariant.greatest;
  part = λ keys is part.
      let same : c.self.inside.closed.items ≡ c.args.self.now.queue.closed = ap (λ (v : QueueRoom). v.queue.closed) c.self.view_is in
      let so_far = subst (λ (es : List Pending). IsPartOf (undone (closed_changes (drop (length es - c.loop-done.done) es)) keys) c.args.btree c.loop-done.node) (sym same) (c.loop-done.invariant.part keys is part) in
      let count = c.len-count.ensures in
      let lt = c.loop-done-test.true in
      let at = c.last_left-at.ensures in
      subst (λ (es : List Pending). IsPartOf (undone (closed_changes (drop (length es - (c.loop-done.done + 1)) es)) keys) c.args.btree c.in_ok-node.node) same
      (entry_more c.self.inside.closed.items keys c.args.btree c.loop-done.node c.in_ok-node.node (length c.self.inside.closed.items) c.last_left-at.result c.loop-done.done c.index.result.now is refl (omega (arith, count, lt))
      (omega (arith, count, lt, at)) c.index.ensures so_far c.in_ok-node.ensures.keys);
}
