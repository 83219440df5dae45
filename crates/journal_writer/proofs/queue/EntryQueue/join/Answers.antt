use Rattle.std.proofs.Common.{◌∷◌, ◌++◌, [], ◌∙◌, ap, sym}
use Rattle.journal_writer.specs.Queues.{EntryRoom, QueueRoom}
use Rattle.journal_writer.specs.declared.changes.Pending.{Pending}
use Rattle.journal_writer.proofs.Joining.{closing_kept, open_kept}
use Rattle.journal_writer.proofs.queue.EntryQueue.join.Goals as goal

pub invariant_of-self : goal.invariant_of-self
invariant_of-self c =
    closing_kept c.args.changes c.args.counted _ c.args.self.now.queue (ap (λ (v : QueueRoom). v.queue) c.self.view_is) c.self.invariant c.requires.changes c.requires.numbers
    (sym c.requires.size.new_entry ∙ c.if-size.true)
    c.push.new.entries.items c.replace-full.new.dest.entry
    (c.push.ensures ∙ ap (λ (e : Pending). c.self.inside.closed.items ++ e ∷ []) (c.close.ensures ∙ ap (λ (r : EntryRoom). r.entry) c.replace-full.ensures.value))
    (ap (λ (r : EntryRoom). r.entry) c.replace-full.ensures.after ∙ c.follower-next.ensures)

pub invariant_of-self-else-size : goal.invariant_of-self-else-size
invariant_of-self-else-size c =
    open_kept c.args.changes c.args.counted _ c.args.self.now.queue (ap (λ (v : QueueRoom). v.queue) c.self.view_is) c.self.invariant c.requires.changes c.requires.numbers
    (sym c.requires.size.new_entry ∙ c.if-size.false)
    c.add.new.self.entry c.add.ensures
