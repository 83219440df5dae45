use Rattle.std.proofs.Common.{◌+◌, ◌<◌, ◌^◌, List, sym, subst}
use Rattle.std.specs.Prelude.{All}
use Rattle.journal_writer.specs.declared.changes.Pending.{Pending}
use Rattle.journal_writer.proofs.Numbers.{closed-numbers}
use Rattle.journal_writer.proofs.queue.EntryQueue.closed.Goals as goal

pub returns-clause-numbers : goal.returns-clause-numbers
returns-clause-numbers c =
    subst (λ (es : List Pending). All (λ (e : Pending). e.after + 1 < 2 ^ 64) es) (sym c.as_slice.ensures.value)
    (closed-numbers c.self.inside.mirrors c.self.inside.closed.items c.self.inside.open_entry.entry c.self.invariant.followed c.self.invariant.after)
