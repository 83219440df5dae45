use Rattle.std.proofs.Common.{◌-◌, ◌+◌, ◌<◌, ◌^◌, List, ap, sym, ◌∙◌, subst}
use Rattle.std.specs.Prelude.{vec_capacity, vec_len}
use Rattle.journal_writer.specs.Queues.{QueueRoom, first_of, last_of, left_by, oldest, without_oldest}
use Rattle.journal_writer.specs.declared.changes.Pending.{Pending}
use Rattle.journal_writer.proofs.Joining.{first_taken}
use Rattle.journal_writer.proofs.queue.EntryQueue.take_oldest.Goals as goal

pub invariant_of-self-2 : goal.invariant_of-self-2
invariant_of-self-2 c = (first_taken _ c.take_first.result c.take_first.new.entries.items c.self.inside.open_entry.room (vec_capacity c.take_first.new.entries - vec_len c.take_first.new.entries) c.self.invariant c.take_first.ensures.taken c.take_first.ensures.place).1

pub returns-clause-out : goal.returns-clause-out
returns-clause-out c = (first_taken _ c.take_first.result c.take_first.new.entries.items c.self.inside.open_entry.room (vec_capacity c.take_first.new.entries - vec_len c.take_first.new.entries) c.self.invariant c.take_first.ensures.taken c.take_first.ensures.place).0

pub returns-clause-numbers : goal.returns-clause-numbers
returns-clause-numbers c = (first_taken _ c.take_first.result c.take_first.new.entries.items c.self.inside.open_entry.room (vec_capacity c.take_first.new.entries - vec_len c.take_first.new.entries) c.self.invariant c.take_first.ensures.taken c.take_first.ensures.place).2

pub returns-clause-blocks : goal.returns-clause-blocks
returns-clause-blocks c =
    subst (λ (v : QueueRoom). last_of v.queue.mirrors c.take_first.result + 1 < 2 ^ 64) c.self.view_is
    (first_taken _ c.take_first.result c.take_first.new.entries.items c.self.inside.open_entry.room (vec_capacity c.take_first.new.entries - vec_len c.take_first.new.entries) c.self.invariant c.take_first.ensures.taken c.take_first.ensures.place).3

pub returns-clause-taken : goal.returns-clause-taken
returns-clause-taken c = sym (ap (λ (entries : List Pending). first_of entries c.self.inside.open_entry.entry) c.take_first.ensures.taken) ∙ ap (λ (v : QueueRoom). oldest v.queue) c.self.view_is

pub returns-clause-left : goal.returns-clause-left
returns-clause-left c =
    sym (ap (λ (entries : List Pending). left_by entries (record { mirrors = c.self.inside.mirrors; closed = c.self.inside.closed.items; open_entry = c.self.inside.open_entry.entry })) c.take_first.ensures.taken) ∙ ap (λ (v : QueueRoom). without_oldest v.queue) c.self.view_is
