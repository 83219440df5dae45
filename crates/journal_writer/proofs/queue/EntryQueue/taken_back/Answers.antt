use Rattle.std.proofs.Common.{subst}
use Rattle.std.specs.Prelude.{IfOk}
use Rattle.vol_types.specs.KeyMaps.{KeyMap}
use Rattle.journal_writer.specs.Changes.{IsPartOf, taken_back}
use Rattle.journal_writer.specs.ChangeLaws.{IsKeyMap-taken_back}
use Rattle.journal_writer.proofs.Waiting.{undone-waiting}
use Rattle.journal_writer.proofs.queue.EntryQueue.taken_back.Goals as goal

pub returns-clause-keys : goal.returns-clause-keys
returns-clause-keys c = λ keys is part.
    let updates = c.updates.result.now in
    let before = c.before-2.result.now in
    subst (λ (k : KeyMap). IfOk c.closed_back.result (IsPartOf k c.args.btree)) (undone-waiting c.args.self.now.queue keys updates before c.updates.ensures.exact c.before-2.ensures)
    (c.closed_back.ensures.keys (taken_back updates before keys) (IsKeyMap-taken_back updates before keys is) (c.in_ok-node.ensures.keys keys is part))
