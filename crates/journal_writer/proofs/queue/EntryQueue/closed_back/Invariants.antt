use Rattle.std.proofs.Common.{◌≡◌, ◌-◌, length}
use Rattle.std.specs.Prelude.{drop}
use Rattle.vol_types.specs.KeyMaps.{IsKeyMap, KeyMap}
use Rattle.journal_writer.specs.Changes.{IsPartOf, undone}
use Rattle.journal_writer.specs.Queues.{closed_changes}
use Rattle.journal_writer.proofs.queue.EntryQueue.closed_back.Given as goal

abbrev pub invariant-loop-done : goal.invariant-loop-done
invariant-loop-done l = record {
  least : l.node.least ≡ l.fn.node.least;
  greatest : l.node.greatest ≡ l.fn.node.greatest;
  part : (keys : KeyMap) → IsKeyMap keys → IsPartOf keys l.btree l.fn.node
      → IsPartOf (undone (closed_changes (drop (length l.self.queue.closed - l.done) l.self.queue.closed)) keys) l.btree l.node;
}
