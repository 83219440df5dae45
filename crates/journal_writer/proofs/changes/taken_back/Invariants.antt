use Rattle.std.proofs.Common.{◌≡◌, ◌-◌, length}
use Rattle.std.specs.Prelude.{drop}
use Rattle.vol_types.specs.KeyMaps.{IsKeyMap, KeyMap}
use Rattle.journal_writer.specs.Changes.{IsPartOf, taken_back}
use Rattle.journal_writer.proofs.changes.taken_back.Given as goal

abbrev pub invariant-loop-done : goal.invariant-loop-done
invariant-loop-done l = record {
  least : l.node.least ≡ l.fn.node.least;
  greatest : l.node.greatest ≡ l.fn.node.greatest;
  part : (keys : KeyMap) → IsKeyMap keys → IsPartOf keys l.btree l.fn.node
      → IsPartOf (taken_back (drop (length l.updates - l.done) l.updates) (drop (length l.updates - l.done) l.before) keys) l.btree l.node;
}
