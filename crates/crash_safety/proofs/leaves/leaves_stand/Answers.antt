use Rattle.journal_ring.specs.Rings.{IsPartAsked, IsPartPlace}
use Rattle.node_store.specs.Plans.{part_bytes}
use Rattle.node_store.specs.Writes.{IsCopyBlock, IsCopyOf}
use Rattle.std.proofs.Common.{◌+◌}
use Rattle.crash_safety.specs.LeafLaws.{leaf_elsewhere}
use Rattle.crash_safety.proofs.OtherBuckets.{entry_off}
use Rattle.crash_safety.proofs.Flushed.{leaf_flushed, leaf_read}
use Rattle.crash_safety.proofs.leaves.leaves_stand.Goals as goal

pub returns : goal.returns
returns c = record {
  entry_parts = λ image f w written ring failed session btree root content old new finds is part stands.
      leaf_elsewhere f.layout session btree root content old new (IsPartPlace ring) (IsPartAsked ring) part.at (entry_off image f w written ring root finds is stands.placed) stands;
  node_parts = λ blocked part failed layout session btree root content old new written off stands.
      leaf_elsewhere layout session btree root content old new (IsCopyOf blocked.places (blocked.block + part)) (IsCopyBlock blocked.places (blocked.block + part) (part_bytes blocked part)) written.at off stands;
  flushes = leaf_flushed;
  reads = leaf_read;
  all = λ layout session roots content old new stand each. record { nine = stand.nine; each = each; births = stand.births; apart = stand.apart };
}
