-- A session that is ready for a volume that may be run begins well: updates of leaves are above no root.
use Rattle.std.proofs.Common.{◌≡◌, ◌≤◌, ℕ, Option, Some, None, arith}
use Rattle.std.specs.Prelude.{All, IfSome, slice_get}
use Rattle.std.proofs.lemmas.List.Elements.{All-weaker}
use Rattle.image_view.specs.UpdatedTrees.{IsOfLeaf}
use Rattle.journal_ring.specs.declared.found.FoundEntry.{FoundEntry}
use Rattle.replay.specs.NodeUpdates.{IsBelowRoot}
use Rattle.vol_types.specs.Btrees.{btree_code}
use Rattle.vol_types.specs.declared.keys.Update.{Update}
use Rattle.vol_types.specs.declared.pointers.NodePtr.{NodePtr}
use Rattle.vol_session.specs.RunLaws.{SessionsBeginWell}

-- No root is below level 0.
leaf_below : (root : Option NodePtr) (level : ℕ) → level ≡ 0 → IfSome root (λ (r : NodePtr). level ≤ r.level)
leaf_below None level leaf = tt
leaf_below (Some r) level leaf = omega (arith, leaf)

pub begins_well : SessionsBeginWell
begins_well f first start may ready = record {
  may_begin = record {
    ready = ready;
    roots = may.leaves.roots;
    updates = All-weaker (λ (found : FoundEntry). All IsOfLeaf found.entry.updates) (λ (found : FoundEntry). All (IsBelowRoot f.last.entry.roots) found.entry.updates)
        (λ (found : FoundEntry) leaves. All-weaker IsOfLeaf (IsBelowRoot f.last.entry.roots)
        (λ (update : Update) leaf. leaf_below (slice_get f.last.entry.roots (btree_code update.btree)) update.level leaf.level) found.entry.updates leaves)
        f.needed may.leaves.updates;
  };
  sound = may.sound;
  tidy = may.tidy;
}
