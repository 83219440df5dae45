-- A fresh volume may be run, and leaves room in the ring: its roots are leaves, its first entry has no updates, and its keys are sound and tidy.
use Rattle.std.proofs.Common.{◌≡◌, ℕ, List, [], refl, arith}
use Rattle.std.specs.Prelude.{All, Contains}
use Rattle.std.specs.List.{range_with_len}
use Rattle.std.proofs.lemmas.List.Elements.{All-cons, All-contains_itself, All-map, All-nil, All-weaker}
use Rattle.core_volume.specs.Rulings.{kept_blocks}
use Rattle.image_view.specs.Found.{node_places}
use Rattle.image_view.specs.UpdatedTrees.{IsOfLeaf}
use Rattle.journal_ring.specs.declared.found.FoundEntry.{FoundEntry}
use Rattle.key_meaning.specs.Checks.{AreNodesPlaced, IsSound}
use Rattle.key_meaning.specs.Fresh.{fresh_keys}
use Rattle.key_meaning.specs.Tidy.{IsTidy}
use Rattle.vol_core.specs.Left.{AreLeaves}
use Rattle.vol_format.specs.Fresh.{first_found, fresh_found, fresh_root}
use Rattle.vol_types.specs.LayoutLaws.{layout_found}
use Rattle.vol_types.specs.declared.layout.Layout.{Layout}
use Rattle.vol_types.specs.declared.pointers.NodePtr.{NodePtr}
use Rattle.vol_types.specs.declared.pointers.Place.{Place}
use Rattle.vol_session.specs.RunLaws.{FreshLeavesRoom, FreshMayRun}

fresh_leaves : (layout : Layout) → AreLeaves (fresh_found layout)
fresh_leaves layout = record {
  roots = All-map (λ (root : NodePtr). root.level ≡ 0) (fresh_root layout) (range_with_len 0 9)
      (All-weaker (Contains (range_with_len 0 9)) (λ (number : ℕ). (fresh_root layout number).level ≡ 0) (λ number there. refl) (range_with_len 0 9) (All-contains_itself (range_with_len 0 9)));
  updates = All-cons (λ (found : FoundEntry). All IsOfLeaf found.entry.updates) (first_found layout) [] (All-nil IsOfLeaf) (All-nil (λ (found : FoundEntry). All IsOfLeaf found.entry.updates));
}

pub fresh_may_run : ((nodes : List Place) (layout : Layout) → AreNodesPlaced nodes layout → IsSound fresh_keys nodes layout) → IsTidy fresh_keys → FreshMayRun
fresh_may_run sound tidy layout disks is formatted = record {
  on = formatted.mended.found_on;
  leaves = fresh_leaves layout;
  sound = sound (node_places (fresh_found layout)) layout formatted.is_fresh.placed;
  tidy = tidy;
}

-- Its one entry takes a block of at least 256.
pub fresh_leaves_room : FreshLeavesRoom
fresh_leaves_room layout is = let least = (layout_found layout is).journal_range.0 in let kept : kept_blocks ≡ 64 = refl in omega (arith, least, kept)
