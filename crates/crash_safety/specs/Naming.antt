-- What was found leads to nine leaves, and a next entry that names nine leaves.
use Rattle.std.specs.Prelude.{◌≡◌, ℕ, List, map, All}
use Rattle.dev_model.specs.Devices.{DevicesState}
use Rattle.image_view.specs.Found.{Found, updates_of}
use Rattle.image_view.specs.NewNodes.{root_end}
use Rattle.image_view.specs.Trees.{with_roots}
use Rattle.image_view.specs.UpdatedTrees.{IsOfLeaf}
use Rattle.journal_ring.specs.declared.found.FoundEntry.{FoundEntry}
use Rattle.crash_safety.specs.Writings.{Writing}
use Rattle.node_store.specs.NodeContents.{NodeContent}
use Rattle.vol_types.specs.KeyMaps.{IsKeyMap, with_updates}
use Rattle.vol_types.specs.declared.pointers.NodePtr.{NodePtr}
use Rattle.vol_types.specs.declared.positions.Btree.{Btree}
use Rattle.crash_safety.specs.Leaves.{StandAsLeaves, leaf_keys, leaf_nodes}

-- What was found leads to nine leaves, that stand on the devices: its keys are what the needed entries make of theirs, and its nodes are they.
pub record LeadsToLeaves (f : Found) (state : DevicesState) : Type 0 where
  pub content : Btree → NodeContent
  pub stand : StandAsLeaves f.layout f.session f.last.entry.roots content state
  pub keys : f.trees.keys ≡ with_updates (updates_of f.needed) (leaf_keys content)
  pub updates : All IsOfLeaf (updates_of f.needed)
  pub rises : IsKeyMap (leaf_keys content)
  pub nodes : f.trees.nodes ≡ leaf_nodes f.last.entry.roots

-- a next entry that names leaves with this content, and passes so many needed entries: the keys are those that were found, with its updates
abbrev pub leaf_writing : Found → List NodePtr → (Btree → NodeContent) → ℕ → FoundEntry → List (List ℕ) → Writing
leaf_writing f roots content passed next blocks = record {
  passed = passed;
  next = next;
  trees = record {
    keys = with_updates next.entry.updates f.trees.keys;
    nodes = leaf_nodes roots;
    ends = map (root_end content) (with_roots roots);
  };
  blocks = blocks;
}
