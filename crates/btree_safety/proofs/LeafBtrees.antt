-- Roots that stand as the leaves of their btrees are btrees of one level that stand on the devices.
use Rattle.std.proofs.Common.{◌≡◌, ℕ, zero, suc, ◌<◌, Bool, true, false, cond, List, [], ◌∷◌, length, get_or, None, Some, refl, sym, ap, subst, ◌∙◌, arith}
use Rattle.std.specs.Prelude.{All, is_some, slice_get, slice_index_or}
use Rattle.std.specs.BTreeMap.{is_at}
use Rattle.std.specs.List.{flat_map}
use Rattle.std.proofs.lemmas.Bool.{true≢false}
use Rattle.std.proofs.lemmas.Option.{same_Some, slice_get-get_or}
use Rattle.birth_index.specs.NameLaws.{code-below}
use Rattle.dev_model.specs.Devices.{DevicesState, now}
use Rattle.dev_model.specs.Disk.{Image, as_read}
use Rattle.image_view.specs.Found.{sets_in}
use Rattle.image_view.specs.NewNodes.{AreLeafRoots, leaf_trees, wanted_root}
use Rattle.image_view.specs.Trees.{SetsOf, nodes_of}
use Rattle.key_meaning.specs.Checks.{AreNodesPlaced}
use Rattle.node_store.specs.NodeContents.{NodeContent}
use Rattle.tree_nodes.specs.Levels.{IsNodeOf}
use Rattle.vol_types.specs.Btrees.{btree_code}
use Rattle.vol_types.specs.Positions.{greatest_pos, least_pos, pos_cmp}
use Rattle.vol_types.specs.Ranges.{IsNode}
use Rattle.vol_types.specs.declared.layout.Layout.{Layout}
use Rattle.vol_types.specs.declared.pointers.NodePtr.{NodePtr}
use Rattle.vol_types.specs.declared.positions.Btree.{Btree}
use Rattle.vol_types.specs.declared.positions.Pos.{Pos}
use Rattle.btree_laws.specs.HeldContents.{ComeTo, held_in}
use Rattle.btree_laws.specs.Standing.{AreLeafKeys, IsNodeIn, StandAsBtrees, reads_of}
use Rattle.crash_safety.specs.Leaves.{StandAsLeaves, leaf_nodes}
use Rattle.btree_safety.specs.StandingNodes.{BtreesStand}
use Rattle.btree_safety.proofs.AllNodes.{btree_at, root_at}

-- What is known of leaves that are roots.
pub record LeafLaws : Type 0 where
  pub leaves : (sets : SetsOf) (roots : List NodePtr) (content : Btree → NodeContent) → AreLeafRoots sets roots content → All (IsNodeOf 0) roots → ((btree : Btree) → AreLeafKeys least_pos greatest_pos (content btree).entries)
      → StandAsBtrees sets roots (leaf_trees roots content).nodes (λ btree root. content btree) × (reads_of (λ btree root. content btree) (leaf_trees roots content).nodes ≡ leaf_trees roots content)
  pub come : (layout : Layout) (image : Image) → ComeTo (sets_in layout image) (λ btree. held_in layout image)

-- The only node of a btree of one leaf is its root.
only_root : (root : NodePtr) (level : ℕ) (at : Pos) (node : NodePtr) → IsNodeIn (((greatest_pos, root) ∷ []) ∷ []) level at node → root ≡ node
only_root root zero at node there = by (is_at (pos_cmp at) greatest_pos) there
  where
    by : (b : Bool) → cond b (Some root) None ≡ Some node → root ≡ node
    by true found = same_Some root node found
    by false found = absurd (true≢false (sym (ap is_some found)))
only_root root (suc level) at node there = absurd (true≢false (sym (ap is_some there)))

root_of : (roots : List NodePtr) (code level : ℕ) (at : Pos) (node : NodePtr) → IsNodeIn (slice_index_or (leaf_nodes roots) code []) level at node → slice_get roots code ≡ Some node
root_of [] code level at node there = absurd (true≢false (sym (ap is_some there)))
root_of (root ∷ roots) zero level at node there = ap Some (only_root root level at node there)
root_of (root ∷ roots) (suc code) level at node there = root_of roots code level at node there

root_nodes : (roots : List NodePtr) → nodes_of (leaf_nodes roots) ≡ roots
root_nodes [] = refl
root_nodes (root ∷ roots) = ap (λ (rest : List NodePtr). root ∷ rest) (root_nodes roots)

module _ (laws : LeafLaws) (layout : Layout) (session : ℕ) (roots : List NodePtr) (content : Btree → NodeContent) (state : DevicesState) (ranges : All IsNode roots) (stand : StandAsLeaves layout session roots content state) where
  abbrev sets : SetsOf
  sets = sets_in layout (as_read (now state))

  -- Each root is that of a btree.
  root_at_code : (k : ℕ) (d : NodePtr) → k < length roots → (btree : Btree) × (slice_get roots (btree_code btree) ≡ Some (get_or roots k d))
  root_at_code k d lower =
      let nine = stand.nine in
      let btree = btree_at k (omega (arith, lower, nine)) in
      (btree.0, ap (slice_get roots) btree.1 ∙ slice_get-get_or roots k d lower)

  are_leaves : All (λ (root : NodePtr). root.level ≡ 0) roots
  are_leaves k d lower = let at = root_at_code k d lower in (stand.each at.0 (get_or roots k d) at.1).leaf

  leaf_roots : AreLeafRoots sets roots content
  leaf_roots = record { nine = stand.nine; leaves = are_leaves; each = λ btree root at. (stand.each btree root at).reads; births = stand.births }

  keys : (btree : Btree) → AreLeafKeys least_pos greatest_pos (content btree).entries
  keys btree =
      let nine = stand.nine in
      let less = code-below btree in
      let root = root_at roots (btree_code btree) (omega (arith, nine, less)) in
      ((laws.come layout (as_read (now state))).entries (wanted_root btree root.0) (content btree) (stand.each btree root.0 root.1).reads).keys

  -- They are btrees that stand there.
  pub leaves_stand : BtreesStand layout session roots (leaf_nodes roots) (λ btree root. content btree) state
  leaves_stand = record {
    stand = (laws.leaves sets roots content leaf_roots (λ k d lower. record { numbered = are_leaves k d lower; in_range = ranges k d lower }) keys).0;
    each = λ btree level at node there.
        let root = stand.each btree node (root_of roots (btree_code btree) level at node there) in
        record { mirrored = root.mirrored; alike = root.alike; agree = root.agree; born = root.born; placed = root.placed; left = root.left };
    apart = subst (λ (ns : List NodePtr). AreNodesPlaced (flat_map (λ (root : NodePtr). root.places) ns) layout) (sym (root_nodes roots)) stand.apart;
  }
