-- Which leaf is to be frozen next.
use Rattle.std.specs.Prelude.{ℕ, ◌-◌, Bool, false, ◌&&◌, not, ◌==◌, nat_le, Option, Some, None, List, [], length, slice_get, slice_index_or}
use Rattle.std.specs.List.{filter, list_any}
use Rattle.std.specs.Ordering.{nat_cmp}
use Rattle.birth_index.specs.Births.{levels_of}
use Rattle.btree_map.specs.Sizes.{all_btrees}
use Rattle.node_writeback.specs.declared.node.FrozenNode.{FrozenNode}
use Rattle.tree_nodes.specs.Levels.{Levels, level_of}
use Rattle.vol_types.specs.Maps.{value_at}
use Rattle.vol_types.specs.Positions.{greatest_pos}
use Rattle.vol_types.specs.declared.pointers.NodePtr.{NodePtr}
use Rattle.vol_types.specs.declared.positions.Btree.{Btree}

-- no node
abbrev pub no_node : NodePtr
no_node = record { birth = 0; level = 0; places = [] }

-- the root of a btree with these levels
abbrev pub root_of : Levels → NodePtr
root_of levels = (slice_index_or (level_of levels (length levels - 1)) 0 (greatest_pos, no_node)).1

-- the root of a btree
abbrev pub root_in : List Levels → Btree → NodePtr
root_in nodes btree = root_of (levels_of nodes btree)

-- whether an entry up to this one is pinned
abbrev pub is_pinned_up_to : ℕ → Option ℕ → Bool
is_pinned_up_to sequence None = false
is_pinned_up_to sequence (Some pin) = nat_le pin sequence

-- whether the node of this birth is frozen
abbrev pub is_frozen : List FrozenNode → ℕ → Bool
is_frozen frozen birth = list_any (λ (node : FrozenNode). node.birth == birth) frozen

-- whether a btree is one leaf that isn't frozen, and has keys of durable entries that it hasn't written, where the last durable one has this sequence
abbrev pub is_due : ℕ → List Levels → List (ℕ × ℕ) → List FrozenNode → Btree → Bool
is_due durable nodes pins frozen btree =
    let birth = (root_in nodes btree).birth in
    (length (levels_of nodes btree) == 1) && (not (is_frozen frozen birth) && is_pinned_up_to durable (value_at nat_cmp birth pins))

-- the first btree, in the order of their numbers, whose leaf is to be frozen, if there is one
abbrev pub leaf_due : ℕ → List Levels → List (ℕ × ℕ) → List FrozenNode → Option Btree
leaf_due durable nodes pins frozen = slice_get (filter (is_due durable nodes pins frozen) all_btrees) 0
