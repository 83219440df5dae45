-- Which nodes are dirty, which have dirty nodes under them, and what updates make dirty.
use Rattle.std.specs.Prelude.{◌≡◌, ◌≤◌, ◌↔◌, ℕ, Option, Some, IsSome, List, [], ◌∷◌, drop, option_map}
use Rattle.std.specs.List.{flat_map}
use Rattle.std.specs.Option.{option_to_list}
use Rattle.std.specs.Ordering.{nat_cmp}
use Rattle.birth_index.specs.Births.{levels_of}
use Rattle.birth_index.specs.declared.name.NodeName.{NodeName}
use Rattle.pin_list.specs.Pins.{Pins, with_pin}
use Rattle.tree_nodes.specs.Levels.{Level, Levels, level_of, node_at}
use Rattle.vol_types.specs.Maps.{IsMap, put_at, value_at, without}
use Rattle.vol_types.specs.Positions.{greatest_pos}
use Rattle.vol_types.specs.Widths.{PosFits}
use Rattle.vol_types.specs.declared.keys.Update.{Update}
use Rattle.vol_types.specs.declared.pointers.NodePtr.{NodePtr}
use Rattle.vol_types.specs.declared.positions.Btree.{Btree}
use Rattle.vol_types.specs.declared.positions.Pos.{Pos}

-- the dirty nodes by birth, each with the oldest entry that has keys of it which it hasn't written; the marked ones: those that
-- are dirty or have a dirty node under them, each with the oldest such entry of these; and the nodes that were changed since they
-- were frozen, each with the oldest entry that has keys of it which the frozen node lacks
pub record DirtyNodes : Type 0 where
  pub pins : Pins
  pub marks : Pins
  pub later : Pins

-- the birth of the node of a level that covers a position, if there is one
abbrev pub birth_in : Pos → Level → Option ℕ
birth_in pos nodes = option_map (λ node. node.1.birth) (node_at pos nodes)

-- the birth of the node of a level of a btree that covers a position, if there is such a level
abbrev pub birth_at : List Levels → Btree → ℕ → Pos → Option ℕ
birth_at nodes btree level pos = birth_in pos (level_of (levels_of nodes btree) level)

-- the birth of the node that an update changes
abbrev pub changed_node : List Levels → Update → List ℕ
changed_node nodes update = option_to_list (birth_at nodes update.btree update.level update.pos)

-- the births of the node that an update changes, and of those above it, up to the root
abbrev pub path_of : List Levels → Update → List ℕ
path_of nodes update = flat_map (λ level. option_to_list (birth_in update.pos level)) (drop update.level (levels_of nodes update.btree))

-- the births of the nodes that updates change
abbrev pub changed_nodes : List Levels → List Update → List ℕ
changed_nodes nodes updates = flat_map (changed_node nodes) updates

-- the births of the nodes that updates change, and of those above them
abbrev pub paths_of : List Levels → List Update → List ℕ
paths_of nodes updates = flat_map (path_of nodes) updates

-- the pins with each of these nodes pinned at a number
abbrev pub with_pins : ℕ → List ℕ → List (ℕ × ℕ) → List (ℕ × ℕ)
with_pins seq [] numbers = numbers
with_pins seq (birth ∷ births) numbers = with_pins seq births (with_pin birth seq numbers)

-- the pins with a node under another birth, where it pins this entry or none in the place of what it pinned
abbrev pub moved_pin : ℕ → ℕ → Option ℕ → List (ℕ × ℕ) → List (ℕ × ℕ)
moved_pin old fresh later numbers = put_at nat_cmp fresh later (without nat_cmp old numbers)

-- the levels of a btree whose root is its only node
abbrev pub root_alone : NodePtr → Levels
root_alone root = ((greatest_pos, root) ∷ []) ∷ []

-- the name of such a root
abbrev pub leaf_root : Btree → NodeName
leaf_root btree = record { btree = btree; level = 0; greatest = greatest_pos }

-- The node that covers a position at the upper level has this birth, and a dirty node covers it there or at a level below: the
-- node is dirty, or has a dirty node under it.
pub record IsOverDirty (nodes : List Levels) (pins : List (ℕ × ℕ)) (birth : ℕ) : Type 0 where
  pub btree : Btree
  pub pos : Pos
  pub upper : ℕ
  pub lower : ℕ
  pub dirty : ℕ
  pub fits : PosFits pos
  pub order : lower ≤ upper
  pub over : birth_at nodes btree upper pos ≡ Some birth
  pub under : birth_at nodes btree lower pos ≡ Some dirty
  pub pinned : IsSome (value_at nat_cmp dirty pins)

-- The marked nodes are exactly those that are dirty or have a dirty node under them.
abbrev pub AreMarked : List Levels → List (ℕ × ℕ) → List (ℕ × ℕ) → Type 0
AreMarked nodes pins marks = (birth : ℕ) → IsSome (value_at nat_cmp birth marks) ↔ IsOverDirty nodes pins birth

-- The births of the pinned nodes rise, and those of the marked ones, and of those that were changed since they were frozen.
pub record AreKept (pins marks later : List (ℕ × ℕ)) : Type 0 where
  pub pinned : IsMap nat_cmp pins
  pub marked : IsMap nat_cmp marks
  pub changed : IsMap nat_cmp later
