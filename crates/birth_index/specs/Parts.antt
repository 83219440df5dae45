-- The births of the nodes of a level or of a btree, beside those of other nodes.
use Rattle.std.specs.Prelude.{◌≡◌, ℕ, ◌==◌, ◌&&◌, Bool, true, Option, None, IsSome, ⊤, if◌then◌else◌, option_map}
use Rattle.std.specs.Ordering.{nat_cmp}
use Rattle.birth_index.specs.Births.{Index}
use Rattle.birth_index.specs.declared.making.IndexFault.{IndexFault}
use Rattle.birth_index.specs.declared.making.IndexFault.TheVariants.{NoMemory, SameBirth}
use Rattle.birth_index.specs.declared.name.NodeName.{NodeName}
use Rattle.tree_nodes.specs.Levels.{Level, Levels, level_of}
use Rattle.vol_types.specs.Btrees.{btree_code}
use Rattle.vol_types.specs.Maps.{value_at}
use Rattle.vol_types.specs.Positions.{pos_cmp}
use Rattle.vol_types.specs.declared.positions.Btree.{Btree}
use Rattle.vol_types.specs.declared.positions.Pos.{Pos}

-- the birth of the node of a level that ends at a position
abbrev pub birth_at : Level → Pos → Option ℕ
birth_at nodes at = option_map (λ node. node.birth) (value_at pos_cmp at nodes)

-- whether a name is of a level of a btree
abbrev pub is_of_level : Btree → ℕ → NodeName → Bool
is_of_level btree level name = (btree_code btree == btree_code name.btree) && (level == name.level)

-- the births of the nodes of a level of a btree, and of others
abbrev pub with_level : Btree → ℕ → Level → (NodeName → Option ℕ) → NodeName → Option ℕ
with_level btree level nodes births name = if is_of_level btree level name then birth_at nodes name.greatest else births name

-- the births of the nodes of a btree, and of others
abbrev pub with_tree : Btree → Levels → (NodeName → Option ℕ) → NodeName → Option ℕ
with_tree btree levels births name = if btree_code btree == btree_code name.btree then birth_at (level_of levels name.level) name.greatest else births name

-- No node of the level of the btree has a birth.
abbrev pub HasNoLevel : Btree → ℕ → (NodeName → Option ℕ) → Type 0
HasNoLevel btree level births = (name : NodeName) → is_of_level btree level name ≡ true → births name ≡ None

-- No node of the btree has a birth.
abbrev pub HasNoTree : Btree → (NodeName → Option ℕ) → Type 0
HasNoTree btree births = (name : NodeName) → (btree_code btree == btree_code name.btree) ≡ true → births name ≡ None

-- The birth that is told is the one that was to be added, and is there.
abbrev pub IsRefused : IndexFault → ℕ → Index → Type 0
IsRefused NoMemory birth index = ⊤
IsRefused (SameBirth told) birth index = (told ≡ birth) × IsSome (value_at nat_cmp birth index)
