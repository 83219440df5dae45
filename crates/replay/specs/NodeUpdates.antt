-- Which updates of the needed entries change a node that was found: those that aren't above the root that the newest entry names.
use Rattle.std.specs.Prelude.{◌≤◌, ℕ, List, All, IfSome, IsSome, slice_get}
use Rattle.std.specs.Option.{option_map_or}
use Rattle.birth_index.specs.Births.{levels_of}
use Rattle.image_view.specs.Found.{Found}
use Rattle.tree_nodes.specs.Levels.{Levels, level_of, node_at}
use Rattle.journal_ring.specs.declared.found.FoundEntry.{FoundEntry}
use Rattle.vol_types.specs.Btrees.{btree_code}
use Rattle.vol_types.specs.declared.keys.Update.{Update}
use Rattle.vol_types.specs.declared.pointers.NodePtr.{NodePtr}
use Rattle.vol_types.specs.declared.positions.Btree.{Btree}

-- This holds of each update of the needed entries.
abbrev pub EachUpdate : Found → (Update → Type 0) → Type 0
EachUpdate f P = All (λ (found : FoundEntry). All P found.entry.updates) f.needed

-- A node of the update's level covers its position: the one that it changes.
abbrev pub ChangesNode : List Levels → Update → Type 0
ChangesNode nodes update = IsSome (node_at update.pos (level_of (levels_of nodes update.btree) update.level))

-- The update isn't above the root of its btree.
abbrev pub IsBelowRoot : List NodePtr → Update → Type 0
IsBelowRoot roots update = IfSome (slice_get roots (btree_code update.btree)) (λ root. update.level ≤ root.level)

-- the level of a btree's root; 0 where there is none
abbrev pub root_level : List NodePtr → Btree → ℕ
root_level roots btree = option_map_or (λ (root : NodePtr). root.level) (slice_get roots (btree_code btree)) 0

-- No btree has a lower root among the later roots.
abbrev pub HaveRisen : List NodePtr → List NodePtr → Type 0
HaveRisen roots later = (btree : Btree) → root_level roots btree ≤ root_level later btree
