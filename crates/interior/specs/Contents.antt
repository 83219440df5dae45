-- What the nodes above the leaves hold, and which updates of it follow a change of a node below.
use Rattle.std.specs.Prelude.{◌≡◌, ℕ, ◌+◌, ◌-◌, ◌==◌, Some, List, [], ◌∷◌, length, map, if◌then◌else◌}
use Rattle.std.specs.List.{filter}
use Rattle.std.specs.Ordering.{is_le, is_lt}
use Rattle.vol_types.specs.KeyMaps.{Entries}
use Rattle.vol_types.specs.Maps.{put_at}
use Rattle.vol_types.specs.Positions.{pos_cmp, is_within}
use Rattle.vol_types.specs.declared.keys.Update.{Update}
use Rattle.vol_types.specs.declared.pointers.NodePtr.{NodePtr}
use Rattle.vol_types.specs.declared.positions.Btree.{Btree}
use Rattle.vol_types.specs.declared.positions.Pos.{Pos}
use Rattle.vol_types.specs.declared.values.Value.{Value}
use Rattle.vol_types.specs.declared.values.Value.TheVariants as values
use Rattle.tree_nodes.specs.Levels.{Level, Levels, EndsAt, children_of, least_of, level_of}

-- a node as an entry of the node above it
abbrev pub entry_of : Pos × NodePtr → Pos × Value
entry_of node = (node.0, values.Node node.1)

-- what the node of a level above the leaves holds that ends at a position: its children
abbrev pub content_of : Levels → ℕ → Pos → Entries
content_of levels level at = map entry_of (children_of at (level_of levels level) (level_of levels (level - 1)))

-- the entries up to a position, which is included
abbrev pub entries_up_to : Pos → Entries → Entries
entries_up_to pos entries = filter (λ entry. is_le (pos_cmp entry.0 pos)) entries

-- the entries after a position
abbrev pub entries_past : Pos → Entries → Entries
entries_past pos entries = filter (λ entry. is_lt (pos_cmp pos entry.0)) entries

-- the entries after updates, in their order
abbrev pub entries_after : List Update → Entries → Entries
entries_after [] entries = entries
entries_after (update ∷ updates) entries = entries_after updates (put_at pos_cmp update.pos update.value entries)

-- the updates in the range of the node of a level that ends at a position
abbrev pub updates_within : Pos → Level → List Update → List Update
updates_within at nodes updates = filter (λ update. is_within (least_of at nodes) at update.pos) updates

-- The updates in the range of each node of a level make what it holds in the new levels of what it held in the old ones.
abbrev pub Turn : ℕ → List Update → Levels → Levels → Type 0
Turn level updates old new = (at : Pos) → EndsAt (level_of old level) at → content_of new level at ≡ entries_after (updates_within at (level_of old level) updates) (content_of old level at)

-- the update that puts a node into the one above it
abbrev pub node_update : Btree → ℕ → Pos → NodePtr → Update
node_update btree level at node = record { btree = btree; level = level; pos = at; value = Some (values.Node node) }

-- the updates that follow where two nodes take the place of one: the root has no node above it
abbrev pub split_updates : Btree → Levels → ℕ → Pos → Pos → NodePtr → NodePtr → List Update
split_updates btree levels level greatest at first second =
    if level + 1 == length levels then [] else node_update btree (level + 1) at first ∷ node_update btree (level + 1) greatest second ∷ []

-- the update that follows where a node gets another pointer
abbrev pub rewrite_updates : Btree → Levels → ℕ → Pos → NodePtr → List Update
rewrite_updates btree levels level greatest fresh = if level + 1 == length levels then [] else node_update btree (level + 1) greatest fresh ∷ []
