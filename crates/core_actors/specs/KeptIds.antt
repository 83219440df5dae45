-- The trees of snapshot ids that are kept beside the keys.
use Rattle.std.specs.Arc.{arc_value}
use Rattle.std.specs.declared.sync.Arc.{Arc}
use Rattle.std.specs.Prelude.{◌≡◌, ⊤, Option, Some, None}
use Rattle.dirty_nodes.specs.Ids.{id_trees}
use Rattle.snap_tree.specs.Snaps.{Snaps}
use Rattle.vol_types.specs.KeyMaps.{KeyMap}

-- They are those of the key map, if they are there.
abbrev pub AreIds : {Z : Type 0} → Option (Arc Snaps Z) → KeyMap → Type 0
AreIds None keys = ⊤
AreIds (Some ids) keys = arc_value ids ≡ id_trees keys
