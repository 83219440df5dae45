-- Btrees that were read, with updates of their keys, and which updates are of leaves.
use Rattle.std.specs.Prelude.{◌≡◌, List}
use Rattle.vol_types.specs.KeyMaps.{with_updates}
use Rattle.vol_types.specs.Widths.{PosFits}
use Rattle.vol_types.specs.declared.keys.Update.{Update}
use Rattle.image_view.specs.Trees.{TreesRead}

-- The update is of a key in a leaf, at a position that has its widths.
pub record IsOfLeaf (update : Update) : Type 0 where
  pub level : update.level ≡ 0
  pub fits : PosFits update.pos

-- the same nodes, and the keys with updates
abbrev pub with_key_updates : List Update → TreesRead → TreesRead
with_key_updates updates read = record { keys = with_updates updates read.keys; nodes = read.nodes; ends = read.ends }
