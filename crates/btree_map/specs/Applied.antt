-- What updates do to the keys of btrees: what the positions that they change had before them, and how they are made in
-- all btrees at once.
use Rattle.std.specs.Prelude.{◌≡◌, ◌==◌, ℕ, if◌then◌else◌, Option, None, Some, List, [], ◌∷◌, length, slice_get, slice_index_or, slice_set, unwrap_or}
use Rattle.btree_map.specs.Trees.{no_cut}
use Rattle.tree_keys.specs.Changes.{AreLast, made, placed}
use Rattle.tree_keys.specs.Cuts.{Cut}
use Rattle.vol_types.specs.Btrees.{btree_code}
use Rattle.vol_types.specs.KeyMaps.{KeyMap, value_in, with_update, with_updates}
use Rattle.vol_types.specs.Maps.{value_at, with_value}
use Rattle.vol_types.specs.Positions.{pos_cmp}
use Rattle.vol_types.specs.declared.keys.Update.{Update}
use Rattle.vol_types.specs.declared.positions.Btree.{Btree}
use Rattle.vol_types.specs.declared.positions.Pos.{Pos}
use Rattle.vol_types.specs.declared.values.Value.{Value}

-- the value at the position of an update; none where the update is of a level above the leaves
abbrev pub value_under : Update → KeyMap → Option Value
value_under update keys = if update.level == 0 then value_in keys update.btree update.pos else None

-- for each update, made in turn, the value that was at its position before it
abbrev pub values_before : List Update → KeyMap → List (Option Value)
values_before [] keys = []
values_before (update ∷ updates) keys = value_under update keys ∷ values_before updates (with_update update keys)

-- for positions that updates touch their last values
abbrev pub Last : Type 0
Last = List (Pos × Option Value)

-- the last values of a btree
abbrev pub last_in : List Last → Btree → Last
last_in last btree = slice_index_or last (btree_code btree) []

-- the last values with those of one more update
abbrev pub noted : Update → List Last → List Last
noted update last = if update.level == 0 then slice_set last (btree_code update.btree) (with_value pos_cmp update.pos update.value (last_in last update.btree)) else last

-- the value at the position of an update after those that were noted
abbrev pub value_noted : Update → List Last → KeyMap → Option Value
value_noted update last keys = if update.level == 0 then unwrap_or (value_at pos_cmp update.pos (last_in last update.btree)) (value_in keys update.btree update.pos) else None

-- The last values of each btree are those of updates, and so are the values that each position had before.
pub record ArePlanned (keys : KeyMap) (updates : List Update) (last : List Last) (before : List (Option Value)) : Type 0 where
  pub count : length last ≡ 9
  pub each : (btree : Btree) → AreLast (last_in last btree)
  pub known : (btree : Btree) (pos : Pos) → unwrap_or (value_at pos_cmp pos (last_in last btree)) (value_in keys btree pos) ≡ value_in (with_updates updates keys) btree pos
  pub earlier : before ≡ values_before updates keys

-- keys with last values, where there are any
abbrev pub made_of : Option Last → Cut → Cut
made_of None cut = cut
made_of (Some last) cut = made last (placed last cut)

-- The keys of each btree got their last values, and those of a btree without any are as they were.
pub record AreMade (last : List Last) (old new : List Cut) : Type 0 where
  pub count : length new ≡ length old
  pub each : (code : ℕ) → slice_index_or new code no_cut ≡ made_of (slice_get last code) (slice_index_or old code no_cut)
