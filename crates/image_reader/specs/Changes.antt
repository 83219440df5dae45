-- The updates of one level of a btree as what they leave at each position, and what that makes of a node's entries.
use Rattle.std.specs.Prelude.{ℕ, Bool, ◌&&◌, ◌==◌, if◌then◌else◌, List, [], ◌∷◌, Option}
use Rattle.std.specs.List.{filter}
use Rattle.vol_types.specs.Btrees.{btree_code}
use Rattle.vol_types.specs.KeyMaps.{Entries}
use Rattle.vol_types.specs.Maps.{put_at, with_value}
use Rattle.vol_types.specs.Positions.{is_within, pos_cmp}
use Rattle.vol_types.specs.declared.keys.Update.{Update}
use Rattle.vol_types.specs.declared.positions.Btree.{Btree}
use Rattle.vol_types.specs.declared.positions.Pos.{Pos}
use Rattle.vol_types.specs.declared.values.Value.{Value}

-- at each position the last value that was put there, or none where it was taken away
abbrev pub Changes : Type 0
Changes = List (Pos × Option Value)

-- whether an update is one of a level of a btree
abbrev pub is_of_level : Btree → ℕ → Update → Bool
is_of_level btree level update = btree_code update.btree == btree_code btree && update.level == level

-- the changes after an update
abbrev pub noted : Btree → ℕ → Update → Changes → Changes
noted btree level update changes = if is_of_level btree level update then with_value pos_cmp update.pos update.value changes else changes

-- the changes after updates, in their order
abbrev pub all_noted : Btree → ℕ → List Update → Changes → Changes
all_noted btree level [] changes = changes
all_noted btree level (update ∷ updates) changes = all_noted btree level updates (noted btree level update changes)

-- the changes in a range
abbrev pub changes_within : Pos → Pos → Changes → Changes
changes_within least greatest changes = filter (λ change. is_within least greatest change.0) changes

-- entries with each change made
abbrev pub with_changes : Changes → Entries → Entries
with_changes [] entries = entries
with_changes (change ∷ changes) entries = with_changes changes (put_at pos_cmp change.0 change.1 entries)
