-- What the updates of a commit do to the records of snapshot ids.
use Rattle.std.specs.Prelude.{◌≡◌, ℕ, ◌<◌, ◌^◌, Bool, true, false, ◌&&◌, ◌==◌, ◌⊎◌, Option, Some, None, IsSome, List, if◌then◌else◌}
use Rattle.std.specs.List.{fold}
use Rattle.std.specs.Ordering.{nat_cmp}
use Rattle.vol_types.specs.Maps.{with_value, without}
use Rattle.vol_types.specs.declared.keys.Update.{Update}
use Rattle.vol_types.specs.declared.positions.Btree.{Btree}
use Rattle.vol_types.specs.declared.positions.Btree.TheVariants.{Snapshots}
use Rattle.vol_types.specs.declared.values.Value.{Value}
use Rattle.vol_types.specs.declared.values.Value.TheVariants as values
use Rattle.snap_tree.specs.Snaps.{Snaps, snap_of}

-- whether a btree is that of the snapshot ids
abbrev pub is_snapshots : Btree → Bool
is_snapshots Snapshots = true
is_snapshots other = false

-- whether an update is made to a leaf of the btree of the snapshot ids
abbrev pub is_of_snaps : Update → Bool
is_of_snaps update = is_snapshots update.btree && (update.level == 0)

-- The update gives a snapshot id its record, or takes it away.
pub record IsSnapUpdate (update : Update) : Type 0 where
  pub inode : update.pos.inode ≡ 0
  pub id : update.pos.offset < 2 ^ 32
  pub snapshot : update.pos.snapshot ≡ 0
  pub snap : (update.value ≡ None) ⊎ IsSome (snap_of update.value)

-- If the update is one of snapshot ids, it is of an id and its record.
abbrev pub IsFitting : Update → Type 0
IsFitting update = is_of_snaps update ≡ true → IsSnapUpdate update

-- the records after one id is given this value, or none
abbrev pub with_change : Snaps → ℕ → Option Value → Snaps
with_change snaps id None = without nat_cmp id snaps
with_change snaps id (Some (values.Snap snap)) = with_value nat_cmp id snap snaps
with_change snaps id other = snaps

-- the records after an update, which leaves them where it is of something else
abbrev pub with_update : Snaps → Update → Snaps
with_update snaps update = if is_of_snaps update then with_change snaps update.pos.offset update.value else snaps

-- the records after updates, in their order
abbrev pub snaps_after : Snaps → List Update → Snaps
snaps_after snaps updates = fold with_update snaps updates
